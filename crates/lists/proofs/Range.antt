-- The members of a range, and that it rises.
use mathlib.Core.Path.{◌≡◌, refl}
use mathlib.Core.Logic.Iff
use mathlib.Core.Logic.{◌↔◌}
use mathlib.Core.Bool.{Bool, true, false, cond}
use Prim.Native.Nat.{ℕ, suc, ◌<◌}
use Rattle.ints.proofs.{ℤ, pos, nat_abs, ◌+ℤ◌, ◌-ℤ◌, ◌≤ℤ◌, ◌<ℤ◌, lt_z, [], ◌∷◌, arith, facts, lin, lin₀, ◌&◌}
use Rattle.ints.proofs.Order.{abs_nonneg}
use Rattle.lists.specs.Members.{◌∈◌}
use Rattle.lists.specs.Rising.{Rising}
use Rattle.lists.specs.Range.{width, range}
use Rattle.lists.proofs.Table.{in-table, Rising-table}

-- lo + k is at most hi exactly for the k below the width
width_iff : (lo hi : ℤ) (k : ℕ) → (k < width lo hi) ↔ ((lo +ℤ pos k) ≤ℤ hi)
unfolding width
width_iff lo hi k = go (lt_z hi lo) refl
  where
    go : (b : Bool) → lt_z hi lo ≡ b → (k < cond b 0 (suc (nat_abs (hi -ℤ lo)))) ↔ ((lo +ℤ pos k) ≤ℤ hi)
    go true t = lin (lo ∷ hi ∷ pos k ∷ []) t (search facts depth 20) (omega arith)
    go false t =
        let low : pos 0 ≤ℤ (hi -ℤ lo) = lin (lo ∷ hi ∷ []) t (search facts depth 20) (omega arith) in
        lin (lo ∷ hi ∷ pos k ∷ pos (nat_abs (hi -ℤ lo)) ∷ []) (abs_nonneg (hi -ℤ lo) low) (search facts depth 20) (omega arith)

pub Rising-range : (lo hi : ℤ) → Rising ◌<ℤ◌ (range lo hi)
unfolding range
Rising-range lo hi = Rising-table (λ k. lo +ℤ pos k) (width lo hi) (λ j k h g. lin₀ (lo ∷ pos j ∷ pos k ∷ []) (search facts depth 20) (omega arith))

pub in-range : (lo hi x : ℤ) → (x ∈ range lo hi) ↔ ((lo ≤ℤ x) × (x ≤ℤ hi))
unfolding range
in-range lo hi x = Iff.trans (in-table (λ k. lo +ℤ pos k) (width lo hi) x) (to, from)
  where
    to : (k : ℕ) × (k < width lo hi) × (x ≡ lo +ℤ pos k) → (lo ≤ℤ x) × (x ≤ℤ hi)
    to (k, h, e) = lin (lo ∷ hi ∷ x ∷ pos k ∷ []) ((width_iff lo hi k).0 h & e) (search facts depth 20) (omega arith)

    at : (k : ℕ) → x -ℤ lo ≡ pos k → x ≤ℤ hi → (k : ℕ) × (k < width lo hi) × (x ≡ lo +ℤ pos k)
    at k e h = (
      k,
      (width_iff lo hi k).1 (lin (lo ∷ hi ∷ x ∷ pos k ∷ []) (e & h) (search facts depth 20) (omega arith)),
      lin (lo ∷ x ∷ pos k ∷ []) e (search facts depth 20) (omega arith),
    )

    from : (lo ≤ℤ x) × (x ≤ℤ hi) → (k : ℕ) × (k < width lo hi) × (x ≡ lo +ℤ pos k)
    from p = at (nat_abs (x -ℤ lo)) (abs_nonneg (x -ℤ lo) (lin (lo ∷ hi ∷ x ∷ []) p (search facts depth 20) (omega arith))) p.1
