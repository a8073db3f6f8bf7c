-- How large the numbers of a family are: each lies within its variable's range, so its first number, its step and how many there
-- are do too.
use mathlib.Core.Path.{◌≡◌, refl, sym, ap}
use mathlib.Core.Logic.{◌⊎◌, inl, inr}
use Prim.Native.Nat.{ℕ, zero, suc, ◌≤◌, ◌<◌}
use Rattle.ints.specs.Within.{Within}
use Rattle.ints.proofs.{ℤ, pos, neg_ℤ, ◌+ℤ◌, ◌-ℤ◌, ◌*ℤ◌, ◌≤ℤ◌, ◌<ℤ◌, [], ◌∷◌, arith, lin, ◌&◌, facts, prod}
use Rattle.ints.proofs.Order.{below_or_above}
use Rattle.runs.specs.declared.Run.{Run}
use Rattle.runs.specs.Run.{bound, nth}
use Rattle.runs.proofs.ClassInInterval.{one_less}
use Rattle.families.specs.FamilyRun.{FamilyRun}

-- how many there are: none, one or more
data Size (n : ℕ) : Type 0 where
  none : n ≡ 0 → Size n
  one : n ≡ 1 → Size n
  more : 2 ≤ n → Size n

size : (n : ℕ) → Size n
size zero = none refl
size (suc zero) = one refl
size (suc (suc n)) = more (omega arith)

module _ {r : Run} (f : FamilyRun r) where
  pub member_Within : (k : ℕ) → k < r.many → Within bound (nth r k)
  member_Within k h = f.inside (nth r k) record { place = k; below = h; is = refl }

  pub first-Within : Within bound r.first
  first-Within = go (size r.many)
    where
      go : Size r.many → Within bound r.first
      go (none e) = lin (r.first ∷ []) (f.empty e) (search facts depth 20) (omega arith)
      go (one e) = lin (r.first ∷ r.step ∷ []) (member_Within 0 (omega arith)) (search facts depth 20) (omega arith)
      go (more h) = lin (r.first ∷ r.step ∷ []) (member_Within 0 (omega arith)) (search facts depth 20) (omega arith)

  pub step-Within : Within 2000000000 r.step
  step-Within = go (size r.many)
    where
      go : Size r.many → Within 2000000000 r.step
      go (none e) = lin (r.step ∷ []) (f.moves.rests (omega arith)) (search facts depth 20) (omega arith)
      go (one e) = lin (r.step ∷ []) (f.moves.rests (omega arith)) (search facts depth 20) (omega arith)
      go (more h) = lin (r.first ∷ r.step ∷ []) (member_Within 0 (omega arith) & member_Within 1 (omega arith)) (search facts depth 20) (omega arith)

  -- the last number; of none, 0
  last_of : (n : ℕ) → r.many ≡ suc n → Within bound (r.first +ℤ r.step *ℤ (pos r.many -ℤ pos 1))
  last_of n e = lin (r.first ∷ r.step ∷ pos r.many ∷ pos n ∷ []) (member_Within n (omega arith) & ap_step) (search facts depth 20) (omega arith)
    where
      ap_step : r.step *ℤ pos n ≡ r.step *ℤ (pos r.many -ℤ pos 1)
      ap_step = ap (λ t. r.step *ℤ t) (sym (one_less r.many n e))

  pub last_Within : Within bound (r.first +ℤ r.step *ℤ (pos r.many -ℤ pos 1))
  last_Within = go r.many refl
    where
      go : (n : ℕ) → r.many ≡ n → Within bound (r.first +ℤ r.step *ℤ (pos r.many -ℤ pos 1))
      go zero e = rw (f.moves.rests (omega arith), f.empty e) (lin (pos r.many ∷ []) e (search facts depth 20) (omega arith))
      go (suc n) e = last_of n e

  -- no more numbers than the range has
  pub many_within : r.many ≤ 2000000001
  many_within = go (size r.many)
    where
      go : Size r.many → r.many ≤ 2000000001
      go (none e) = omega arith
      go (one e) = omega arith
      go (more h) = turns (below_or_above r.step (f.moves.moves h))
        where
          n : ℤ
          n = pos r.many -ℤ pos 1

          n_above : pos 0 ≤ℤ n
          n_above = lin (pos r.many ∷ []) h (search facts depth 20) (omega arith)

          ends : (first step n : ℤ) → Within bound first → Within bound (first +ℤ step *ℤ n) → n ≤ℤ (step *ℤ n) → n ≤ℤ pos 2000000000
          ends first step n a b c = lin (first ∷ step ∷ n ∷ []) (a & b & c) (search facts depth 20) (omega arith)

          ends_down : (first step n : ℤ) → Within bound first → Within bound (first +ℤ step *ℤ n) → n ≤ℤ neg_ℤ (step *ℤ n) → n ≤ℤ pos 2000000000
          ends_down first step n a b c = lin (first ∷ step ∷ n ∷ []) (a & b & c) (search facts depth 20) (omega arith)

          far : (step n : ℤ) → pos 0 <ℤ step → pos 0 ≤ℤ n → n ≤ℤ (step *ℤ n)
          far step n a b =
              let a' : pos 1 ≤ℤ step = lin (step ∷ []) a (search facts depth 20) (omega arith) in
              lin (step ∷ n ∷ []) (prod a' b) (search facts depth 20) (omega arith)

          far_down : (step n : ℤ) → step <ℤ pos 0 → pos 0 ≤ℤ n → n ≤ℤ neg_ℤ (step *ℤ n)
          far_down step n a b =
              let a' : step ≤ℤ neg_ℤ (pos 1) = lin (step ∷ []) a (search facts depth 20) (omega arith) in
              lin (step ∷ n ∷ []) (prod a' b) (search facts depth 20) (omega arith)

          close : n ≤ℤ pos 2000000000 → r.many ≤ 2000000001
          close l = lin (pos r.many ∷ []) l (search facts depth 20) (omega arith)

          turns : (r.step <ℤ pos 0) ⊎ (pos 0 <ℤ r.step) → r.many ≤ 2000000001
          turns (inl l) = close (ends_down r.first r.step n first-Within last_Within (far_down r.step n l n_above))
          turns (inr l) = close (ends r.first r.step n first-Within last_Within (far r.step n l n_above))
