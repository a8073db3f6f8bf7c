-- Intervals: what is common to two of them, and the whole range.
use mathlib.Core.Path.{◌≡◌, refl}
use mathlib.Core.Logic.{◌↔◌}
use mathlib.Core.Bool.{Bool, true, false, cond}
use mathlib.Core.List.{[], ◌∷◌}
use Rattle.std.specs.Int.{int_max, int_min}
use Rattle.ints.specs.Within.{Within}
use Rattle.ints.proofs.{ℤ, lt_z, ◌≤ℤ◌, arith, lin, ◌&◌, facts}
use Rattle.runs.specs.Run.{full, bound}
use Rattle.runs.specs.Method.{Interval, InInterval, common, span}

-- what holds of both holds of either
pub either : {A : Type 0} (P : A → Type 0) (t : Bool) {x y : A} → P x → P y → P (cond t x y)
either P true p q = p
either P false p q = q

pub max_over : (a b : ℤ) → (a ≤ℤ int_max a b) × (b ≤ℤ int_max a b)
max_over a b = go (lt_z b a) refl
  where
    go : (t : Bool) → lt_z b a ≡ t → (a ≤ℤ cond t a b) × (b ≤ℤ cond t a b)
    go true t = lin (a ∷ b ∷ []) t (search facts depth 20) (omega arith)
    go false t = lin (a ∷ b ∷ []) t (search facts depth 20) (omega arith)

pub min_under : (a b : ℤ) → (int_min a b ≤ℤ a) × (int_min a b ≤ℤ b)
min_under a b = go (lt_z b a) refl
  where
    go : (t : Bool) → lt_z b a ≡ t → (cond t b a ≤ℤ a) × (cond t b a ≤ℤ b)
    go true t = lin (a ∷ b ∷ []) t (search facts depth 20) (omega arith)
    go false t = lin (a ∷ b ∷ []) t (search facts depth 20) (omega arith)

pub in_common : (i j : Interval) (x : ℤ) → InInterval (common i j) x ↔ (InInterval i x × InInterval j x)
in_common i j x = (to, from)
  where
    -- at most x, and at least x, both
    under : (a b : ℤ) → (int_max a b ≤ℤ x) ↔ ((a ≤ℤ x) × (b ≤ℤ x))
    under a b = go (lt_z b a) refl
      where
        go : (t : Bool) → lt_z b a ≡ t → (cond t a b ≤ℤ x) ↔ ((a ≤ℤ x) × (b ≤ℤ x))
        go true t = lin (a ∷ b ∷ x ∷ []) t (search facts depth 20) (omega arith)
        go false t = lin (a ∷ b ∷ x ∷ []) t (search facts depth 20) (omega arith)

    over : (a b : ℤ) → (x ≤ℤ int_min a b) ↔ ((x ≤ℤ a) × (x ≤ℤ b))
    over a b = go (lt_z b a) refl
      where
        go : (t : Bool) → lt_z b a ≡ t → (x ≤ℤ cond t b a) ↔ ((x ≤ℤ a) × (x ≤ℤ b))
        go true t = lin (a ∷ b ∷ x ∷ []) t (search facts depth 20) (omega arith)
        go false t = lin (a ∷ b ∷ x ∷ []) t (search facts depth 20) (omega arith)

    to : InInterval (common i j) x → InInterval i x × InInterval j x
    to h =
        let (a, b) = (under i.low j.low).0 h.low in
        let (d, e) = (over i.high j.high).0 h.high in
        (record { low = a; high = d }, record { low = b; high = e })

    from : InInterval i x × InInterval j x → InInterval (common i j) x
    from (h, k) = record { low = (under i.low j.low).1 (h.low, k.low); high = (over i.high j.high).1 (h.high, k.high) }

-- two intervals with the same ends are one
pub same_interval : {i j : Interval} → i.low ≡ j.low → i.high ≡ j.high → i ≡ j
same_interval a b = λ k. record { low = a k; high = b k }

-- the numbers within ±1,000,000,000 are an interval
pub in_whole : (x : ℤ) → Within bound x ↔ InInterval (span full) x
in_whole x = (
  λ w. record { low = lin (x ∷ []) w (search facts depth 20) (omega arith); high = lin (x ∷ []) w (search facts depth 20) (omega arith) },
  λ i. lin (x ∷ []) (i.low & i.high) (search facts depth 20) (omega arith),
)
