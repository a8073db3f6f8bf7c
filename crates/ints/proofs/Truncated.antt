-- The machine's division, rounded towards zero (the kit's quot_z and rem_z), and the step from it to division rounded down.
use mathlib.Core.Path.{◌≡◌, refl, ap}
use mathlib.Core.List.{List, [], ◌∷◌}
use Prim.Native.Nat.{ℕ, zero, suc, ◌/◌, ◌%◌, ◌<◌}
use native.Mathlib.Nat.{div-add-mod, mod-lt, zero-lt-suc, div-le_self, mod-le, le_trans}
use native.Mathlib.Omega.{arith}
use lib.IntN.{ℤ, pos, negsuc, neg_ℤ, nat_abs, ◌+ℤ◌, ◌-ℤ◌, ◌*ℤ◌}
use lib.Signed.{◌≤ℤ◌, ◌<ℤ◌, quot_z, rem_z}
use Rattle.ints.specs.Within.{Within}
use Rattle.ints.specs.Floor.{floor_div}
use Rattle.ints.proofs.Order.{nat_nonneg, nat_not_below}
use Rattle.ints.proofs.Linear.{facts, lin, lin₀}
use Rattle.ints.proofs.Products.{abs-neg}
use Rattle.ints.proofs.Floor.{div_mod_unique, div_mod_unique_neg}

-- ---- quotient × divisor + remainder
-- from sizes to the four pairs of signs
turn_d : (d q r n : ℤ) → d *ℤ q +ℤ r ≡ n → neg_ℤ d *ℤ neg_ℤ q +ℤ r ≡ n
turn_d d q r n e = lin (d ∷ q ∷ r ∷ n ∷ []) e (search facts depth 20) (omega arith)

turn_n : (d q r n : ℤ) → d *ℤ q +ℤ r ≡ n → d *ℤ neg_ℤ q +ℤ neg_ℤ r ≡ neg_ℤ n
turn_n d q r n e = lin (d ∷ q ∷ r ∷ n ∷ []) e (search facts depth 20) (omega arith)

turn_both : (d q r n : ℤ) → d *ℤ q +ℤ r ≡ n → neg_ℤ d *ℤ q +ℤ neg_ℤ r ≡ neg_ℤ n
turn_both d q r n e = lin (d ∷ q ∷ r ∷ n ∷ []) e (search facts depth 20) (omega arith)

pub quot-rem : (n d : ℤ) → d *ℤ quot_z n d +ℤ rem_z n d ≡ n
quot-rem (pos a) (pos b) = ap pos (div-add-mod a b)
quot-rem (pos a) (negsuc b) = turn_d (pos (suc b)) (pos (a / suc b)) (pos (a % suc b)) (pos a) (ap pos (div-add-mod a (suc b)))
quot-rem (negsuc a) (pos b) = turn_n (pos b) (pos (suc a / b)) (pos (suc a % b)) (pos (suc a)) (ap pos (div-add-mod (suc a) b))
quot-rem (negsuc a) (negsuc b) = turn_both (pos (suc b)) (pos (suc a / suc b)) (pos (suc a % suc b)) (pos (suc a)) (ap pos (div-add-mod (suc a) (suc b)))

-- ---- the remainder is smaller than the divisor
small : (r d : ℕ) → r < d → ((neg_ℤ (pos d) <ℤ pos r) × (pos r <ℤ pos d)) × ((neg_ℤ (pos d) <ℤ neg_ℤ (pos r)) × (neg_ℤ (pos r) <ℤ pos d))
small r d l = lin₀ (pos r ∷ pos d ∷ []) (search facts depth 20) (omega arith)

pub rem_range : (n d : ℤ) → pos 0 <ℤ d → (neg_ℤ d <ℤ rem_z n d) × (rem_z n d <ℤ d)
rem_range n (negsuc d) h = absurd h.lt
rem_range n (pos zero) h = absurd h.lt
rem_range (pos a) (pos (suc d)) h = (small (a % suc d) (suc d) (mod-lt a (zero-lt-suc d))).0
rem_range (negsuc a) (pos (suc d)) h = (small (suc a % suc d) (suc d) (mod-lt (suc a) (zero-lt-suc d))).1

pub rem_range_neg : (n d : ℤ) → d <ℤ pos 0 → (d <ℤ rem_z n d) × (rem_z n d <ℤ neg_ℤ d)
rem_range_neg n (pos d) h = nat_not_below d h
rem_range_neg (pos a) (negsuc d) h = (small (a % suc d) (suc d) (mod-lt a (zero-lt-suc d))).0
rem_range_neg (negsuc a) (negsuc d) h = (small (suc a % suc d) (suc d) (mod-lt (suc a) (zero-lt-suc d))).1

-- ---- one less where remainder and divisor have opposite signs, and else the same
module _ (n d : ℤ) where
  abbrev ρ : List ℤ
  ρ = n ∷ d ∷ quot_z n d ∷ rem_z n d ∷ []

  pub floor_same : pos 0 <ℤ d → pos 0 ≤ℤ rem_z n d → quot_z n d ≡ floor_div n d
  floor_same h r = (div_mod_unique n d (quot_z n d) (rem_z n d) h (quot-rem n d) r (rem_range n d h).1).0

  pub floor_less : pos 0 <ℤ d → rem_z n d <ℤ pos 0 → quot_z n d -ℤ pos 1 ≡ floor_div n d
  floor_less h r =
      (div_mod_unique n d (quot_z n d -ℤ pos 1) (rem_z n d +ℤ d) h
      (lin ρ (quot-rem n d) (search facts depth 20) (omega arith))
      (lin ρ (rem_range n d h) (search facts depth 20) (omega arith))
      (lin ρ r (search facts depth 20) (omega arith))
      ).0

  pub floor_same_neg : d <ℤ pos 0 → rem_z n d ≤ℤ pos 0 → quot_z n d ≡ floor_div n d
  floor_same_neg h r = (div_mod_unique_neg n d (quot_z n d) (rem_z n d) h (quot-rem n d) (rem_range_neg n d h).0 r).0

  pub floor_less_neg : d <ℤ pos 0 → pos 0 <ℤ rem_z n d → quot_z n d -ℤ pos 1 ≡ floor_div n d
  floor_less_neg h r =
      (div_mod_unique_neg n d (quot_z n d -ℤ pos 1) (rem_z n d +ℤ d) h
      (lin ρ (quot-rem n d) (search facts depth 20) (omega arith))
      (lin ρ r (search facts depth 20) (omega arith))
      (lin ρ (rem_range_neg n d h) (search facts depth 20) (omega arith))
      ).0

-- ---- neither is larger than the dividend
pub Within-quot : {A : ℕ} {n : ℤ} (d : ℤ) → Within A n → Within A (quot_z n d)
Within-quot {n = pos a} (pos b) h = record { size = le_trans (div-le_self a b) h.size }
Within-quot {n = pos a} (negsuc b) h = record { size = rw (abs-neg (a / suc b)) (le_trans (div-le_self a (suc b)) h.size) }
Within-quot {n = negsuc a} (pos b) h = record { size = rw (abs-neg (suc a / b)) (le_trans (div-le_self (suc a) b) h.size) }
Within-quot {n = negsuc a} (negsuc b) h = record { size = le_trans (div-le_self (suc a) (suc b)) h.size }

pub abs-rem : (n d : ℤ) → nat_abs (rem_z n d) ≡ nat_abs n % nat_abs d
abs-rem (pos n) d = refl
abs-rem (negsuc n) d = abs-neg (suc n % nat_abs d)

pub Within-rem : {A : ℕ} {n : ℤ} (d : ℤ) → Within A n → Within A (rem_z n d)
Within-rem {n} d h = record { size = rw (abs-rem n d) (le_trans (mod-le (nat_abs n) (nat_abs d)) h.size) }

-- ---- of numbers that are not negative
pub quot_nonneg : (n d : ℤ) → pos 0 ≤ℤ n → pos 0 ≤ℤ d → pos 0 ≤ℤ quot_z n d
quot_nonneg (pos n) (pos d) h k = nat_nonneg (n / d)
quot_nonneg (pos n) (negsuc d) h k = absurd k.le
quot_nonneg (negsuc n) d h k = absurd h.le

pub rem_nonneg : (n d : ℤ) → pos 0 ≤ℤ n → pos 0 ≤ℤ rem_z n d
rem_nonneg (pos n) d h = nat_nonneg (n % nat_abs d)
rem_nonneg (negsuc n) d h = absurd h.le
