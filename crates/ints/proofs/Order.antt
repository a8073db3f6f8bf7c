-- The order of ℤ and the tests that decide it. Most facts of order are one line of `lin` (Linear.antt); these have names
-- because other files hand them on. The kit has ≤ℤ-refl, <ℤ-irrefl and <ℤ-≤ℤ-trans (lib.Signed).
use mathlib.Core.Path.{◌≡◌, refl, ap}
use mathlib.Core.Logic.{◌↔◌, ◌⊎◌, inl, inr, ◌≢◌}
use mathlib.Core.Bool.{Bool, true, false, not, true≢false, false≢true}
use Prim.Native.Nat.{ℕ, zero, suc, ◌<◌}
use native.Mathlib.Omega.{arith}
use lib.Dec.{T, leb→le, ltb→lt, lt→ltb, nleb→lt}
use lib.Arith.{le→nltb, lt→nleb}
use lib.IntN.{ℤ, pos, negsuc, neg_ℤ, nat_abs}
use lib.Signed.{◌≤ℤ◌, ◌<ℤ◌, lt_z, le_z, le_z_yes, lt_z_yes, lt_z_no, clash_ℤ}
use Rattle.ints.proofs.Difference.{differences, le_parts, lt_parts, for2, for3}

pub le_trans : (x y z : ℤ) → x ≤ℤ y → y ≤ℤ z → x ≤ℤ z
le_trans = for3 _ (λ a b c d e f. simp differences (omega arith))

pub le_antisym : (x y : ℤ) → x ≤ℤ y → y ≤ℤ x → x ≡ y
le_antisym = for2 _ (λ a b c d. simp differences (omega arith))

pub lt_asym : (x y : ℤ) → x <ℤ y → y <ℤ x → ⊥
lt_asym = for2 _ (λ a b c d. simp differences (omega arith))

pub lt_ne : (x y : ℤ) → x <ℤ y → x ≡ y → ⊥
lt_ne = for2 _ (λ a b c d. simp differences (omega arith))

pub lt_trans : (x y z : ℤ) → x <ℤ y → y <ℤ z → x <ℤ z
lt_trans = for3 _ (λ a b c d e f. simp differences (omega arith))

pub le-lt_trans : (x y z : ℤ) → x ≤ℤ y → y <ℤ z → x <ℤ z
le-lt_trans = for3 _ (λ a b c d e f. simp differences (omega arith))

pub nat_nonneg : (n : ℕ) → pos 0 ≤ℤ pos n
nat_nonneg n = (le_parts (pos 0) (pos n)).1 (omega arith)

pub pos_below : {m n : ℕ} → m < n → pos m <ℤ pos n
pos_below {m} {n} h = (lt_parts (pos m) (pos n)).1 (omega arith)

pub nat_not_below : {X : Type 0} (n : ℕ) → pos n <ℤ pos 0 → X
nat_not_below n h = clash_ℤ h (nat_nonneg n)

-- a number by its size
pub abs_nonneg : (x : ℤ) → pos 0 ≤ℤ x → x ≡ pos (nat_abs x)
abs_nonneg (pos n) h = refl
abs_nonneg (negsuc n) h = absurd h.le

pub abs_nonpos : (x : ℤ) → x ≤ℤ pos 0 → x ≡ neg_ℤ (pos (nat_abs x))
abs_nonpos (pos zero) h = refl
abs_nonpos (pos (suc n)) h = absurd (omega (arith, (le_parts (pos (suc n)) (pos 0)).0 h))
abs_nonpos (negsuc n) h = refl

pub abs_zero : (x : ℤ) → nat_abs x ≡ 0 → x ≡ pos 0
abs_zero (pos n) e = ap pos e
abs_zero (negsuc n) e = absurd (omega arith)

pub abs_above : {x : ℤ} → x ≢ pos 0 → 0 < nat_abs x
abs_above {x} h = let some : nat_abs x ≢ 0 = λ z. h (abs_zero x z) in omega (arith, some)

-- one of the two
pub le_or_lt : (x y : ℤ) → (x ≤ℤ y) ⊎ (y <ℤ x)
le_or_lt x y = go (lt_z y x) (λ t. lt_z_yes t) (λ t. lt_z_no t)
  where
    go : (b : Bool) → (T b → y <ℤ x) → (T (not b) → x ≤ℤ y) → (x ≤ℤ y) ⊎ (y <ℤ x)
    go true f g = inr (f tt)
    go false f g = inl (g tt)

-- the sign of a number that is not 0
pub below_or_above : (x : ℤ) → x ≢ pos 0 → (x <ℤ pos 0) ⊎ (pos 0 <ℤ x)
below_or_above (pos zero) h = absurd (h refl)
below_or_above (pos (suc n)) h = inr ((lt_parts (pos 0) (pos (suc n))).1 (omega arith))
below_or_above (negsuc n) h = inl (lt_z_yes tt)

-- ---- the tests `lt_z` and `le_z`, as definitions and branches have them
pub true_iff : (b : Bool) → (b ≡ true) ↔ T b
true_iff true = (λ e. tt, λ t. refl)
true_iff false = (λ e. absurd (false≢true e), λ t. absurd t)

pub false_iff : (b : Bool) → (b ≡ false) ↔ T (not b)
false_iff true = (λ e. absurd (true≢false e), λ t. absurd t)
false_iff false = (λ e. tt, λ t. refl)

not_lt : (x y : ℤ) → T (not (lt_z x y)) ↔ (y ≤ℤ x)
not_lt x y = (lt_z_no, λ h. go x y h)
  where
    go : (x y : ℤ) → y ≤ℤ x → T (not (lt_z x y))
    go (pos a) (pos b) h = le→nltb a b (leb→le b a h.le)
    go (pos a) (negsuc b) h = tt
    go (negsuc a) (pos b) h = absurd h.le
    go (negsuc a) (negsuc b) h = le→nltb b a (leb→le a b h.le)

not_le : (x y : ℤ) → T (not (le_z x y)) ↔ (y <ℤ x)
not_le x y = (λ t. lt_z_yes (to x y t), λ h. from x y h.lt)
  where
    to : (x y : ℤ) → T (not (le_z x y)) → T (lt_z y x)
    to (pos a) (pos b) h = lt→ltb b a (nleb→lt a b h)
    to (pos a) (negsuc b) h = tt
    to (negsuc a) (pos b) h = absurd h
    to (negsuc a) (negsuc b) h = lt→ltb a b (nleb→lt b a h)

    from : (x y : ℤ) → T (lt_z y x) → T (not (le_z x y))
    from (pos a) (pos b) h = lt→nleb a b (ltb→lt b a h)
    from (pos a) (negsuc b) h = tt
    from (negsuc a) (pos b) h = absurd h
    from (negsuc a) (negsuc b) h = lt→nleb b a (ltb→lt a b h)

pub lt_true : (x y : ℤ) → (lt_z x y ≡ true) ↔ (x <ℤ y)
lt_true x y = (λ e. lt_z_yes ((true_iff (lt_z x y)).0 e), λ h. (true_iff (lt_z x y)).1 h.lt)

pub lt_false : (x y : ℤ) → (lt_z x y ≡ false) ↔ (y ≤ℤ x)
lt_false x y = (λ e. (not_lt x y).0 ((false_iff (lt_z x y)).0 e), λ h. (false_iff (lt_z x y)).1 ((not_lt x y).1 h))

pub le_true : (x y : ℤ) → (le_z x y ≡ true) ↔ (x ≤ℤ y)
le_true x y = (λ e. le_z_yes ((true_iff (le_z x y)).0 e), λ h. (true_iff (le_z x y)).1 h.le)

pub le_false : (x y : ℤ) → (le_z x y ≡ false) ↔ (y <ℤ x)
le_false x y = (λ e. (not_le x y).0 ((false_iff (le_z x y)).0 e), λ h. (false_iff (le_z x y)).1 ((not_le x y).1 h))
