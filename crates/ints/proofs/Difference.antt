-- Integers as differences of naturals: how a statement over ℤ becomes one over ℕ, which `omega` proves.
-- Only the files below the two solvers use this; above them, use the solvers.
use mathlib.Core.Path.{◌≡◌, refl, sym, ap, subst}
use mathlib.Core.Logic.{◌↔◌}
use mathlib.Core.Bool.{Bool, true, false, not, cond}
use Prim.Native.Nat.{ℕ, zero, suc, ◌+◌, ◌*◌, ◌-◌, ◌≤◌, ◌<◌}
use native.Mathlib.Omega.{arith}
use lib.Dec.{T, ltb, ltb→lt, nltb→le, leb→le, le→leb, lt→ltb}
use lib.IntN.{ℤ, pos, negsuc, neg_ℤ, sub_ℕ, ◌+ℤ◌, ◌*ℤ◌}
use lib.Signed.{◌≤ℤ◌, ◌<ℤ◌, le_z_yes, lt_z_yes}

-- x is pos_part x less neg_part x
abbrev pub pos_part : ℤ → ℕ
pos_part (pos n) = n
pos_part (negsuc n) = 0

abbrev pub neg_part : ℤ → ℕ
neg_part (pos n) = 0
neg_part (negsuc n) = suc n

-- a difference; shut, so that it does not compute to a test
infixl 6 ◌⊖◌
pub ◌⊖◌ : ℕ → ℕ → ℤ
a ⊖ b = sub_ℕ a b

-- ---- the parts of a difference, a sum, a negation and a product
sub_parts : (a b : ℕ) → pos_part (sub_ℕ a b) + b ≡ neg_part (sub_ℕ a b) + a
sub_parts a b = go (ltb a b) (ltb→lt a b) (nltb→le a b)
  where
    go : (c : Bool) → (T c → a < b) → (T (not c) → b ≤ a) →
        pos_part (cond c (negsuc (b - suc a)) (pos (a - b))) + b ≡ neg_part (cond c (negsuc (b - suc a)) (pos (a - b))) + a
    go true f g = let h : a < b = f tt in omega arith
    go false f g = let h : b ≤ a = g tt in omega arith

⊖_parts : (a b : ℕ) → pos_part (a ⊖ b) + b ≡ neg_part (a ⊖ b) + a
unfolding ◌⊖◌
⊖_parts a b = sub_parts a b

add_parts : (x y : ℤ) → pos_part (x +ℤ y) + (neg_part x + neg_part y) ≡ neg_part (x +ℤ y) + (pos_part x + pos_part y)
add_parts (pos a) (pos b) = omega arith
add_parts (pos a) (negsuc b) = omega (arith, sub_parts a (suc b))
add_parts (negsuc a) (pos b) = omega (arith, sub_parts b (suc a))
add_parts (negsuc a) (negsuc b) = omega arith

neg_parts : (x : ℤ) → pos_part (neg_ℤ x) + pos_part x ≡ neg_part (neg_ℤ x) + neg_part x
neg_parts (pos zero) = refl
neg_parts (pos (suc a)) = omega arith
neg_parts (negsuc a) = omega arith

mul_parts : (x y : ℤ) →
    pos_part (x *ℤ y) + (pos_part x * neg_part y + neg_part x * pos_part y) ≡ neg_part (x *ℤ y) + (pos_part x * pos_part y + neg_part x * neg_part y)
mul_parts (pos a) (pos b) = omega arith
mul_parts (pos a) (negsuc b) = omega (arith, neg_parts (pos (a * suc b)))
mul_parts (negsuc a) (pos b) = omega (arith, neg_parts (pos (suc a * b)))
mul_parts (negsuc a) (negsuc b) = omega arith

-- ---- equality and order by parts
by_parts : (x y : ℤ) → pos_part x + neg_part y ≡ pos_part y + neg_part x → x ≡ y
by_parts (pos a) (pos b) e = ap pos (omega arith)
by_parts (pos a) (negsuc b) e = absurd (omega arith)
by_parts (negsuc a) (pos b) e = absurd (omega arith)
by_parts (negsuc a) (negsuc b) e = ap negsuc (omega arith)

pub le_parts : (x y : ℤ) → (x ≤ℤ y) ↔ (pos_part x + neg_part y ≤ pos_part y + neg_part x)
le_parts (pos a) (pos b) = (λ h. omega (arith, leb→le a b h.le), λ h. le_z_yes (le→leb a b (omega arith)))
le_parts (pos a) (negsuc b) = (λ h. absurd h.le, λ h. absurd (omega arith))
le_parts (negsuc a) (pos b) = (λ h. omega arith, λ h. le_z_yes tt)
le_parts (negsuc a) (negsuc b) = (λ h. omega (arith, leb→le b a h.le), λ h. le_z_yes (le→leb b a (omega arith)))

pub lt_parts : (x y : ℤ) → (x <ℤ y) ↔ (pos_part x + neg_part y < pos_part y + neg_part x)
lt_parts (pos a) (pos b) = (λ h. omega (arith, ltb→lt a b h.lt), λ h. lt_z_yes (lt→ltb a b (omega arith)))
lt_parts (pos a) (negsuc b) = (λ h. absurd h.lt, λ h. absurd (omega arith))
lt_parts (negsuc a) (pos b) = (λ h. omega arith, λ h. lt_z_yes tt)
lt_parts (negsuc a) (negsuc b) = (λ h. omega (arith, ltb→lt b a h.lt), λ h. lt_z_yes (lt→ltb b a (omega arith)))

-- ---- the laws of a difference; `simp differences` leaves a statement over ℕ
pub ⊖-eq : (a b c d : ℕ) → (a ⊖ b ≡ c ⊖ d) ↔ (a + d ≡ c + b)
⊖-eq a b c d = (
  λ e. omega (arith, ⊖_parts a b, ⊖_parts c d, ap pos_part e, ap neg_part e),
  λ e. by_parts (a ⊖ b) (c ⊖ d) (omega (arith, ⊖_parts a b, ⊖_parts c d)),
)

pub ⊖-le : (a b c d : ℕ) → ((a ⊖ b) ≤ℤ (c ⊖ d)) ↔ (a + d ≤ c + b)
⊖-le a b c d = (
  λ h. omega (arith, (le_parts (a ⊖ b) (c ⊖ d)).0 h, ⊖_parts a b, ⊖_parts c d),
  λ h. (le_parts (a ⊖ b) (c ⊖ d)).1 (omega (arith, ⊖_parts a b, ⊖_parts c d)),
)

pub ⊖-lt : (a b c d : ℕ) → ((a ⊖ b) <ℤ (c ⊖ d)) ↔ (a + d < c + b)
⊖-lt a b c d = (
  λ h. omega (arith, (lt_parts (a ⊖ b) (c ⊖ d)).0 h, ⊖_parts a b, ⊖_parts c d),
  λ h. (lt_parts (a ⊖ b) (c ⊖ d)).1 (omega (arith, ⊖_parts a b, ⊖_parts c d)),
)

pub ⊖-add : (a b c d : ℕ) → (a ⊖ b) +ℤ (c ⊖ d) ≡ (a + c) ⊖ (b + d)
⊖-add a b c d = by_parts _ _ (omega (arith, add_parts (a ⊖ b) (c ⊖ d), ⊖_parts a b, ⊖_parts c d, ⊖_parts (a + c) (b + d)))

pub ⊖-neg : (a b : ℕ) → neg_ℤ (a ⊖ b) ≡ b ⊖ a
⊖-neg a b = by_parts _ _ (omega (arith, neg_parts (a ⊖ b), ⊖_parts a b, ⊖_parts b a))

pub ⊖-mul : (a b c d : ℕ) → (a ⊖ b) *ℤ (c ⊖ d) ≡ (a * c + b * d) ⊖ (a * d + b * c)
⊖-mul a b c d = by_parts _ _ (omega (
  arith,
  mul_parts (a ⊖ b) (c ⊖ d),
  ⊖_parts (a * c + b * d) (a * d + b * c),
  ap (λ t. t * pos_part (c ⊖ d)) (⊖_parts a b),
  ap (λ t. t * neg_part (c ⊖ d)) (⊖_parts a b),
  ap (λ t. a * t) (⊖_parts c d),
  ap (λ t. b * t) (⊖_parts c d),
))

pub pos-⊖ : (n : ℕ) → pos n ≡ n ⊖ 0
pos-⊖ n = by_parts _ _ (omega (arith, ⊖_parts n 0))

pub negsuc-⊖ : (n : ℕ) → negsuc n ≡ 0 ⊖ suc n
negsuc-⊖ n = by_parts _ _ (omega (arith, ⊖_parts 0 (suc n)))

pub ruleset differences = (⊖-add, ⊖-neg, ⊖-mul, pos-⊖, negsuc-⊖, ⊖-eq, ⊖-le, ⊖-lt)

-- ---- every integer is a difference, so what holds of differences holds of integers
pub parts : (x : ℤ) → x ≡ pos_part x ⊖ neg_part x
parts x = by_parts _ _ (omega (arith, ⊖_parts (pos_part x) (neg_part x)))

pub for1 : (P : ℤ → Type 0) → ((a b : ℕ) → P (a ⊖ b)) → (x : ℤ) → P x
for1 P f x = subst P (sym (parts x)) (f (pos_part x) (neg_part x))

pub for2 : (P : ℤ → ℤ → Type 0) → ((a b c d : ℕ) → P (a ⊖ b) (c ⊖ d)) → (x y : ℤ) → P x y
for2 P f = for1 _ (λ a b. for1 _ (f a b))

pub for3 : (P : ℤ → ℤ → ℤ → Type 0) → ((a b c d e f : ℕ) → P (a ⊖ b) (c ⊖ d) (e ⊖ f)) → (x y z : ℤ) → P x y z
for3 P f = for1 _ (λ a b. for2 _ (f a b))

pub for4 : (P : ℤ → ℤ → ℤ → ℤ → Type 0) → ((a b c d e f g h : ℕ) → P (a ⊖ b) (c ⊖ d) (e ⊖ f) (g ⊖ h)) → (x y z w : ℤ) → P x y z w
for4 P f = for1 _ (λ a b. for3 _ (f a b))
