-- Each tool at work. The must-fail edits turn statements of this file false: a tool that proved one of them would be none.
use mathlib.Core.Path.{◌≡◌, refl, sym, ◌∙◌, ap}
use mathlib.Core.Logic.{◌↔◌, ◌≢◌}
use mathlib.Core.Bool.{true, false}
use mathlib.Core.List.{[], ◌∷◌}
use Prim.Native.Nat.{ℕ, ◌<◌}
use native.Mathlib.Omega.{arith}
use lib.IntN.{ℤ, pos, negsuc, ◌+ℤ◌, ◌-ℤ◌, ◌*ℤ◌}
use lib.Signed.{◌≤ℤ◌, ◌<ℤ◌, le_z, lt_z, le_z_yes, lt_z_yes}
use mir.Syntax.{w32, w64}
use mir.Val.{SFits, to_z, of_z}
use Rattle.ints.specs.Within.{Within}
use Rattle.ints.specs.Divides.{Congruent}
use Rattle.ints.specs.Floor.{floor_div, floor_mod, ceil_div}
use Rattle.reasons.specs.Answer.{gives, refused}
use Rattle.ints.specs.Division.{limit, division}
use Rattle.ints.proofs.Ring.{ring, terms}
use Rattle.ints.proofs.Linear.{lin, lin₀, ◌&◌, facts}
use Rattle.ints.proofs.Products.{prod, Within-mul}
use Rattle.ints.proofs.Signed.{signed, bits_equal}
use Rattle.ints.proofs.Floor.{floor_iff, ceil_iff, floor_iff_neg, ceil_iff_neg, floor_by_one, floor-Within}
use Rattle.ints.proofs.Answers.{gives_floor, refuses}
use Rattle.ints.proofs.Gcd.{gcd}
use Rattle.ints.proofs.Congruence.{period, class}
use Rattle.ints.proofs.Divides.{mod_least}

-- ---- ring
square : (x y : ℤ) → (x +ℤ y) *ℤ (x +ℤ y) ≡ x *ℤ x +ℤ pos 2 *ℤ x *ℤ y +ℤ y *ℤ y
square x y = ring (x ∷ y ∷ []) (search terms depth 20) (search terms depth 20) tt

-- Euler's four squares: eight atoms, degree four
four_squares : (a b c d x y z w : ℤ) →
    (a *ℤ a +ℤ b *ℤ b +ℤ c *ℤ c +ℤ d *ℤ d) *ℤ (x *ℤ x +ℤ y *ℤ y +ℤ z *ℤ z +ℤ w *ℤ w)
    ≡ (a *ℤ x +ℤ b *ℤ y +ℤ c *ℤ z +ℤ d *ℤ w) *ℤ (a *ℤ x +ℤ b *ℤ y +ℤ c *ℤ z +ℤ d *ℤ w)
    +ℤ (a *ℤ y -ℤ b *ℤ x +ℤ c *ℤ w -ℤ d *ℤ z) *ℤ (a *ℤ y -ℤ b *ℤ x +ℤ c *ℤ w -ℤ d *ℤ z)
    +ℤ (a *ℤ z -ℤ b *ℤ w -ℤ c *ℤ x +ℤ d *ℤ y) *ℤ (a *ℤ z -ℤ b *ℤ w -ℤ c *ℤ x +ℤ d *ℤ y)
    +ℤ (a *ℤ w +ℤ b *ℤ z -ℤ c *ℤ y -ℤ d *ℤ x) *ℤ (a *ℤ w +ℤ b *ℤ z -ℤ c *ℤ y -ℤ d *ℤ x)
four_squares a b c d x y z w = ring (a ∷ b ∷ c ∷ d ∷ x ∷ y ∷ z ∷ w ∷ []) (search terms depth 20) (search terms depth 20) tt

-- any term is an atom, and coefficients may be large
any_atom : (f : ℤ → ℤ) (x : ℤ) → pos 9223372036854775807 *ℤ f x -ℤ f x *ℤ pos 9223372036854775807 ≡ pos 0
any_atom f x = ring (f x ∷ []) (search terms depth 20) (search terms depth 20) tt

-- ---- lin
next : (x y z : ℤ) → x ≤ℤ y → y <ℤ z → (x +ℤ pos 1) ≤ℤ z
next x y z h k = lin (x ∷ y ∷ z ∷ []) (h & k) (search facts depth 20) (omega arith)

-- over the whole numbers, not the fractions
whole : (x y : ℤ) → (pos 3 *ℤ x) <ℤ (pos 3 *ℤ y +ℤ pos 3) → x ≤ℤ y
whole x y h = lin (x ∷ y ∷ []) h (search facts depth 20) (omega arith)

-- a product is an unknown, whatever way it is written
products : (a b x y k c : ℤ) → a *ℤ x +ℤ b *ℤ y ≡ c → a *ℤ (x +ℤ b *ℤ k) +ℤ b *ℤ (y -ℤ a *ℤ k) ≡ c
products a b x y k c e = lin (a ∷ b ∷ x ∷ y ∷ k ∷ c ∷ []) e (search facts depth 20) (omega arith)

-- a natural is an atom, and goes by what is known of it
natural : (lo : ℤ) (j k : ℕ) → j < k → (lo +ℤ pos j) <ℤ (lo +ℤ pos k)
natural lo j k h = lin₀ (lo ∷ pos j ∷ pos k ∷ []) (search facts depth 20) (omega arith)

back : (lo : ℤ) (j k : ℕ) → (lo +ℤ pos j) <ℤ (lo +ℤ pos k) → j < k
back lo j k h = lin (lo ∷ pos j ∷ pos k ∷ []) h (search facts depth 20) (omega arith)

-- tests, negations and both directions
tests : (x y : ℤ) → le_z x y ≡ false → lt_z (y +ℤ pos 1) x ≡ false → x ≡ y +ℤ pos 1
tests x y h k = lin (x ∷ y ∷ []) (h & k) (search facts depth 20) (omega arith)

trichotomy : (x y : ℤ) → x ≢ y → (lt_z x y ≡ false) ↔ (y <ℤ x)
trichotomy x y h = lin (x ∷ y ∷ []) h (search facts depth 20) (omega arith)

-- thirteen atoms, in a chain
chain : (a b c d e f g h i j k l m : ℤ) → a ≤ℤ b → b ≤ℤ c → c <ℤ d → d ≤ℤ (e -ℤ pos 1000000000000000000) → e ≤ℤ f → f ≤ℤ g → (pos 2 *ℤ g) ≤ℤ (pos 2 *ℤ h +ℤ pos 1) →
    h ≡ i → i ≤ℤ j → j ≤ℤ k → k ≤ℤ l → l ≤ℤ m → (a +ℤ pos 1000000000000000001) ≤ℤ m
chain a b c d e f g h i j k l m p1 p2 p3 p4 p5 p6 p7 p8 p9 p10 p11 p12 =
    lin (a ∷ b ∷ c ∷ d ∷ e ∷ f ∷ g ∷ h ∷ i ∷ j ∷ k ∷ l ∷ m ∷ []) (p1 & p2 & p3 & p4 & p5 & p6 & p7 & p8 & p9 & p10 & p11 & p12) (search facts depth 20) (omega arith)

-- ---- products of facts
grows : (s k : ℤ) → pos 1 ≤ℤ s → pos 0 ≤ℤ k → k ≤ℤ (s *ℤ k)
grows s k h l = lin (s ∷ k ∷ []) (prod h l) (search facts depth 20) (omega arith)

-- the step of a run of two or more numbers within ±1,000,000,000
step_size : (f s k : ℤ) → Within 1000000000 f → (f +ℤ s *ℤ (k -ℤ pos 1)) ≤ℤ pos 1000000000 → pos 0 ≤ℤ s → pos 2 ≤ℤ k → s ≤ℤ pos 2000000000
step_size f s k a b h l = lin (f ∷ s ∷ k ∷ []) (a & b & prod h l) (search facts depth 20) (omega arith)

-- ---- signed code
fits : (x y : ℤ) → Within 2000000000 x → Within 2000000000 y → SFits w64 (x *ℤ y)
fits x y h k = lin (x ∷ y ∷ []) (Within-mul h k) (search signed depth 20) (omega arith)

-- what a branch on two locals leaves, and the difference that it makes safe
branch : (x y : ℤ) → SFits w32 x → SFits w32 y → lt_z (to_z w32 (of_z w32 x)) (to_z w32 (of_z w32 y)) ≡ true → SFits w64 (to_z w32 (of_z w32 y) -ℤ x) × (pos 1 ≤ℤ (y -ℤ x))
branch x y f g t = lin (x ∷ y ∷ []) (f & g & t) (search signed depth 20) (omega arith)

-- two locals that a test found equal
equal : (x y : ℤ) → SFits w32 x → SFits w32 y → of_z w32 x ≡ of_z w32 y → x -ℤ y ≡ pos 0
equal x y f g t = lin (x ∷ y ∷ []) ((bits_equal w32 x y f g).0 t) (search facts depth 20) (omega arith)

-- ---- floor division: bounds on 3·k and on −3·k, rounded to bounds on k
three : pos 0 <ℤ pos 3
three = lt_z_yes tt

minus_three : negsuc 2 <ℤ pos 0
minus_three = lt_z_yes tt

up_to_10 : (k : ℤ) → (pos 3 *ℤ k) ≤ℤ pos 10 ↔ k ≤ℤ pos 3
unfolding floor_div
up_to_10 k = floor_iff (pos 10) (pos 3) k three

from_10 : (k : ℤ) → pos 10 ≤ℤ (pos 3 *ℤ k) ↔ pos 4 ≤ℤ k
unfolding ceil_div floor_div
from_10 k = ceil_iff (pos 10) (pos 3) k three

up_to_10_neg : (k : ℤ) → (negsuc 2 *ℤ k) ≤ℤ pos 10 ↔ negsuc 2 ≤ℤ k
unfolding ceil_div floor_div
up_to_10_neg k = ceil_iff_neg (pos 10) (negsuc 2) k minus_three

from_10_neg : (k : ℤ) → pos 10 ≤ℤ (negsuc 2 *ℤ k) ↔ k ≤ℤ negsuc 3
unfolding floor_div
from_10_neg k = floor_iff_neg (pos 10) (negsuc 2) k minus_three

-- a caller of the working goes by its laws: nothing is divided by 0, and a divisor of 1 gives the dividend back
by_zero : (n : ℤ) → division n (pos 0) ≡ refused 9 0
by_zero n = refuses n (pos 0) (λ h. h.not_zero refl)

by_one : (n : ℤ) → Within limit n → division n (pos 1) ≡ gives n
by_one n h = gives_floor n (pos 1) record { dividend = h; divisor = record { size = omega arith }; not_zero = lin₀ [] (search facts depth 20) (omega arith) } ∙ ap gives (sym (floor_by_one n))

-- a quotient fits where its dividend does
quotient_fits : (n d : ℤ) → d ≢ pos 0 → Within limit n → SFits w64 (floor_div n d -ℤ pos 1)
quotient_fits n d h w = lin (floor_div n d ∷ []) (floor-Within n d h w) (search signed depth 20) (omega arith)

-- ---- gcd and congruence
gcds : (gcd (pos 1000000000000000000) (pos 999999999999999989) ≡ pos 1) × (gcd (pos 6) (negsuc 9) ≡ pos 2) × (gcd (pos 0) (pos 0) ≡ pos 0)
unfolding gcd
gcds = (refl, refl, refl)

-- 6·x ≡ 4 (mod 10): 4 is a solution, and 10 / gcd(6, 10) is 5
five : period (pos 6) (pos 10) ≡ pos 5
unfolding period gcd floor_div
five = refl

six : (x : ℤ) → Congruent (pos 10) (pos 6 *ℤ x) (pos 4) ↔ Congruent (pos 5) x (pos 4)
six x =
    let ten : pos 10 ≢ pos 0 = lin₀ [] (search facts depth 20) (omega arith) in
    rw (sym five) (class (pos 6) (pos 4) (pos 10) (pos 4) ten record { factor = pos 2; exact = refl } x)

-- and 4 is the least of the class that −1 is in
least : pos 4 ≡ floor_mod (negsuc 0) (pos 5)
least = mod_least (negsuc 0) (pos 5) (pos 4) (le_z_yes tt) (lt_z_yes tt) record { factor = negsuc 0; exact = refl }

-- 6·x ≡ 3 (mod 10) has none: 2 divides both sides of it but 3
odd : (x : ℤ) → Congruent (pos 10) (pos 6 *ℤ x) (pos 3) → ⊥
odd x h = lin (x ∷ h.factor ∷ []) h.exact (search facts depth 20) (omega arith)
