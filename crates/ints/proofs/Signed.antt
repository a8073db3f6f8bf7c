-- The bridge to what the checker asks of signed code. A signed local is its bits, so a goal has `to_z w (of_z w x)` where
-- the source has x, and asks `SFits w x` of every result. With
--
--     lin ρ facts-to-go-by (search signed depth 20) (omega arith)
--
-- such goals are read as if the bits were not there: `signed` is `facts` with `SFits` and the bits of locals, of
-- quotients and of remainders. A premise `SFits w x` is looked for among the hypotheses, or listed: (search (signed, h) ..).
use mathlib.Core.Path.{◌≡◌, refl, sym, ◌∙◌, ap, ap₂}
use mathlib.Core.Logic.{◌↔◌, ◌≢◌}
use mathlib.Core.Bool.{Bool}
use mathlib.Core.List.{List}
use Prim.Native.Nat.{ℕ, suc, ◌+◌, ◌≤◌, ◌<◌, ◌^◌}
use native.Mathlib.Omega.{arith}
use lib.Dec.{eqb}
use borrow.Author.Tests.{ne_eqb}
use lib.IntN.{ℤ, pos, negsuc}
use lib.Signed.{quot_z, rem_z, mag}
use mir.Syntax.{Width, w8, w16, w32, w64, w128}
use mir.Val.{SFits, hbits, to_z, of_z}
use mir.Facts.{to_z-of_z, sfits_lit}
use Rattle.ints.specs.Equal.{is_equal}
use Rattle.ints.proofs.Difference.{neg_part, ◌⊖◌, differences}
use Rattle.ints.proofs.Ring.{Denotes}
use Rattle.ints.proofs.Linear.{Reading, exactly, added, taken, value, value_is, facts}

-- ---- a result fits its width
mag_iff : (x : ℤ) (h a b : ℕ) → x ≡ a ⊖ b → (mag x < h) ↔ ((b ≤ a + h) × (a < b + h))
mag_iff (pos c) h a b e = let e' : c + b ≡ a + 0 = simp differences at e in (λ l. omega arith, λ l. omega arith)
mag_iff (negsuc c) h a b e = let e' : 0 + b ≡ a + suc c = simp differences at e in (λ l. omega arith, λ l. omega arith)

pub fits_iff : (w : Width) (x : ℤ) (a b : ℕ) → x ≡ a ⊖ b → SFits w x ↔ ((b ≤ a + 2 ^ hbits w) × (a < b + 2 ^ hbits w))
fits_iff w x a b e = let (to, from) = mag_iff x (2 ^ hbits w) a b e in (λ f. to f.sfits, λ p. record { sfits = from p })

abbrev pub reads_fits : (ρ : List ℤ) (x : ℤ) → Denotes ρ x → (w : Width) → Reading ρ (SFits w x)
reads_fits ρ x l w = exactly ρ (fits_iff w x (added (value ρ x l) ρ) (taken (value ρ x l) ρ) (value_is ρ x l))

-- ---- bits read back
abbrev pub bits : (ρ : List ℤ) (w : Width) (x : ℤ) → SFits w x → Denotes ρ x → Denotes ρ (to_z w (of_z w x))
bits ρ w x f l = record { expr = l.expr; is = l.is ∙ sym (to_z-of_z f) }

abbrev pub quot_bits : (ρ : List ℤ) (w : Width) (n d : ℤ) → SFits w n → SFits w d → Denotes ρ (quot_z n d) →
    Denotes ρ (quot_z (to_z w (of_z w n)) (to_z w (of_z w d)))
quot_bits ρ w n d f g l = record { expr = l.expr; is = l.is ∙ sym (ap₂ quot_z (to_z-of_z f) (to_z-of_z g)) }

abbrev pub rem_bits : (ρ : List ℤ) (w : Width) (n d : ℤ) → SFits w n → SFits w d → Denotes ρ (rem_z n d) →
    Denotes ρ (rem_z (to_z w (of_z w n)) (to_z w (of_z w d)))
rem_bits ρ w n d f g l = record { expr = l.expr; is = l.is ∙ sym (ap₂ rem_z (to_z-of_z f) (to_z-of_z g)) }

-- x as a local of 64 bits holds it
abbrev pub held : ℤ → ℤ
held x = to_z w64 (of_z w64 x)

pub ruleset signed = (facts, reads_fits, bits, quot_bits, rem_bits)

-- ---- the tests `x == y` and `x == 0`, which are made on the bits
pub bits_equal : (w : Width) (x y : ℤ) → SFits w x → SFits w y → (of_z w x ≡ of_z w y) ↔ (x ≡ y)
bits_equal w x y f g = (λ e. sym (to_z-of_z f) ∙ ap (to_z w) e ∙ to_z-of_z g, ap (of_z w))

fits_zero : (w : Width) → SFits w (pos 0)
fits_zero w8 = sfits_lit tt
fits_zero w16 = sfits_lit tt
fits_zero w32 = sfits_lit tt
fits_zero w64 = sfits_lit tt
fits_zero w128 = sfits_lit tt

-- what `/` and `%` ask of their divisor
pub bits_nonzero : (w : Width) (x : ℤ) → SFits w x → x ≢ pos 0 → 0 < of_z w x
bits_nonzero w x f h = let some : of_z w x ≢ 0 = λ e. h ((bits_equal w x (pos 0) f (fits_zero w)).0 e) in omega arith

-- the result of `x == 0`, as a definition has it
pub bits_zero : (w : Width) (x : ℤ) → SFits w x → eqb (of_z w x) 0 ≡ is_equal x (pos 0)
bits_zero w (pos a) f = refl
bits_zero w (negsuc a) f =
    let some : 0 < of_z w (negsuc a) = bits_nonzero w (negsuc a) f (λ e. omega (arith, ap neg_part e)) in
    ne_eqb (of_z w (negsuc a)) 0 (λ e. omega arith)

-- ---- a natural number cast to a signed one
pub cast : (n : ℕ) → n < 9223372036854775808 → to_z w64 n ≡ pos n
cast n h = to_z-of_z {w = w64} {z = pos n} record { sfits = h }

-- ---- what a call has given is still there
pub held_is : {x y : ℤ} → mag x < 2 ^ hbits w64 → x ≡ y → held x ≡ y
held_is {x} f e = to_z-of_z {w = w64} {z = x} (record { sfits = f }) ∙ e

-- ---- what a call on signed locals, and a branch on its result, tell of the numbers
pub told : {w : Width} {x : ℤ} {r b : Bool} (test : ℤ → Bool) → SFits w x → r ≡ test (to_z w (of_z w x)) → r ≡ b → test x ≡ b
told test f e t = ap test (sym (to_z-of_z f)) ∙ sym e ∙ t

pub told₂ : {w : Width} {x y : ℤ} {r b : Bool} (test : ℤ → ℤ → Bool) → SFits w x → SFits w y → r ≡ test (to_z w (of_z w x)) (to_z w (of_z w y)) → r ≡ b → test x y ≡ b
told₂ test f g e t = ap₂ test (sym (to_z-of_z f)) (sym (to_z-of_z g)) ∙ sym e ∙ t
