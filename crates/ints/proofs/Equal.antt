-- The test `is_equal`, and what it says.
use mathlib.Core.Path.{◌≡◌, refl, sym, ◌∙◌, ap}
use mathlib.Core.Logic.{◌↔◌, ◌≢◌}
use mathlib.Core.Bool.{Bool, true, false, not, false≢true}
use lib.IntN.{ℤ, pos, negsuc}
use borrow.Author.Tests.{eqb-true, eq-eqb}
use Rattle.ints.specs.Equal.{is_equal}

pub equal_true : (x y : ℤ) → (is_equal x y ≡ true) ↔ (x ≡ y)
equal_true x y = (to x y, λ e. rw e (same y))
  where
    to : (x y : ℤ) → is_equal x y ≡ true → x ≡ y
    to (pos m) (pos n) e = ap pos (eqb-true m n e)
    to (pos m) (negsuc n) e = absurd (false≢true e)
    to (negsuc m) (pos n) e = absurd (false≢true e)
    to (negsuc m) (negsuc n) e = ap negsuc (eqb-true m n e)

    same : (y : ℤ) → is_equal y y ≡ true
    same (pos n) = eq-eqb n n refl
    same (negsuc n) = eq-eqb n n refl

pub equal_false : (x y : ℤ) → x ≢ y → is_equal x y ≡ false
equal_false x y h = go (is_equal x y) refl
  where
    go : (t : Bool) → is_equal x y ≡ t → t ≡ false
    go true e = absurd (h ((equal_true x y).0 e))
    go false e = refl

pub other_true : (x y : ℤ) → (not (is_equal x y) ≡ true) ↔ (x ≢ y)
other_true x y = (λ t e. false≢true (ap not (sym ((equal_true x y).1 e)) ∙ t), λ h. ap not (equal_false x y h))
