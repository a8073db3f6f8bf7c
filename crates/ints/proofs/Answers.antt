-- What callers of the division working go by: it gives the floor within the limits, and is refused outside them.
use mathlib.Core.Path.{◌≡◌, refl, ◌∙◌, ap₂}
use mathlib.Core.List.{[], ◌∷◌}
use mathlib.Core.Logic.Iff
use mathlib.Core.Logic.{◌↔◌}
use mathlib.Core.Bool.{Bool, true, false}
use native.Mathlib.Omega.{arith}
use mir.Syntax.{w64}
use mir.Val.{SFits}
use mir.Facts.{to_z-of_z}
use lib.IntN.{ℤ, pos}
use Rattle.reasons.specs.Answer.{gives, refused, answer_if}
use Rattle.reasons.proofs.Answers.{and_iff, gives_where, refuses_where, not_both}
use Rattle.ints.specs.Within.{Within}
use Rattle.ints.specs.Floor.{floor_div}
use Rattle.ints.specs.Division.{limit, DivisionLimits, division_limits, division}
use Rattle.ints.proofs.Equal.{other_true}
use Rattle.ints.proofs.Within.{Within-true}
use Rattle.ints.proofs.Linear.{lin}
use Rattle.ints.proofs.Signed.{held, signed}

-- ---- the test and the limits
pub in_limits_iff : (n d : ℤ) → (division_limits n d ≡ true) ↔ DivisionLimits n d
in_limits_iff n d = Iff.trans (and_iff (Within-true limit n) (and_iff (Within-true limit d) (other_true d (pos 0)))) (
  λ p. record { dividend = p.0; divisor = p.1.0; not_zero = p.1.1 },
  λ k. (k.dividend, (k.divisor, k.not_zero)),
)

-- ---- the answer
pub gives_floor : (n d : ℤ) → DivisionLimits n d → division n d ≡ gives (floor_div n d)
gives_floor n d = gives_where (in_limits_iff n d) (floor_div n d)

pub refuses : (n d : ℤ) → ¬ DivisionLimits n d → division n d ≡ refused 9 0
refuses n d = refuses_where (in_limits_iff n d) (floor_div n d)

-- a quotient is the floor, and the arguments were within the limits
pub record IsQuotient (n d q : ℤ) : Type 0 where
  pub inside : DivisionLimits n d
  pub is : q ≡ floor_div n d

pub quotient_is : (n d q : ℤ) → gives q ≡ division n d → IsQuotient n d q
quotient_is n d q e = go (division_limits n d) refl e
  where
    go : (b : Bool) → division_limits n d ≡ b → gives q ≡ answer_if b (floor_div n d) → IsQuotient n d q
    go true t e = record { inside = (in_limits_iff n d).0 t; is = cc }
    go false t e = absurd (not_both e)

-- ---- calls on locals of 64 bits, with the bits taken away: what a call is asked, and what it answers
pub fits_limit : {n : ℤ} → Within limit n → SFits w64 n
fits_limit {n} h = lin (n ∷ []) h (search signed depth 20) (omega arith)

module _ {n d : ℤ} (h : DivisionLimits n d) where
  pub asked : DivisionLimits (held n) (held d)
  asked = rw (to_z-of_z (fits_limit h.dividend), to_z-of_z (fits_limit h.divisor)) h

  pub answered : {r : ℤ} (op : ℤ → ℤ → ℤ) → r ≡ op (held n) (held d) → r ≡ op n d
  answered op e = e ∙ ap₂ op (to_z-of_z (fits_limit h.dividend)) (to_z-of_z (fits_limit h.divisor))
