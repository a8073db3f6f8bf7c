-- `ints::ceiling` meets its contract.
use mathlib.Core.Path.{◌≡◌, ◌∙◌, ap}
use mathlib.Core.List.{[], ◌∷◌}
use native.Mathlib.Omega.{arith}
use lib.IntN.{ℤ, pos, neg_ℤ, ◌-ℤ◌}
use mir.Syntax.{w64}
use mir.Val.{SFits}
use mir.Facts.{to_z-of_z}
use Rattle.ints.specs.Floor.{floor_div, ceil_div}
use Rattle.ints.specs.Division.{DivisionLimits}
use Rattle.ints.proofs.Linear.{lin, lin₀, facts}
use Rattle.ints.proofs.Signed.{held, signed}
use Rattle.ints.proofs.Floor.{floor-Within}
use Rattle.ints.proofs.Answers.{fits_limit, answered}
use Rattle.ints.proofs.ceiling.Goals as goal

-- of numbers within the limits; a program's −x is 0 − x
module _ (n d : ℤ) (h : DivisionLimits n d) where
  limits : DivisionLimits (pos 0 -ℤ n) d
  limits = record { dividend = lin (n ∷ []) h.dividend (search facts depth 20) (omega arith); divisor = h.divisor; not_zero = h.not_zero }

  module _ (q : ℤ) (e : q ≡ floor_div (held (pos 0 -ℤ held n)) (held d)) where
    q_is : q ≡ floor_div (pos 0 -ℤ n) d
    q_is =
        let e' : q ≡ floor_div (held (pos 0 -ℤ n)) (held d) = rw (to_z-of_z (fits_limit h.dividend)) at e in
        answered limits floor_div e'

    fits_q : SFits w64 q
    fits_q = rw q_is (fits_limit (floor-Within (pos 0 -ℤ n) d h.not_zero limits.dividend))

    fits_result : SFits w64 (pos 0 -ℤ q)
    fits_result = rw q_is (lin (floor_div (pos 0 -ℤ n) d ∷ []) (floor-Within (pos 0 -ℤ n) d h.not_zero limits.dividend) (search signed depth 20) (omega arith))

    result_asked : SFits w64 (pos 0 -ℤ held q)
    result_asked = rw (to_z-of_z fits_q) fits_result

    result_is : held (pos 0 -ℤ held q) ≡ ceil_div n d
    unfolding ceil_div
    result_is =
        let turned : pos 0 -ℤ n ≡ neg_ℤ n = lin₀ (n ∷ []) (search facts depth 20) (omega arith) in
        let back : pos 0 -ℤ q ≡ neg_ℤ q = lin₀ (q ∷ []) (search facts depth 20) (omega arith) in
        to_z-of_z result_asked ∙ ap (λ t. pos 0 -ℤ t) (to_z-of_z fits_q) ∙ back ∙ ap neg_ℤ (q_is ∙ ap (λ t. floor_div t d) turned)

pub overflow_sub-result : goal.overflow_sub-result
overflow_sub-result c = result_asked c.args.n c.args.d c.requires c.quotient.result c.quotient.ensures

pub returns : goal.returns
returns c = result_is c.args.n c.args.d c.requires c.quotient.result c.quotient.ensures
