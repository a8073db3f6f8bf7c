-- `partner` meets its contract.
use mathlib.Core.Path.{◌≡◌, refl, ◌∙◌}
use mir.Syntax.{w64}
use mir.Val.{SFits}
use mir.Facts.{to_z-of_z}
use Rattle.ints.specs.Within.{Within}
use Rattle.ints.specs.Floor.{floor_div}
use Rattle.ints.specs.Division.{DivisionLimits}
use Rattle.ints.proofs.{ℤ, ◌-ℤ◌, ◌*ℤ◌, [], ◌∷◌, arith, lin, ◌&◌, facts, Within-mul}
use Rattle.ints.proofs.Signed.{held}
use Rattle.ints.proofs.Answers.{asked, answered}
use Rattle.runs.specs.declared.Equation.{Equation}
use Rattle.runs.specs.Workings.{CarryLimits}
use Rattle.runs.proofs.CarryWidths.{fits_a, fits_c}
use Rattle.solver.proofs.In64Bits.{fits_64}
use Rattle.solver.proofs.join.partner.Goals as goal

module _ (e : Equation) (p : ℤ) (pre : CarryLimits e × Within 2000000000 p) where
  abbrev rest : ℤ
  rest = e.c -ℤ e.a *ℤ p

  rest_Within : Within 4000000000000000 rest
  rest_Within = lin (e.a ∷ e.c ∷ p ∷ []) (pre.0.constant & Within-mul pre.0.left pre.1) (search facts depth 20) (omega arith)

  fits_p : SFits w64 p
  fits_p = fits_64 2000000000 (omega arith) pre.1

  fits_ap : SFits w64 (e.a *ℤ p)
  fits_ap = fits_64 2000000000000000 (omega arith) (Within-mul pre.0.left pre.1)

  limits : DivisionLimits rest e.b
  limits = record {
    dividend = lin (e.a ∷ e.c ∷ p ∷ []) rest_Within (search facts depth 20) (omega arith);
    divisor = lin (e.b ∷ []) pre.0.right (search facts depth 20) (omega arith);
    not_zero = pre.0.right_not_zero;
  }

  abbrev rest_held : ℤ
  rest_held = held e.c -ℤ held (held e.a *ℤ held p)

  rest_is : rest_held ≡ rest
  rest_is = rw (to_z-of_z (fits_a pre.0), to_z-of_z (fits_c pre.0), to_z-of_z fits_p, to_z-of_z fits_ap) refl

  rest_asked : DivisionLimits (held rest_held) (held e.b)
  rest_asked = rw rest_is (asked limits)

  result : (q : ℤ) → SFits w64 q → q ≡ floor_div (held rest_held) (held e.b) → held q ≡ floor_div (e.c -ℤ e.a *ℤ p) e.b
  result q f h = let h' : q ≡ floor_div (held rest) (held e.b) = rw rest_is at h in to_z-of_z f ∙ answered limits floor_div h'

pub quotient-requires : goal.quotient-requires
quotient-requires c = rest_asked c.args.e c.args.p (c.requires.carry_limits, c.requires.small_number)

pub returns : goal.returns
returns c = result c.args.e c.args.p (c.requires.carry_limits, c.requires.small_number) c.quotient.result record { sfits = c.quotient.type_inv } c.quotient.ensures
