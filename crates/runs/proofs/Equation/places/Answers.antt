-- `Equation::places` meets its contract.
use mathlib.Core.Path.{◌≡◌, ◌∙◌, ap, ap₂}
use mir.Syntax.{w64}
use mir.Val.{SFits}
use mir.Facts.{to_z-of_z}
use Rattle.ints.specs.Within.{Within}
use Rattle.ints.proofs.{ℤ, ◌*ℤ◌, [], ◌∷◌, arith, lin, Within-mul, signed}
use Rattle.ints.proofs.Signed.{held}
use Rattle.runs.specs.Run.{Run, bound}
use Rattle.runs.specs.Workings.{Equation}
use Rattle.runs.specs.Method.{Carriable, stride, partner_value}
use Rattle.runs.proofs.ClassOfRun.{first-Within, stride_small}
use Rattle.runs.proofs.CarryWidths.{fits_a, fits_b, fits_q}
use Rattle.runs.proofs.CongruenceSolutions.{same_congruence}
use Rattle.runs.proofs.CarryMethod.{places_reach}
use Rattle.runs.proofs.Equation.places.Goals as goal

module _ (e : Equation) (q : Run) (p : Carriable e q) (t : ℤ) (is : t ≡ stride q) where
  small : Within 2000000000 t
  small = rw is (stride_small p.form p.some)

  fits_t : SFits w64 t
  fits_t = lin (t ∷ []) small (search signed depth 20) (omega arith)

  fits_u : SFits w64 (e.b *ℤ t)
  fits_u = lin (e.b ∷ t ∷ []) (Within-mul p.limits.right small) (search signed depth 20) (omega arith)

  u_asked : SFits w64 (held e.b *ℤ held t)
  u_asked = rw (to_z-of_z (fits_b p.limits), to_z-of_z fits_t) fits_u

  u_is : held (held e.b *ℤ held t) ≡ e.b *ℤ stride q
  u_is = to_z-of_z u_asked ∙ ap₂ ◌*ℤ◌ (to_z-of_z (fits_b p.limits)) (to_z-of_z fits_t ∙ is)

  first : Within bound q.first
  first = first-Within p.form p.some

  v_is : (v : ℤ) → SFits w64 v → v ≡ partner_value e (held q.first) → held v ≡ partner_value e q.first
  v_is v fits d = to_z-of_z fits ∙ d ∙ ap (partner_value e) (to_z-of_z (fits_q p.limits first))

pub overflow_mul-result : goal.overflow_mul-result
overflow_mul-result c = u_asked c.args.self c.args.q c.requires c.stride.result c.stride.ensures

pub invariant_of-result : goal.invariant_of-result
invariant_of-result c = rw (
  u_is c.args.self c.args.q c.requires c.stride.result c.stride.ensures,
  v_is c.args.self c.args.q c.requires c.stride.result c.stride.ensures c.partner_value.result record { sfits = c.partner_value.type_inv } c.partner_value.ensures,
  to_z-of_z (fits_a c.requires.limits),
) record { in_reach = places_reach c.requires }

pub returns : goal.returns
returns c = same_congruence
    (u_is c.args.self c.args.q c.requires c.stride.result c.stride.ensures)
    (v_is c.args.self c.args.q c.requires c.stride.result c.stride.ensures c.partner_value.result record { sfits = c.partner_value.type_inv } c.partner_value.ensures)
    (to_z-of_z (fits_a c.requires.limits))
