-- `Partners::class` meets its contract.
use mathlib.Core.Path.{◌≡◌, ◌∙◌, ap}
use mir.Facts.{to_z-of_z}
use Rattle.ints.specs.Within.{Within}
use Rattle.ints.specs.Division.{DivisionLimits}
use Rattle.ints.proofs.{ℤ, ◌≤ℤ◌}
use Rattle.ints.proofs.Signed.{held}
use Rattle.runs.specs.Run.{Run, bound}
use Rattle.runs.specs.Workings.{Equation}
use Rattle.runs.specs.Method.{Class, Carriable, AllSolutions, last_place, numbers_at, partner_value, places_with_partner}
use Rattle.runs.proofs.CarryWidths.{fits_q, divided_asked}
use Rattle.runs.proofs.CarryMethod.{carry_places, start_Within}
use Rattle.runs.proofs.Solved.{known}
use Rattle.runs.proofs.partners.Partners.class.Goals as goal

-- at is the class of the numbers with a partner
module _ {e : Equation} {q : Run} {j : Class} (p : Carriable e q × (AllSolutions (places_with_partner e q) j × (j.first ≤ℤ last_place q))) (at : Class) (at-is : at ≡ numbers_at q j) where
  within : Within bound (numbers_at q j).first
  within = start_Within p.0 p.1.0 p.1.1

  start_asked : Within bound (held at.first)
  start_asked = rw (at-is, to_z-of_z (fits_q p.0.limits within)) within

  -- v is the value at its first number
  module _ (v : ℤ) (is : v ≡ partner_value e (held at.first)) where
    there : v ≡ partner_value e (held (numbers_at q j).first)
    there = is ∙ ap (λ c. partner_value e (held c.first)) at-is

    limits_asked : DivisionLimits (held v) (held e.a)
    limits_asked = divided_asked p.0.limits within v there

pub numbers_at-requires-clause-places : goal.numbers_at-requires-clause-places
numbers_at-requires-clause-places c = carry_places c.args.self.carriable (known c.args.self).1

pub partner_value-requires-clause-within : goal.partner_value-requires-clause-within
partner_value-requires-clause-within c = start_asked (c.args.self.carriable, ((known c.args.self).1, c.requires)) c.numbers_at.result c.numbers_at.ensures

pub quotient-requires : goal.quotient-requires
quotient-requires c = limits_asked (c.args.self.carriable, ((known c.args.self).1, c.requires)) c.numbers_at.result c.numbers_at.ensures c.partner_value.result c.partner_value.ensures
