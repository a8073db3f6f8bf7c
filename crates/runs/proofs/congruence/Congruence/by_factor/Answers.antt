-- `Congruence::by_factor` meets its contract: there are solutions just where the greatest common divisor divides v.
use mathlib.Core.Path.{◌≡◌}
use mathlib.Core.Bool.{true, false}
use mir.Syntax.{w64}
use mir.Val.{SFits}
use mir.Facts.{to_z-of_z}
use Rattle.ints.specs.Floor.{floor_mod}
use Rattle.ints.specs.Division.{DivisionLimits}
use Rattle.ints.proofs.{ℤ, pos, lt_z, ◌≤ℤ◌, ◌<ℤ◌, [], ◌∷◌, arith, lin, ◌&◌, signed}
use Rattle.ints.proofs.Signed.{held}
use Rattle.euclid.specs.Factor.{IsFactor}
use Rattle.ints.proofs.Answers.{asked, answered}
use Rattle.runs.proofs.CongruenceSolutions.{limits_value, nothing, no_rest}
use Rattle.runs.proofs.congruence.Congruence.by_factor.Goals.{After-of-f, After-remainder}
use Rattle.runs.proofs.congruence.Congruence.by_factor.Goals as goal

module _ (c : After-of-f) where
  abbrev u : ℤ
  u = c.args.self.u

  abbrev v : ℤ
  v = c.args.self.v

  abbrev d : ℤ
  d = c.args.self.d

  abbrev g : ℤ
  g = c.of-f.result.gcd

  factor : IsFactor u d g c.of-f.result.cofactor
  factor =
      let reach = c.args.self.in_reach in
      let fits_u : SFits w64 u = lin (u ∷ []) reach.factor (search signed depth 20) (omega arith) in
      let fits-d : SFits w64 d = lin (d ∷ []) (reach.above & reach.modulus) (search signed depth 20) (omega arith) in
      rw (to_z-of_z fits_u, to_z-of_z fits-d) at c.of-f.ensures.factor

  limits_v : DivisionLimits v g
  limits_v = limits_value c.args.self.in_reach factor

-- what the test tells of the remainder
module _ (c : After-remainder) where
  abbrev r : ℤ
  r = c.remainder.result

  abbrev rest : ℤ
  rest = floor_mod c.args.self.v c.of-f.result.gcd

  rest_is : r ≡ rest
  rest_is = answered (limits_v (goal.at.After-remainder c).After-of-f) floor_mod c.remainder.ensures

  fits_r : SFits w64 r
  fits_r = record { sfits = c.remainder.type_inv }

  some : lt_z (pos 0) (held r) ≡ true → pos 0 <ℤ rest
  some t = lin (r ∷ rest ∷ []) (rest_is & t) (search (signed, fits_r) depth 20) (omega arith)

  none : lt_z (pos 0) (held r) ≡ false → rest ≤ℤ pos 0
  none t = lin (r ∷ rest ∷ []) (rest_is & t) (search (signed, fits_r) depth 20) (omega arith)

pub remainder-requires : goal.remainder-requires
remainder-requires c = asked (limits_v (goal.at.remainder-requires c).After-of-f)

pub class_by-requires-clause-gcd : goal.class_by-requires-clause-gcd
class_by-requires-clause-gcd c = let o = (goal.at.class_by-requires-clause-gcd c).After-of-f in
    no_rest (factor o) c.args.self.in_reach.above (v o) (none (goal.at.class_by-requires-clause-gcd c).After-remainder c.if-remainder-gt0.false)

pub returns-then-remainder-gt0 : goal.returns-then-remainder-gt0
returns-then-remainder-gt0 c = let o = (goal.at.returns-then-remainder-gt0 c).After-of-f in
    nothing (factor o) c.args.self.in_reach.above (v o) (some (goal.at.returns-then-remainder-gt0 c).After-remainder c.if-remainder-gt0.true)
