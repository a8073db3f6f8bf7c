-- `Congruence::class_of_value` meets its contract: u·i is i, and v is congruent to what division leaves of it.
use mathlib.Core.Path.{◌≡◌, ap}
use mathlib.Core.Logic.{◌↔◌}
use mir.Syntax.{w64}
use mir.Val.{SFits}
use mir.Facts.{to_z-of_z}
use Rattle.ints.specs.Floor.{floor_mod}
use Rattle.ints.specs.Divides.{Congruent}
use Rattle.ints.specs.Division.{DivisionLimits}
use Rattle.ints.proofs.{ℤ, pos, neg_ℤ, ◌*ℤ◌, [], ◌∷◌, arith, lin, ◌&◌, facts, signed}
use Rattle.ints.proofs.Floor.{mod_range}
use Rattle.ints.proofs.Divides.{divides-add, divides-mul, divides_by, mod-Congruent}
use Rattle.ints.proofs.Answers.{answered}
use Rattle.runs.specs.Method.{Congruence, InReach, AllSolutions, congruence_by}
use Rattle.runs.proofs.CongruenceSolutions.{limits}
use Rattle.runs.proofs.congruence.Congruence.class_of_value.Goals as goal

module _ (s : Congruence) (reach : InReach s.u s.v s.d) (unit : s.u ≡ pos 1) where
  limits_v : DivisionLimits s.v s.d
  limits_v = limits (lin (s.v ∷ []) reach.value (search facts depth 20) (omega arith)) reach.above reach.modulus

  abbrev first : ℤ
  first = floor_mod s.v s.d

  same : (i : ℤ) → Congruent s.d (s.u *ℤ i) s.v ↔ Congruent s.d i first
  same i = (
    λ h. divides_by (lin (s.u ∷ s.v ∷ i ∷ first ∷ []) (ap (λ u. u *ℤ i) unit) (search facts depth 20) (omega arith)) (divides-add h (mod-Congruent s.v s.d)),
    λ h. divides_by (lin (s.u ∷ s.v ∷ i ∷ first ∷ []) (ap (λ u. u *ℤ i) unit) (search facts depth 20) (omega arith)) (divides-add h (divides-mul (neg_ℤ (pos 1)) (mod-Congruent s.v s.d))),
  )

  every : AllSolutions s record { first = first; step = s.d }
  every = record { low = (mod_range s.v s.d reach.above).0; high = (mod_range s.v s.d reach.above).1; all = same }

pub returns : goal.returns
returns c = let x = congruence_by c.args.self in
    let reach = c.args.self.in_reach in
    let r = c.remainder.result in
    let fits-d : SFits w64 x.d = lin (x.d ∷ []) (reach.above & reach.modulus) (search signed depth 20) (omega arith) in
    rw (to_z-of_z {w = w64} record { sfits = c.remainder.type_inv }, answered (limits_v x reach c.requires) floor_mod c.remainder.ensures, to_z-of_z fits-d) (every x reach c.requires)
