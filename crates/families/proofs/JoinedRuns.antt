-- An equation a·p + b·q = c between the runs of two families: the p that some q completes,
-- and where they and their partners stand in the two families.
use mathlib.Core.Logic.Iff
use mathlib.Core.Logic.{◌↔◌}
use Prim.Native.Nat.{◌≤◌}
use Rattle.ints.proofs.{ℤ}
use Rattle.runs.specs.declared.Run.{Run}
use Rattle.runs.specs.Run.{InRun, OneForm}
use Rattle.runs.specs.Search.{meet, Partner, carry}
use Rattle.runs.specs.declared.Equation.{Equation}
use Rattle.runs.specs.Workings.{CarryLimits}
use Rattle.runs.proofs.MeetAndCarry.{joined_form, in_joined}
use Rattle.families.specs.FamilyRun.{FamilyRun, upward, index_of, stride_in, across}
use Rattle.families.proofs.FamilyRuns.{in_upward, upward_form, OneForm-Moves}
use Rattle.families.proofs.ExactQuotients.{Indexed, indexed, Across, is_across, Partner-Indexed}

module _ {e : Equation} (lim : CarryLimits e) {P Q : Run} (f : FamilyRun P) (g : FamilyRun Q) where
  -- the p that are joined, upwards
  abbrev R : Run
  R = meet (upward P) (carry e.a e.b e.c (upward Q))

  pub join_form : OneForm R
  join_form = joined_form lim (upward_form f) (upward_form g)

  upward-Partner : (p : ℤ) → Partner e.a e.b e.c (upward Q) p ↔ Partner e.a e.b e.c Q p
  upward-Partner p = (
    λ k. record { q = k.q; member = (in_upward Q k.q).1 k.member; holds = k.holds },
    λ k. record { q = k.q; member = (in_upward Q k.q).0 k.member; holds = k.holds },
  )

  pub in_join : (p : ℤ) → InRun R p ↔ (InRun P p × Partner e.a e.b e.c Q p)
  in_join p = Iff.trans (in_joined lim (upward_form f) (upward_form g) p) (
    λ k. ((in_upward P p).1 k.0, (upward-Partner p).0 k.1),
    λ k. ((in_upward P p).0 k.0, (upward-Partner p).1 k.1),
  )

  -- ---- where there is one, its first number and its step are exact quotients in P, and their partners in Q
  module _ (some : 1 ≤ R.many) where
    abbrev S : Run
    S = across e.a e.b e.c R

    pub join_partners : Across e.a e.b e.c R S
    join_partners = is_across lim.right_not_zero (OneForm-Moves join_form) some (λ p h. ((in_join p).0 h).1)

    pub left : Indexed P R (index_of P R.first) (stride_in P R.step)
    left = indexed f.moves (OneForm-Moves join_form) some (λ p h. ((in_join p).0 h).0)

    pub right : Indexed Q S (index_of Q S.first) (stride_in Q S.step)
    right = Partner-Indexed g.moves (OneForm-Moves join_form) lim.left_not_zero lim.right_not_zero some (λ p h. ((in_join p).0 h).1)
