-- `between` meets its contract: it is `join` of the model, call by call.
use mathlib.Core.Path.{◌≡◌, refl, sym, ◌∙◌, ap, subst}
use mathlib.Core.Logic.{◌≢◌}
use mathlib.Core.Bool.{Bool}
use Prim.Native.Nat.{◌≤◌}
use native.Mathlib.Omega.{arith}
use Rattle.runs.specs.declared.Run.{Run}
use Rattle.runs.specs.declared.Equation.{Equation}
use Rattle.runs.specs.Run.{OneForm}
use Rattle.runs.specs.Search.{meet, carry}
use Rattle.runs.specs.Workings.{CarryLimits}
use Rattle.runs.proofs.MeetAndCarry.{carry_form}
use Rattle.families.specs.FamilyRun.{FamilyRun, upward, across}
use Rattle.families.proofs.FamilyRuns.{upward_form}
use Rattle.families.specs.Model.{indices_in}
use Rattle.solver.specs.Widths.{Turnable, Crossable}
use Rattle.solver.proofs.In64Bits.{crossable}
use Rattle.solver.proofs.JoinWidths.{joined_Crossable, partners_Crossable, left_Turnable, right_Turnable}
use Rattle.solver.proofs.join.between.Goals.{After-meet-common, Start}
use Rattle.solver.proofs.join.between.Goals as goal

-- what is known once the numbers that are joined, R, have been worked out
record Known (e : Equation) (P Q R : Run) : Type 0 where
  lim : CarryLimits e
  left : FamilyRun P
  right : FamilyRun Q
  is : R ≡ meet (upward P) (carry e.a e.b e.c (upward Q))

module _ {e : Equation} {P Q R : Run} (k : Known e P Q R) (lower : Bool) where
  module _ (h : R.many ≢ 0) where
    some : 1 ≤ (meet (upward P) (carry e.a e.b e.c (upward Q))).many
    some = subst (λ (R : Run). 1 ≤ R.many) k.is (omega arith)

    left_asked : Crossable P × Crossable R
    left_asked = (crossable k.left, subst Crossable (sym k.is) (joined_Crossable k.lim k.left k.right))

    -- S is the run of the partners
    module _ (S : Run) (s : S ≡ across e.a e.b e.c R) where
      right_asked : Crossable Q × Crossable S
      right_asked = (
        crossable k.right,
        subst Crossable (sym (s ∙ ap (across e.a e.b e.c) k.is)) (partners_Crossable k.lim k.left k.right some),
      )

      module _ (l r : Run) (p : l ≡ indices_in P R) (q : r ≡ indices_in Q S) where
        turned_asked : Turnable l × Turnable r
        turned_asked = (
          subst Turnable (sym (p ∙ ap (indices_in P) k.is)) (left_Turnable k.lim k.left k.right some),
          subst Turnable (sym (q ∙ ap (indices_in Q) (s ∙ ap (across e.a e.b e.c) k.is))) (right_Turnable k.lim k.left k.right some),
        )

pub carry-requires : goal.carry-requires
carry-requires c = record { one_form = subst OneForm (sym c.upward-right.ensures) (upward_form c.requires.right_family); carry_limits = c.requires.carry_limits }

carried_form : (e : Equation) (Q q r : Run) → CarryLimits e → FamilyRun Q → q ≡ upward Q → r ≡ carry e.a e.b e.c q → OneForm r
carried_form e Q q r lim f d h = subst OneForm (sym (h ∙ ap (carry e.a e.b e.c) d)) (carry_form lim (upward_form f))

pub meet-common-requires : goal.meet-common-requires
meet-common-requires c = record { one_form = subst OneForm (sym c.upward-left.ensures) (upward_form c.requires.left_family); other_one_form = carried_form c.args.e c.args.q c.upward-right.result c.carry.result c.requires.carry_limits c.requires.right_family c.upward-right.ensures c.carry.ensures }

-- after the meeting
module _ (c : After-meet-common) where
  abbrev start : Start
  start = c.before.before.before.before

  known : Known start.args.e start.args.p start.args.q c.meet-common.result
  known = record {
    lim = start.requires.carry_limits;
    left = start.requires.left_family;
    right = start.requires.right_family;
    is = is c.upward-left.result c.upward-right.result c.carry.result c.upward-left.ensures
        c.upward-right.ensures c.carry.ensures c.meet-common.ensures;
  }
    where
      is : (p q r : Run) → p ≡ upward start.args.p → q ≡ upward start.args.q → r ≡ carry start.args.e.a start.args.e.b start.args.e.c q →
          c.meet-common.result ≡ meet p r → c.meet-common.result ≡ meet (upward start.args.p) (carry start.args.e.a start.args.e.b start.args.e.c (upward start.args.q))
      is p q r a b d h = h ∙ rw (a, d, b) refl

pub indices_in-requires : goal.indices_in-requires
indices_in-requires c = let m = (goal.at.indices_in-requires c).After-meet-common in let both = left_asked (known m) (start m).args.leads c.if-common-eq0.false in record { family_crossable = both.0; numbers_crossable = both.1 }

pub across-requires : goal.across-requires
across-requires c = let m = (goal.at.across-requires c).After-meet-common in record { carry_limits = (start m).requires.carry_limits; crossable = (left_asked (known m) (start m).args.leads c.if-common-eq0.false).1 }

pub indices_in-requires-2 : goal.indices_in-requires-2
indices_in-requires-2 c = let m = (goal.at.indices_in-requires-2 c).After-meet-common in
    let both = right_asked (known m) (start m).args.leads c.if-common-eq0.false c.across.result c.across.ensures in record { family_crossable = both.0; numbers_crossable = both.1 }

pub directed-requires : goal.directed-requires
directed-requires c = let m = (goal.at.directed-requires c).After-meet-common in
    let both = turned_asked (known m) (start m).args.leads c.if-common-eq0.false c.across.result c.across.ensures
    c.indices_in.result c.indices_in-2.result c.indices_in.ensures c.indices_in-2.ensures in record { left_turnable = both.0; right_turnable = both.1 }
