-- `leaves` meets its contract: it is `kept` of the model.
use mathlib.Core.Path.{◌≡◌, ◌∙◌, ap}
use mathlib.Core.Logic.{◌≢◌}
use mathlib.Core.Option.{Option, none, some}
use Prim.Native.Nat.{ℕ}
use lib.Dec.{ltb}
use borrow.Author.Tests.{eq-eqb, ne_eqb}
use Rattle.runs.specs.declared.Run.{Run}
use Rattle.runs.specs.declared.Equation.{Equation}
use Rattle.runs.specs.Search.{meet, carry}
use Rattle.runs.specs.Workings.{CarryLimits}
use Rattle.families.specs.FamilyRun.{FamilyRun, upward}
use Rattle.families.specs.Model.{Indices, both_sides, cycle, join, kept}
use Rattle.families.proofs.JoinStep.{common_is}
use Rattle.solver.specs.Steps.{indices_by, kept_by}
use Rattle.solver.proofs.equations.leaves.Goals as goal

module _ (e : Equation) (l r : ℕ) (P Q : Run) where
  -- between two components
  apart : CarryLimits e → FamilyRun P → FamilyRun Q → l ≢ r → (i : Indices) →
      i ≡ join e P Q (meet (upward P) (carry e.a e.b e.c (upward Q))) (ltb l r) → some i ≡ kept e l r P Q
  unfolding kept
  apart lim f g d i h = rw (ne_eqb l r d, common_is lim f g) (ap some h)

  -- inside one
  together : l ≡ r → (o : Option Run) → o ≡ cycle e P Q → both_sides o ≡ kept e l r P Q
  unfolding kept
  together z o h = rw (eq-eqb l r z) (ap both_sides h)

pub returns-then-l-r : goal.returns-then-l-r
returns-then-l-r c =
    apart c.args.e c.args.l c.args.r c.args.p c.args.q (c.requires.carry_limits c.if-l-r.true) c.requires.left_family c.requires.right_family
    c.if-l-r.true (indices_by c.between.result) c.between.ensures

pub returns-in_err-i : goal.returns-in_err-i
returns-in_err-i c = ap kept_by c.from_residual.ensures ∙ together c.args.e c.args.l c.args.r c.args.p c.args.q c.if-l-r.false none c.in_err-i.ensures

pub returns : goal.returns
returns c = together c.args.e c.args.l c.args.r c.args.p c.args.q c.if-l-r.false (some c.in_ok-i.i) c.in_ok-i.ensures
