-- `one` meets its contract: outside of its span the component has no variables.
use mathlib.Core.Path.{sym, ◌∙◌, ap, subst}
use Prim.Native.Nat.{◌<◌}
use native.Mathlib.Omega.{arith}
use borrow.Author.Rules.{rules}
use Rattle.families.specs.FamilyRun.{FamilyRun}
use Rattle.families.specs.Model.{through}
use Rattle.solver.proofs.ReducedRuns.{standing, walked, passed_by}
use Rattle.solver.proofs.reduce.one.Goals.{then-components-i, else-components-i}
use Rattle.solver.proofs.reduce.one.Goals as goal

pub through-part-requires : goal.through-part-requires
through-part-requires c =
    let l = c.loop-i in
    let x = c.args.components.now in
    let h : l.i < x.variables = omega (arith, x.spans.inside c.args.g c.requires.leads.below) in
    let is = standing c.args.runs.now c.args.kept x.spans c.requires.leads x.few c.told-runs l.i c.if-components-i.true l.runs l.invariant (search rules) (search rules) in
    record {
      before = subst FamilyRun (sym is) (c.requires.reducible.before l.i h c.if-components-i.true);
      after = subst (λ run. FamilyRun (through run c.args.kept)) (sym is) (c.requires.reducible.after l.i h c.if-components-i.true);
    }

pub loop-i-preserved : goal.loop-i-preserved
loop-i-preserved c =
    let l = c.loop-i in
    let x = c.args.components.now in
    let h : l.i < 256 = omega (arith, x.spans.inside c.args.g c.requires.leads.below, x.few) in
    elim c.if-components-i.branch [
      | then-components-i w ↦
          let is = standing c.args.runs.now c.args.kept x.spans c.requires.leads x.few c.told-runs l.i w.if-components-i.true l.runs l.invariant (search rules) (search rules) in
          rw w.runs-is (walked c.args.runs.now c.args.kept x.spans c.requires.leads x.few c.told-runs l.i w.if-components-i.true l.runs l.invariant h
          w.through-part.result (w.through-part.ensures ∙ ap (λ run. through run c.args.kept) is) (search rules) (search rules))
      | else-components-i w ↦ rw w.runs-is (passed_by c.args.runs.now c.args.kept x.spans c.requires.leads x.few c.told-runs l.i w.if-components-i.false l.runs l.invariant)
    ]
