-- `numbers` meets its contract: a lowest variable takes the next number, and another that of its lowest variable.
use mathlib.Core.Path.{sym, subst}
use Prim.Native.Nat.{◌+◌}
use native.Mathlib.Omega.{arith}
use Rattle.families.specs.ModelFindings.{component_by}
use Rattle.solver.specs.StateArrays.{label_in}
use Rattle.lists.proofs.ArrayPass.{Filled}
use Rattle.solver.proofs.LowestVariables.{leads_counted, next_numbered, same_numbered}
use Rattle.solver.proofs.components.numbers.Goals.{else-l-i, then-l-i}
use Rattle.solver.proofs.components.numbers.Goals as goal

pub loop-i-preserved : goal.loop-i-preserved
loop-i-preserved c = let labels = c.args.labels.now in
    let n = c.args.n in
    let l = c.loop-i in
    let m = leads_counted (label_in labels) l.i in
    let F = Filled 256 0 (component_by (label_in labels) n) (l.i + 1) in
    elim c.if-l-i.branch [
      | then-l-i w ↦ let e = m.0 w.if-l-i.true in (
        omega (arith, w.next-is, l.invariant.0),
        (
          omega (arith, e, w.next-is, l.invariant.1.0),
          subst F (sym w.numbers-is) (next_numbered labels n l.i l.numbers c.requires.few (omega arith) l.invariant.1.1 l.next l.invariant.1.0 w.if-l-i.true),
        ),
      )
      | else-l-i w ↦ let e = m.1 w.if-l-i.false in (
        omega (arith, w.next-is, l.invariant.0),
        (
          omega (arith, e, w.next-is, l.invariant.1.0),
          subst F (sym w.numbers-is) (same_numbered labels n l.i l.numbers c.requires.few (omega arith) l.invariant.1.1 c.requires.lowest w.if-l-i.false),
        ),
      )
    ]
