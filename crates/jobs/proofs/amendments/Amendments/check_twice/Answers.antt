-- `check_twice` meets its contract: after each sheet those variables are taken for which one so far is in force.
use Rattle.std.proofs.Common.{rules, arith, refl, sym, subst, ℕ, ◌+◌, ◌<◌}
use Rattle.lists.proofs.ArrayPass.{all_same}
use Rattle.jobs.specs.Amendments.{amendments_of}
use Rattle.jobs.specs.ReasonTable.{Twice}
use Rattle.jobs.proofs.SheetMarks.{Taken, none_taken, passed_by, second, takes}
use Rattle.jobs.proofs.amendments.Amendments.check_twice.Goals.{else-not-superseded-t, then-not-superseded-t+else-taken-i}
use Rattle.jobs.proofs.amendments.Amendments.check_twice.Goals as goal

pub loop-t-init : goal.loop-t-init
loop-t-init c = (none_taken _ (search rules) (λ i. all_same 256 i _), λ u h. absurd (omega (arith, h)))

pub loop-t-preserved : goal.loop-t-preserved
loop-t-preserved c = let a = c.args in
    let l = c.loop-t in
    let xs = amendments_of a.self.bytes.now in
    elim c.if-not-superseded-t.branch [
      | then-not-superseded-t+else-taken-i w ↦ subst (λ taken. Taken xs (l.t + 1) taken × ((u : ℕ) → u < l.t + 1 → ¬ Twice xs u)) (sym w.taken-is) (takes a.self.bytes.now a.shape.few_variables a.self.counted c.requires.referenced c.loop-t-test.true c.superseded-superseded.ensures l.invariant c.read-i.ensures w.if-not-superseded-t.true w.if-taken-i.false)
      | else-not-superseded-t w ↦ subst (λ taken. Taken xs (l.t + 1) taken × ((u : ℕ) → u < l.t + 1 → ¬ Twice xs u)) (sym w.taken-is) (passed_by a.self.bytes.now a.shape.few_variables a.self.counted c.requires.referenced c.loop-t-test.true c.superseded-superseded.ensures l.invariant c.read-i.ensures w.if-not-superseded-t.false)
    ]

pub returns-then-taken-i : goal.returns-then-taken-i
returns-then-taken-i c = let a = c.args in
    let l = c.loop-t in
    (l.t, (refl, (c.loop-t-test.true, (second a.self.bytes.now a.shape.few_variables a.self.counted c.requires.referenced c.loop-t-test.true c.superseded-superseded.ensures l.invariant c.read-i.ensures c.if-not-superseded-t.true c.if-taken-i.true, l.invariant.1))))
