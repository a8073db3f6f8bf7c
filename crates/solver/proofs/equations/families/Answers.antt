-- `families` meets its contract: equation by equation, the arrays follow the model.
use mathlib.Core.Path.{◌≡◌, sym, ◌∙◌, ap, subst}
use Rattle.std.proofs.Common.{add-one}
use native.Mathlib.Omega.{arith}
use Rattle.runs.specs.Workings.{CarryLimits}
use Rattle.families.specs.FamilyRun.{FamilyRun}
use Rattle.families.specs.Model.{kept}
use Rattle.jobs.specs.Job.{Job, job_of, form}
use Rattle.jobs.specs.NormalForm.{normal, normal_row}
use Rattle.jobs.specs.Bounds.{with_bounds}
use Rattle.solver.specs.Widths.{Combinable}
use Rattle.lists.specs.Table.{Tabulates}
use Rattle.runs.specs.Run.{empty}
use Rattle.solver.specs.StateArrays.{label_in}
use Rattle.solver.specs.Runs.{gathered}
use Rattle.solver.proofs.CodeFollowsModel.{Follows, At, left_below, right_below, combinable, limits, left_family, right_family, Follows-same, reducible, Follows-reduced}
use Rattle.solver.proofs.FollowsWithBounds.{Follows-start, Follows-end, at_row}
use Rattle.solver.proofs.equations.families.Goals.{After-normal-e, After-leaves, in-Some, in_default}
use Rattle.solver.proofs.equations.families.Goals as goal

pub loop-k-init : goal.loop-k-init
loop-k-init c = record {
  as_many = c.apart-components.ensures.so_many;
  follows = Follows-start (c.args.job.lawful, (c.args.job.job.variables_counted, c.args.job.job.equations_counted)) c.args.bounds.now c.requires
      c.apart-components.result.labels c.start.new.runs c.apart-components.ensures.apart c.start.ensures;
}

-- with a row in hand, in normal form
module _ (c : After-normal-e) where
  abbrev job : Job
  job = with_bounds (job_of c.args.job.job.bytes.now) c.args.bounds.now

  row_is : c.normal-e.result ≡ normal_row (job_of c.args.job.job.bytes.now) c.loop-k.k
  row_is = c.normal-e.ensures ∙ ap normal c.equation.ensures

  at : At job c.loop-k.components.variables c.loop-k.k c.loop-k.components.labels c.loop-k.state.runs c.normal-e.result
  at = subst (λ n. At job n c.loop-k.k c.loop-k.components.labels c.loop-k.state.runs c.normal-e.result) (sym c.loop-k.invariant.as_many)
      (at_row (c.args.job.lawful, (c.args.job.job.variables_counted, c.args.job.job.equations_counted)) c.args.bounds.now c.requires c.loop-k-test.true c.loop-k.invariant.follows row_is)

pub label-l-requires : goal.label-l-requires
label-l-requires c = left_below (at (goal.at.label-l-requires c).After-normal-e)

pub label-r-requires : goal.label-r-requires
label-r-requires c = right_below (at (goal.at.label-r-requires c).After-normal-e)

pub run_of-p-requires : goal.run_of-p-requires
run_of-p-requires c = left_below (at (goal.at.run_of-p-requires c).After-normal-e)

pub run_of-q-requires : goal.run_of-q-requires
run_of-q-requires c = right_below (at (goal.at.run_of-q-requires c).After-normal-e)

pub leaves-requires : goal.leaves-requires
leaves-requires c = let a = at (goal.at.leaves-requires c).After-normal-e in
    record {
      combinable = subst Combinable (sym c.form.ensures) (combinable a);
      carry_limits = λ d. subst CarryLimits (sym c.form.ensures) (limits a (λ z. d (c.label-l.ensures.value ∙ z ∙ sym c.label-r.ensures.value)));
      left_family = subst FamilyRun (sym c.run_of-p.ensures) (left_family a);
      right_family = subst FamilyRun (sym c.run_of-q.ensures) (right_family a);
    }

-- what it leaves is what the model keeps
module _ (c : After-leaves) where
  model : kept c.form.result c.label-l.result c.label-r.result c.run_of-p.result c.run_of-q.result
      ≡ kept (form c.normal-e.result) (label_in c.loop-k.components.labels c.normal-e.result.left) (label_in c.loop-k.components.labels c.normal-e.result.right)
      (gathered c.loop-k.components.labels c.loop-k.state.runs c.normal-e.result.left) (gathered c.loop-k.components.labels c.loop-k.state.runs c.normal-e.result.right)
  model t = kept (c.form.ensures t) (c.label-l.ensures.value t) (c.label-r.ensures.value t) (c.run_of-p.ensures t) (c.run_of-q.ensures t)

pub both-requires : goal.both-requires
both-requires c = let v = goal.at.both-requires c in
    record {
      left_leads = c.label-l.ensures.leads;
      right_leads = c.label-r.ensures.leads;
      reducible = rw (c.label-l.ensures.value, c.label-r.ensures.value) (reducible (at v.After-normal-e) c.in-Some.kept (c.in-Some.ensures ∙ model v.After-leaves));
    }

pub loop-k-preserved : goal.loop-k-preserved
loop-k-preserved c =
    let v = goal.at.loop-k-preserved c in
    let a = at v.After-normal-e in
    let h = model v.After-leaves in
    elim c.match-leaves.branch [
      | in-Some w ↦
          let m = rw (c.label-l.ensures.value, c.label-r.ensures.value) at w.join.ensures.merges in
          let q = rw (c.label-l.ensures.value, c.label-r.ensures.value) at w.both.ensures in
          record {
            as_many = ap (λ x. x.variables) w.components-is ∙ w.join.ensures.as_many ∙ c.loop-k.invariant.as_many;
            follows = rw (w.components-is, w.state-is, add-one) (Follows-reduced a w.in-Some.kept (w.in-Some.ensures ∙ h) w.join.new.self.labels m w.both.new.runs q);
          }
      | in_default w ↦ record {
        as_many = ap (λ x. x.variables) w.components-is ∙ c.loop-k.invariant.as_many;
        follows = rw (w.components-is, w.state-is, add-one) (Follows-same a (w.in_default.ensures ∙ h));
      }
    ]

pub returns : goal.returns
returns c = let l = c.loop-k in
    let e : l.k ≡ c.args.job.job.shape.equations = omega arith in
    Follows-end (c.args.job.lawful, (c.args.job.job.variables_counted, c.args.job.job.equations_counted)) c.args.bounds.now c.requires l.components.labels l.state.runs c.fill.new.runs
    (subst (λ k. Follows (with_bounds (job_of c.args.job.job.bytes.now) c.args.bounds.now) k l.components.labels l.state.runs) e l.invariant.follows)
    (subst (λ n. Tabulates empty (gathered l.components.labels l.state.runs) n c.fill.new.runs) l.invariant.as_many c.fill.ensures)
