-- `of_job` meets its contract: equation by equation, what is found is what the definitions say.
use mathlib.Core.Path.{◌≡◌, sym, ◌∙◌, ap, subst}
use mathlib.Core.List.{List}
use Prim.Native.Nat.{ℕ, suc, ◌+◌, ◌<◌}
use native.Mathlib.Omega.{arith}
use borrow.Author.Rules.{rules}
use Rattle.jobs.specs.declared.Equation.{Equation}
use Rattle.jobs.specs.Job.{Job, job_of}
use Rattle.jobs.specs.NormalForm.{normal, normal_row}
use Rattle.solver.specs.Labels.{Labels, Merges}
use Rattle.solver.specs.StateArrays.{label_in}
use Rattle.solver.proofs.CodeFollowsModel.{labels_start, labels_joined}
use Rattle.solver.proofs.StructurePass.{Row, row, begins, onward}
use Rattle.solver.proofs.structure.of_job.Goals.{After-normal-row}
use Rattle.solver.proofs.structure.of_job.Goals as goal

pub loop-k-init : goal.loop-k-init
loop-k-init c = let labels = c.apart-components.result.labels in (
  c.apart-components.ensures.so_many,
  begins (job_of c.args.job.job.bytes.now) c.args.job.job.shape.variables labels _ _
      (labels_start (job_of c.args.job.job.bytes.now) c.args.job.job.shape.variables labels c.args.job.job.shape.few_variables c.apart-components.ensures.apart)
      (search rules) (search rules),
)

-- with a row in hand, as it is written and in normal form
here : (c : After-normal-row) → Row c.args.job.job.shape.variables c.loop-k.k c.loop-k.found.degrees c.equation-e.result c.normal-row.result
here c = row (c.args.job.lawful, (c.args.job.job.variables_counted, c.args.job.job.equations_counted)) (omega arith) c.loop-k.invariant.1 c.equation-e.result c.normal-row.result c.equation-e.ensures c.normal-row.ensures

pub label-l-requires : goal.label-l-requires
label-l-requires c = omega (arith, (here (goal.at.label-l-requires c).After-normal-row).home, c.loop-k.invariant.0)

pub label-r-requires : goal.label-r-requires
label-r-requires c = omega (arith, (here (goal.at.label-r-requires c).After-normal-row).other, c.loop-k.invariant.0)

pub overflow_cast-found : goal.overflow_cast-found
overflow_cast-found c = let r = here (goal.at.overflow_cast-found c).After-normal-row in record { fits = omega (arith, r.home, r.few) }

pub overflow_add-found : goal.overflow_add-found
overflow_add-found c = let r = here (goal.at.overflow_add-found c).After-normal-row in record { fits = omega (arith, r.left_small, r.below) }

pub overflow_add-found-in-loop-k : goal.overflow_add-found-in-loop-k
overflow_add-found-in-loop-k c = let r = here (goal.at.overflow_add-found-in-loop-k c).After-normal-row in record { fits = omega (arith, r.right_small, r.added_small, r.below, c.added.ensures) }

-- the labels when two components are joined
joined : (j : Job) (k : ℕ) {n m l r : ℕ} {labels after : List ℕ} {x : Equation} → Labels j k n labels → x ≡ normal_row j k → x.left < n → x.right < n →
    l ≡ label_in labels x.left → r ≡ label_in labels x.right → m ≡ n → Merges labels l r m after → Labels j (k + 1) n after
joined j k {n} {labels = labels} {after = after} {x = x} a is p q u v w merges =
    let next : suc k ≡ k + 1 = omega arith in
    subst (λ k. Labels j k n after) next (labels_joined j k labels n a x is p q after (rw (sym u, sym v, sym w) merges))

pub loop-k-preserved : goal.loop-k-preserved
loop-k-preserved c = let r = here (goal.at.loop-k-preserved c).After-normal-row in (
  omega (arith, c.join.ensures.as_many, c.loop-k.invariant.0),
  onward c.loop-k.invariant.1 c.equation-e.result c.normal-row.result c.equation-e.ensures c.normal-row.ensures r c.join.new.self.labels
      (joined (job_of c.args.job.job.bytes.now) c.loop-k.k c.loop-k.invariant.1.labelled (c.normal-row.ensures ∙ ap normal c.equation-e.ensures) r.home r.other c.label-l.ensures.value c.label-r.ensures.value c.loop-k.invariant.0 c.join.ensures.merges)
      c.is_binary.result c.is_binary.ensures c.label-l.ensures.value c.label-r.ensures.value c.from.result (c.from.ensures ∙ c.of.ensures) c.added.result c.added.ensures,
)
