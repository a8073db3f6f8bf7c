-- The planner's last steps as functions on lists: the choice in each component and the objective, from what is known of each
-- variable, and so the model's findings. Like the model of the families they compute, and nothing here has to be believed:
-- proofs/ModelFindings.antt shows that they give `verdict` and `areas_after`.
use Rattle.std.proofs.Math.Option.{Option}
use Rattle.std.specs.Prelude.{List, ℕ, eqb, ltb, length, ℤ, ◌+ℤ◌, ◌*ℤ◌}
use Rattle.std.proofs.Math.IntN.{pos}
use Rattle.lists.specs.Keep.{keep}
use Rattle.lists.specs.Sums.{sum, sum_of}
use Rattle.lists.specs.Table.{table, up_to}
use Rattle.runs.specs.declared.Run.{Run}
use Rattle.jobs.specs.Decide.{equal?, first_where}
use Rattle.jobs.specs.Call.{Areas, Call}
use Rattle.jobs.specs.Job.{Job, variable}
use Rattle.jobs.specs.Amendments.{amended, job_in}
use Rattle.jobs.specs.Component.{leads, component}
use Rattle.jobs.specs.Findings.{Findings}
use Rattle.jobs.specs.Faults.{first_broken}
use Rattle.jobs.specs.Verdict.{Verdict, outcome}
use Rattle.jobs.specs.Structure.{degree_by, kind, structure}
use Rattle.jobs.specs.AreasAfter.{sheet_after, map_after, areas_by}
use Rattle.families.specs.Family.{choice}
use Rattle.families.specs.Model.{label_at, run_at, state_after_all}

-- ---- the components of n variables, where g gives the lowest variable of the component of each
unfoldable pub leads_by : (ℕ → ℕ) → ℕ → List ℕ
unfolding keep table
leads_by g n = keep (λ i. eqb (g i) i) (up_to n)

-- the number of a variable's component
unfoldable pub component_by : (ℕ → ℕ) → ℕ → ℕ → ℕ
unfolding keep leads_by
component_by g n i = length (keep (λ l. ltb l (g i)) (leads_by g n))

-- the lowest variable of the first component whose family is empty, where r gives each variable's run in its component's family
unfoldable pub empty_by : ℕ → (ℕ → ℕ) → (ℕ → Run) → Option ℕ
unfolding first_where leads_by
empty_by n g r = first_where (λ l. equal? (r l).many 0) (leads_by g n)

-- ---- the choice, where w gives the weight of each variable
module _ (n : ℕ) (w : ℕ → ℤ) (g : ℕ → ℕ) (r : ℕ → Run) where
  -- of the component of l: the slope, and the index of the member that is chosen
  unfoldable pub slope_by : ℕ → ℤ
  unfolding sum
  slope_by l = sum_of g l n (λ i. w i *ℤ (r i).step)

  unfoldable pub chosen_by : ℕ → ℕ
  unfolding slope_by
  chosen_by l = choice (slope_by l) (r l).many

  unfoldable pub number_by : ℕ → ℤ
  unfolding chosen_by
  number_by i = (r i).first +ℤ (r i).step *ℤ pos (chosen_by (g i))

  unfoldable pub objective_by : ℤ
  unfolding sum number_by
  objective_by = sum n (λ i. w i *ℤ number_by i)

  abbrev pub findings_by : Findings
  findings_by = record {
    n = n;
    leads = leads_by g n;
    component = component_by g n;
    run = r;
    assigned = number_by;
    chosen = chosen_by;
    slope = slope_by;
    objective = objective_by;
  }

-- ---- of a job, with the families that the model ends in
abbrev pub model_findings : Job → Findings
model_findings j = let t = state_after_all j in findings_by (length j.variables) (λ i. (variable j i).weight) (label_at t) (run_at t)

abbrev pub model_empty : Job → Option ℕ
model_empty j = let t = state_after_all j in empty_by (length j.variables) (label_at t) (run_at t)

-- of all that a call is given. How the job hangs together is the definitions' own: they compute it without a search.
unfoldable pub verdict_by : Call → Verdict
unfolding first_broken amended leads state_after_all empty_by objective_by
verdict_by c = let j = job_in c in outcome (first_broken c) (model_empty j) (model_findings j).objective

unfoldable pub model_areas : Call → Areas
unfolding amended state_after_all verdict_by sheet_after map_after leads_by component_by slope_by chosen_by number_by objective_by leads component degree_by kind
model_areas c = let j = job_in c in areas_by (model_findings j) (structure j) (verdict_by c) c.lent
