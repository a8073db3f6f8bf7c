-- The choice in the program: what is made of the arrays of labels, runs and weights, and so the findings that are written.
use Rattle.std.specs.Prelude.{◌≡◌, List, ℕ, ◌≤◌, ◌<◌, ℤ, pos, ◌+ℤ◌, ◌*ℤ◌, Option, Some, None}
use Rattle.ints.specs.Within.{Within}
use Rattle.lists.specs.Sums.{sum}
use Rattle.runs.specs.declared.Run.{Run}
use Rattle.jobs.specs.Solution.{number}
use Rattle.jobs.specs.Findings.{Findings}
use Rattle.families.specs.FamilyRun.{FamilyRun}
use Rattle.families.specs.Family.{choice}
use Rattle.families.specs.ModelFindings.{leads_by, component_by}
use Rattle.solver.specs.StateArrays.{label_in, run_in}

-- ---- what is asked of the arrays, for n variables
-- each run is that of a variable in a family
pub record FamilyRuns (runs : List Run) (n : ℕ) : Type 0 where
  pub at : (i : ℕ) → i < n → FamilyRun (run_in runs i)

-- and in that of its component, which has as many members for all of them
pub record Members (labels : List ℕ) (runs : List Run) (n : ℕ) : Type 0 where
  pub form : FamilyRuns runs n
  pub many : (i : ℕ) → i < n → (run_in runs i).many ≡ (run_in runs (label_in labels i)).many

-- and no family is empty, where every component has a fit-out
pub record NoneEmpty (runs : List Run) (n : ℕ) : Type 0 where
  pub at : (i : ℕ) → i < n → 1 ≤ (run_in runs i).many

-- each number is at most so large in size
pub record AllWithin (size : ℕ) (xs : List ℤ) (n : ℕ) : Type 0 where
  pub at : (i : ℕ) → i < n → Within size (number xs i)

-- ---- what is made of them
-- the first of n variables whose family is empty
abbrev pub FirstEmpty : List Run → ℕ → Option ℕ → Type 0
FirstEmpty runs n (Some l) = (l < n) × (((run_in runs l).many ≡ 0) × NoneEmpty runs l)
FirstEmpty runs n None = NoneEmpty runs n

-- a variable's number, where a step along its component's family gains so much
abbrev pub number_at : Run → ℤ → ℤ
number_at run slope = run.first +ℤ run.step *ℤ pos (choice slope run.many)

abbrev pub number_in : List ℕ → List Run → List ℤ → ℕ → ℤ
number_in labels runs slopes i = number_at (run_in runs i) (number slopes (label_in labels i))

-- what numbers are worth
unfoldable pub objective_in : List ℤ → List ℤ → ℕ → ℤ
unfolding sum
objective_in weights numbers n = sum n (λ i. number weights i *ℤ number numbers i)

-- the index of the member that is chosen in the component of l
abbrev pub chosen_in : List Run → List ℤ → ℕ → ℕ
chosen_in runs slopes l = choice (number slopes l) (run_in runs l).many

-- all that is found
abbrev pub findings_in : List ℕ → List Run → List ℤ → List ℤ → ℕ → ℤ → Findings
findings_in labels runs slopes numbers n objective = record {
  n = n;
  leads = leads_by (label_in labels) n;
  component = component_by (label_in labels) n;
  run = run_in runs;
  assigned = number numbers;
  chosen = chosen_in runs slopes;
  slope = number slopes;
  objective = objective;
}
