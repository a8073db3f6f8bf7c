-- The map in the program: how the job hangs together, by the arrays of the pass over its equations.
use Rattle.std.specs.Prelude.{List, ℕ, ◌<◌, length}
use Rattle.std.specs.List.{slice_index_or}
use Rattle.jobs.specs.Structure.{Structure}
use Rattle.families.specs.ModelFindings.{leads_by, component_by}
use Rattle.solver.specs.StateArrays.{label_in}
use Rattle.solver.specs.declared.structure.Structure.{Structure as Found}

-- each of the first m numbers is below n
pub record AllBelow (n : ℕ) (xs : List ℕ) (m : ℕ) : Type 0 where
  pub at : (k : ℕ) → k < m → slice_index_or xs k 0 < n

-- for n variables and m equations
abbrev pub structure_in : Found → ℕ → ℕ → Structure
structure_in t n m = record {
  n = n;
  m = m;
  components = length (leads_by (label_in t.labels) n);
  component = component_by (label_in t.labels) n;
  degree = λ i. slice_index_or t.degrees i 0;
  equation_component = λ k. component_by (label_in t.labels) n (slice_index_or t.homes k 0);
  kind = λ k. slice_index_or t.kinds k 0;
}
