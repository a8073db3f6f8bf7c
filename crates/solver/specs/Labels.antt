-- Components in the program: a list of labels, the lowest variable of each variable's component.
use Rattle.std.specs.Prelude.{◌≡◌, ◌≢◌, List, ℕ, ◌≤◌, ◌<◌}
use Rattle.lists.specs.Table.{Tabulates}
use Rattle.jobs.specs.Job.{Job}
use Rattle.jobs.specs.Component.{merged, lowest_by}
use Rattle.solver.specs.StateArrays.{label_in}

-- each variable in a component of its own
abbrev pub Apart : List ℕ → Type 0
Apart = Tabulates 0 (λ i. i) 256

-- a label is the lowest of its component, and so not above the variable, and it labels itself
pub record Lowest (labels : List ℕ) (n : ℕ) : Type 0 where
  pub low : (i : ℕ) → i < n → label_in labels i ≤ i
  pub self : (i : ℕ) → i < n → label_in labels (label_in labels i) ≡ label_in labels i

-- those labelled `high` that lie from it on, before `end`, have taken the label `low`
pub record Renames (old : List ℕ) (low high end : ℕ) (new : List ℕ) : Type 0 where
  pub renamed : (i : ℕ) → high ≤ i → i < end → label_in old i ≡ high → label_in new i ≡ low
  pub kept : (i : ℕ) → high ≤ i → i < end → label_in old i ≢ high → label_in new i ≡ label_in old i
  pub before : (i : ℕ) → i < high → label_in new i ≡ label_in old i
  pub behind : (i : ℕ) → end ≤ i → label_in new i ≡ label_in old i

-- the components l and r have become one
abbrev pub Merges : List ℕ → ℕ → ℕ → ℕ → List ℕ → Type 0
Merges labels l r = Tabulates 0 (λ i. merged l r (label_in labels i))

-- the lowest variables that the first m equations of a job join to its variables
abbrev pub Labels : Job → ℕ → ℕ → List ℕ → Type 0
Labels j m = Tabulates 0 (lowest_by j m)
