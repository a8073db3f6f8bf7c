-- The family invariant: what is known of the model's state after the first m equations of a job.
use Rattle.std.specs.Prelude.{◌≡◌, ◌↔◌, List, ℕ, ◌≤◌, ◌<◌, length, ℤ, pos, ◌≤ℤ◌, ◌<ℤ◌}
use Rattle.runs.specs.declared.Run.{Run}
use Rattle.runs.specs.Run.{nth}
use Rattle.families.specs.FamilyRun.{FamilyRun}
use Rattle.jobs.specs.Job.{Job, variable}
use Rattle.jobs.specs.NormalForm.{normal_row}
use Rattle.jobs.specs.Solution.{number, value}
use Rattle.jobs.specs.Component.{lowest_by}
use Rattle.families.specs.Model.{State, label_at, run_at}

-- x keeps the bounds of the variables of component g, and of the first m equations, in normal form, those that lie in it hold
pub record Keeps (j : Job) (m g : ℕ) (x : List ℤ) : Type 0 where
  pub low : (i : ℕ) → i < length j.variables → lowest_by j m i ≡ g → (variable j i).low ≤ℤ number x i
  pub high : (i : ℕ) → i < length j.variables → lowest_by j m i ≡ g → number x i ≤ℤ (variable j i).high
  pub holds : (k : ℕ) → k < m → lowest_by j m (normal_row j k).left ≡ g → value (normal_row j k) x ≡ (normal_row j k).c

-- x is number k of the family of component g: base + step·k at all its variables
pub record IsMember (j : Job) (m : ℕ) (run : ℕ → Run) (g k : ℕ) (x : List ℤ) : Type 0 where
  pub below : k < (run g).many
  pub at : (i : ℕ) → i < length j.variables → lowest_by j m i ≡ g → number x i ≡ nth (run i) k

-- there is exactly one such k
pub record OnFamily (j : Job) (m : ℕ) (run : ℕ → Run) (g : ℕ) (x : List ℤ) : Type 0 where
  pub k : ℕ
  pub is : IsMember j m run g k x
  pub only : (k' : ℕ) → IsMember j m run g k' x → k' ≡ k

-- labels: each variable is labelled with the lowest variable that the equations join to it.
-- family: the numbers that fit are those of the family, each once.
-- The form: many is the same in all of a component; with two or more the lowest variable rises and no step is 0, with one every
-- step is 0, and the empty family is 0, 0, 0 (`FamilyRun`).
pub record Invariant (j : Job) (m : ℕ) (s : State) : Type 0 where
  pub labels : (i : ℕ) → i < length j.variables → label_at s i ≡ lowest_by j m i
  pub family : (g : ℕ) → g < length j.variables → lowest_by j m g ≡ g → (x : List ℤ) → Keeps j m g x ↔ OnFamily j m (run_at s) g x
  pub many : (i : ℕ) → i < length j.variables → (run_at s i).many ≡ (run_at s (lowest_by j m i)).many
  pub form : (i : ℕ) → i < length j.variables → FamilyRun (run_at s i)
  pub rises : (g : ℕ) → g < length j.variables → lowest_by j m g ≡ g → 2 ≤ (run_at s g).many → pos 0 <ℤ (run_at s g).step
