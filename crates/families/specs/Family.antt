-- Document 01, "Groups and their families": "The fit-outs of a group are written base + step·k, k = 0 to fits − 1, over all its
-- counts together." Base, step and fits are those of crate jobs, read off the list of all solutions; here stands what it
-- means that they give that list.
use Rattle.std.specs.Prelude.{◌≡◌, ◌≢◌, cond, List, ℕ, ◌-◌, ◌≤◌, ◌<◌, length, ℤ, pos, ◌+ℤ◌, ◌*ℤ◌, ◌<ℤ◌}
use Rattle.std.specs.Int.Signed.{le_z}
use Rattle.lists.specs.Table.{table}
use Rattle.jobs.specs.Job.{Job}
use Rattle.jobs.specs.Solution.{number, solutions}
use Rattle.jobs.specs.Component.{lowest}
use Rattle.jobs.specs.Family.{component_job, fits, base, step}

-- base + step·k, of a component's own job c
abbrev pub member : Job → ℕ → List ℤ
member c k = table (λ i. number (base c) i +ℤ number (step c) i *ℤ pos k) (length c.variables)

-- the solutions of the group of l, in order, are base + step·k, k = 0 to fits − 1. "With two or more fits the lowest count of
-- the group has a step above zero; with one fit every step is 0." And with two or more no step of the group is 0.
pub record IsFamily (j : Job) (l : ℕ) : Type 0 where
  pub all : solutions (component_job j l) ≡ table (member (component_job j l)) (fits (component_job j l))
  pub rises : 2 ≤ fits (component_job j l) → pos 0 <ℤ number (step (component_job j l)) l
  pub rests : fits (component_job j l) ≤ 1 → (i : ℕ) → number (step (component_job j l)) i ≡ pos 0
  pub moves : 2 ≤ fits (component_job j l) → (i : ℕ) → i < length j.variables → lowest j i ≡ l → number (step (component_job j l)) i ≢ pos 0

-- "k is chosen for the greatest worth": the last member where the gain is 0 or more, and the first elsewhere. Where it is 0 all members
-- are worth the same, and the last has the higher number at the lowest count: it is the earliest of them.
abbrev pub choice : ℤ → ℕ → ℕ
choice gain many = cond (le_z (pos 0) gain) (many - 1) 0
