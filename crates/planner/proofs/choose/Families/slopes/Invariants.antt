-- `slopes` meets its contract: each variable adds to its own component.
use mathlib.Core.Path.{◌≡◌}
use mathlib.Core.List.{List}
use Prim.Native.Nat.{ℕ, ◌<◌}
use lib.ListN.{length, get_or}
use Rattle.ints.proofs.{ℤ, pos, ◌*ℤ◌}
use Rattle.lists.specs.Sums.{sum_of}
use Rattle.runs.specs.declared.Run.{Run}
use Rattle.jobs.specs.Solution.{number}
use Rattle.solver.specs.StateArrays.{label_in, run_in}
use Rattle.planner.proofs.choose.Families.slopes.Given as goal

-- the slopes of the first i variables: w gives the weights, g the labels and s the steps
pub record Summed (w : ℕ → ℤ) (g : ℕ → ℕ) (s : ℕ → ℤ) (n i : ℕ) (slopes : List ℤ) : Type 0 where
  pub long : length slopes ≡ 256
  pub at : (l : ℕ) → l < n → get_or slopes l (pos 0) ≡ sum_of g l i (λ k. w k *ℤ s k)

abbrev pub steps : List Run → ℕ → ℤ
steps runs k = (run_in runs k).step

abbrev pub invariant-loop-i : goal.invariant-loop-i
invariant-loop-i l = Summed (number l.self.weights.now) (label_in l.self.state.now.labels) (steps l.self.state.now.runs) l.self.variables l.i l.slopes
