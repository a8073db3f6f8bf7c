-- From where to where the variables of a component lie.
use Rattle.std.specs.Prelude.{◌≡◌, List, ℕ, ◌≤◌, ◌<◌, get_or}
use Rattle.solver.specs.StateArrays.{label_in}

-- one of n variables that is the lowest of its component
pub record Leads (labels : List ℕ) (n g : ℕ) : Type 0 where
  pub below : g < n
  pub self : label_in labels g ≡ g

-- the variables of every component lie from its lowest one to the one that `lasts` has there
pub record Spans (labels lasts : List ℕ) (n : ℕ) : Type 0 where
  pub low : (i : ℕ) → i < n → label_in labels i ≤ i
  pub high : (i : ℕ) → i < n → i ≤ get_or lasts (label_in labels i) 0
  pub inside : (g : ℕ) → g < n → get_or lasts g 0 < n
