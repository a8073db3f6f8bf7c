-- What the program makes of one equation, in the model's terms.
use Rattle.std.specs.Prelude.{◌≡◌, cond, List, ℕ, ◌<◌, eqb, Option, None, Some}
use Rattle.std.proofs.Math.Option as maybe
use Rattle.runs.specs.declared.Run.{Run}
use Rattle.families.specs.FamilyRun.{FamilyRun}
use Rattle.families.specs.Model.{Indices as Pair, through, run_after}
use Rattle.solver.specs.StateArrays.{label_in}
use Rattle.solver.specs.Runs.{gathered}
use Rattle.solver.specs.declared.join.Indices.{Indices}

abbrev pub remains_by : Option Run → maybe.Option Run
remains_by None = maybe.none
remains_by (Some r) = maybe.some r

abbrev pub indices_by : Indices → Pair
indices_by i = record { left = i.left; right = i.right }

abbrev pub kept_by : Option Indices → maybe.Option Pair
kept_by None = maybe.none
kept_by (Some i) = maybe.some (indices_by i)

-- what is asked of the runs of component g, of which the members at these indices are to stay
pub record Reducible (labels : List ℕ) (runs : List Run) (g : ℕ) (kept : Run) (n : ℕ) : Type 0 where
  pub before : (v : ℕ) → v < n → label_in labels v ≡ g → FamilyRun (gathered labels runs v)
  pub after : (v : ℕ) → v < n → label_in labels v ≡ g → FamilyRun (through (gathered labels runs v) kept)

-- and what they are then
abbrev pub part_of : List ℕ → List Run → ℕ → Run → ℕ → Run
part_of labels runs g kept v = cond (eqb (label_in labels v) g) (through (gathered labels runs v) kept) (gathered labels runs v)

pub record Reduces (labels : List ℕ) (runs : List Run) (g : ℕ) (kept : Run) (n : ℕ) (runs' : List Run) : Type 0 where
  pub at : (v : ℕ) → v < n → gathered labels runs' v ≡ part_of labels runs g kept v

-- the members at these indices have the numbers that they had
pub record Stays (kept : Run) (many : ℕ) : Type 0 where
  pub first : (r : Run) → FamilyRun r → r.many ≡ many → (through r kept).first ≡ r.first
  pub step : (r : Run) → FamilyRun r → r.many ≡ many → (through r kept).step ≡ r.step

-- the same of two components
pub record BothReducible (labels : List ℕ) (runs : List Run) (l r : ℕ) (i : Indices) (n : ℕ) : Type 0 where
  pub left : Reducible labels runs l i.left n
  pub right : Reducible labels runs r i.right n

abbrev pub both_part : List ℕ → List Run → ℕ → ℕ → Indices → ℕ → Run
both_part labels runs l r i v = run_after l r (indices_by i) (label_in labels v) (gathered labels runs v)

pub record BothReduce (labels : List ℕ) (runs : List Run) (l r : ℕ) (i : Indices) (n : ℕ) (runs' : List Run) : Type 0 where
  pub at : (v : ℕ) → v < n → gathered labels runs' v ≡ both_part labels runs l r i v
