-- The runs of all variables while equations are taken in.
use Rattle.std.specs.Prelude.{List, ℕ}
use Rattle.runs.specs.declared.Run.{Run}
use Rattle.solver.specs.StateArrays.{label_in, run_in}

-- the run of variable v: how many numbers it has stands at the lowest variable of its component
abbrev pub gathered : List ℕ → List Run → ℕ → Run
gathered labels runs v = record (run_in runs v) { many = (run_in runs (label_in labels v)).many }
