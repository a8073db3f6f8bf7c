-- Which sheets a variant of the planner writes to. Nothing here has to be believed: whatever these say, the variants change nothing.
use Rattle.std.specs.Prelude.{Bool, true, false, ◌&&◌, not, List, ℕ, ◌==◌}
use Rattle.std.specs.List.{slice_index_or}
use Rattle.jobs.specs.Verdict.{Verdict, planned, no_fit, refused}

abbrev pub is_planned : Verdict → Bool
is_planned (planned w) = true
is_planned (no_fit l) = false
is_planned (refused reason row) = false

abbrev pub is_unfit : Verdict → Bool
is_unfit (planned w) = false
is_unfit (no_fit l) = true
is_unfit (refused reason row) = false

-- it is the sheet of one count
abbrev pub is_single : Verdict → List ℕ → Bool
is_single v s = is_planned v && slice_index_or s 4 0 == 1

-- count 1 is in another group than count 0
abbrev pub is_apart : Verdict → List ℕ → Bool
is_apart v s = is_planned v && not (slice_index_or s 52 0 == 0)
