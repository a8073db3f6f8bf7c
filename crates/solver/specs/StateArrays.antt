-- What the arrays of the state say of a variable.
use Rattle.std.specs.Prelude.{List, ℕ, get_or}
use Rattle.runs.specs.declared.Run.{Run}
use Rattle.runs.specs.Run.{empty}

abbrev pub label_in : List ℕ → ℕ → ℕ
label_in labels i = get_or labels i 0

abbrev pub run_in : List Run → ℕ → Run
run_in runs i = get_or runs i empty
