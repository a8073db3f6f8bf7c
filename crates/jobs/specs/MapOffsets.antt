-- Document 02, #101: where the parts of the map stand.
use Rattle.std.specs.Prelude.{ℕ, ◌+◌, ◌*◌, length}
use Rattle.jobs.specs.Job.{Job}

-- "24 + 4n", where the equation rows begin
abbrev pub map_equations_at : Job → ℕ
map_equations_at j = 24 + 4 * length j.variables

-- "24 + 4n + 4m", where they end
abbrev pub map_length : Job → ℕ
map_length j = map_equations_at j + 4 * length j.equations
