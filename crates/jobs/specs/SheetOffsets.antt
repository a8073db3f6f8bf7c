-- Document 01, "The sheet": where its parts stand.
use Rattle.std.specs.Prelude.{ℕ, ◌+◌, ◌*◌, length}
use Rattle.jobs.specs.Job.{Job}
use Rattle.jobs.specs.Component.{component_count}

-- "24 + 16n", where the group rows begin
abbrev pub group_rows_at : Job → ℕ
group_rows_at j = 24 + 16 * length j.variables

-- "24 + 16n + 16g", where they end
abbrev pub sheet_length : Job → ℕ
sheet_length j = group_rows_at j + 16 * component_count j
