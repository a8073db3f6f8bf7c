-- Document 02, #105: amendment sheets, "changes to bounds after the order". Which of them are in force, and the job as amended.
use Rattle.std.specs.Prelude.{Bool, not, ◌&&◌, List, [], ◌∷◌, ℕ, ◌+◌, ◌*◌, ◌/◌, eqb, length, get_or, pos}
use Rattle.lists.specs.Keep.{keep, every}
use Rattle.lists.specs.Table.{table, up_to}
use Rattle.little_endian.specs.LittleEndian.{u16, u32, i32}
use Rattle.jobs.specs.Call.{Call}
use Rattle.jobs.specs.Job.{Variable, Job, job_of, variable}
use Rattle.jobs.specs.Bounds.{Bounds, with_bounds}
-- the program's struct: 02's sheet number is its serial, the sheet it supersedes 0 where there is none, 02's count its variable
pub use Rattle.jobs.specs.declared.Amendment.{Amendment}

-- ---- what the bytes say

-- "amendments of 20 bytes"
abbrev pub amendment_count : List ℕ → ℕ
amendment_count a = length a / 20

-- "sheet number u32, the sheet it supersedes u32 (0 for none), count u16, zero u16, low i32, high i32"
abbrev pub amendment_at : List ℕ → ℕ → Amendment
amendment_at a t = record {
  serial = u32 a (20 * t);
  supersedes = u32 a (20 * t + 4);
  variable = u16 a (20 * t + 8);
  low = i32 a (20 * t + 12);
  high = i32 a (20 * t + 16);
}

abbrev pub zero_at : List ℕ → ℕ → ℕ
zero_at a t = u16 a (20 * t + 10)

unfoldable pub amendments_of : List ℕ → List Amendment
unfolding table
amendments_of a = table (amendment_at a) (amendment_count a)

-- the sheet in a row; past the last row all is 0
abbrev pub no_amendment : Amendment
no_amendment = record { serial = 0; supersedes = 0; variable = 0; low = pos 0; high = pos 0 }

abbrev pub amendment : List Amendment → ℕ → Amendment
amendment xs t = get_or xs t no_amendment

-- ---- which are in force

-- "A sheet is in force if no other supersedes it": the number of the sheet in row t is in nobody's field, be that one in force or not
unfoldable pub is_in_force : List Amendment → ℕ → Bool
unfolding every
is_in_force xs t = every (λ x. not (eqb x.supersedes (amendment xs t).serial)) xs

-- the rows of the sheets in force for variable i (proofs/AmendedJob.antt: a call that is not turned away has one at most)
unfoldable pub governing : List Amendment → ℕ → List ℕ
unfolding keep table is_in_force
governing xs i = keep (λ t. eqb (amendment xs t).variable i && is_in_force xs t) (up_to (length xs))

-- ---- the job as amended

-- "its bounds then replace those of the count's row"
abbrev pub amendment_bounds : Amendment → Bounds
amendment_bounds a = record { low = a.low; high = a.high }

abbrev pub replaced : List Amendment → Variable → List ℕ → Bounds
replaced xs v [] = record { low = v.low; high = v.high }
replaced xs v (t ∷ ts) = amendment_bounds (amendment xs t)

abbrev pub bounds_in_force : Job → List Amendment → ℕ → Bounds
bounds_in_force j xs i = replaced xs (variable j i) (governing xs i)

-- of the job's bytes and the amendments' bytes
unfoldable pub amended : List ℕ → List ℕ → Job
unfolding job_of amendments_of governing with_bounds table
amended s a = let j = job_of s in with_bounds j (table (bounds_in_force j (amendments_of a)) (length j.variables))

-- "A plan is right for the job so amended": every verdict, area and demand is over it
abbrev pub job_in : Call → Job
job_in c = amended c.job c.amendments
