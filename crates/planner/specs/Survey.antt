-- The survey of a job that the check accepts: whether the areas are long enough, and the map written where one is lent.
use Rattle.std.specs.Prelude.{◌≡◌, if◌then◌else◌, List, ℕ, ◌≤◌, length, Result, Ok, Err}
use Rattle.std.proofs.Math.Option.{none, some}
use Rattle.little_endian.specs.Over.{over}
use Rattle.reasons.specs.declared.Reason.{Reason}
use Rattle.jobs.specs.declared.Accepted.{Accepted}
use Rattle.jobs.specs.Call.{Call, call_of}
use Rattle.jobs.specs.Job.{Job}
use Rattle.jobs.specs.Amendments.{amended}
use Rattle.jobs.specs.Faults.{first_broken}
use Rattle.jobs.specs.Component.{component_count}
use Rattle.jobs.specs.Structure.{structure}
use Rattle.jobs.specs.SheetOffsets.{sheet_length}
use Rattle.jobs.specs.MapLayout.{map_of}
use Rattle.planner.specs.declared.Areas.{Areas}
use Rattle.planner.specs.Lending.{lent_in}

-- what the check accepts: the job as amended, and the call of it that lends these areas
abbrev pub job_accepted : Accepted → Job
job_accepted x = amended x.lawful.job.bytes.now x.amendments.bytes.now

abbrev pub call_accepted : Accepted → Areas → Call
call_accepted x lent = call_of x.lawful.job.bytes.now x.amendments.bytes.now (lent_in lent)

-- of the areas as lent the map's bytes are `after` now. An area is too short, for this reason
pub record TooShort (x : Accepted) (lent : Areas) (after : List ℕ) (r : Reason) : Type 0 where
  pub first : first_broken (call_accepted x lent) ≡ some r
  pub untouched : after ≡ lent.map.now

-- all are long enough, for a job with g components
pub record LongEnough (x : Accepted) (lent : Areas) (after : List ℕ) (g : ℕ) : Type 0 where
  pub none_broken : first_broken (call_accepted x lent) ≡ none
  pub components : g ≡ component_count (job_accepted x)
  pub room : sheet_length (job_accepted x) ≤ length lent.sheet.now
  pub written : after ≡ (if lent.lent.map then over 0 (map_of (structure (job_accepted x))) lent.map.now else lent.map.now)

-- what each answer says
abbrev pub Surveyed : Accepted → Areas → List ℕ → Result ℕ Reason → Type 0
Surveyed x lent after (Ok g) = LongEnough x lent after g
Surveyed x lent after (Err r) = TooShort x lent after r
