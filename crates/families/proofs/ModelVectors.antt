-- The model at the worked jobs of specs/Vectors.antt and of crate jobs, computed.
use Rattle.std.specs.Prelude.{◌≡◌, refl, Bool, true, false, List, [], map, ℕ, eqb, length}
use Rattle.std.proofs.Common.{ap}
use Rattle.std.proofs.Math.Option.{Option, none, some}
use Rattle.lists.specs.Members.{◌∈◌}
use Rattle.lists.specs.Keep.{keep, place}
use Rattle.lists.specs.Table.{table, up_to}
use Rattle.lists.proofs.Maps.{same_values}
use Rattle.little_endian.specs.LittleEndian.{unsigned, u16}
use Rattle.jobs.specs.Decide.{equal?, first_where}
use Rattle.jobs.specs.Job.{job_of}
use Rattle.jobs.specs.Component.{leads, component_count}
use Rattle.jobs.specs.Faults.{Answer, accepted, checked}
use Rattle.jobs.specs.Verdict.{Verdict, planned, no_fit, refused}
use Rattle.jobs.specs.Demands.{base_on, step_on, group_on, fits_on}
use Rattle.jobs.specs.Vectors.{Vector, fitted, vectors}
use Rattle.families.specs.Model.{State, label_at, run_at, state_after_all}
use Rattle.families.specs.Vectors.{Worked, run, marked_jobs}

-- the lowest variable of each group
abbrev pub leads_of : State → List ℕ
leads_of s = keep (λ i. eqb (label_at s i) i) (up_to (length s.labels))

abbrev given : Worked → Answer × (State × (ℕ × ℕ))
given v = let s = state_after_all (job_of v.job) in (checked v.job [], (s, (length (leads_of s), component_count (job_of v.job))))

abbrev expected : Worked → Answer × (State × (ℕ × ℕ))
expected v = (accepted, (record { labels = v.labels; runs = v.runs }, (v.g, v.g)))

marked_computed : map given marked_jobs ≡ map expected marked_jobs
unfolding checked state_after_all job_of leads keep unsigned table
marked_computed = refl

-- the job check accepts each of them, the model gives what was worked out, and as many groups as the definition
pub marked : (v : Worked) → v ∈ marked_jobs →
    (checked v.job [] ≡ accepted) × ((state_after_all (job_of v.job) ≡ record { labels = v.labels; runs = v.runs }) ×
    ((length (leads_of (state_after_all (job_of v.job))) ≡ v.g) × (component_count (job_of v.job) ≡ v.g)))
marked v h =
    let e = same_values given expected marked_computed h in
    (ap (λ p. p.0) e, (ap (λ p. p.1.0) e, (ap (λ p. p.1.1.0) e, ap (λ p. p.1.1.1) e)))

-- ---- the vectors of crate jobs
-- what a sheet says: of each variable the lowest that stands in its group, and its run
abbrev on_sheet : Vector → State
on_sheet v =
    let s = v.after in
    let n = u16 s 4 in
    record {
      labels = table (λ i. place (λ k. eqb (group_on s k) (group_on s i)) (up_to n)) n;
      runs = table (λ i. run (base_on s i) (step_on s i) (fits_on (job_of v.job) s (group_on s i))) n;
    }

-- and the numbers of its groups
abbrev groups_on : Vector → List ℕ
groups_on v = up_to (u16 v.after 6)

abbrev modelled : Vector → State × List ℕ
modelled v = let s = state_after_all (job_of v.job) in (s, map (group_on v.after) (leads_of s))

fitted_computed : map modelled fitted ≡ map (λ v. (on_sheet v, groups_on v)) fitted
unfolding state_after_all job_of unsigned keep place table
fitted_computed = refl

-- the model gives what stands on the sheet, where its groups, in the order of their lowest variables, are numbered from 0
pub fitted_model : (v : Vector) → v ∈ fitted →
    (state_after_all (job_of v.job) ≡ on_sheet v) × (map (group_on v.after) (leads_of (state_after_all (job_of v.job))) ≡ groups_on v)
fitted_model v h = let e = same_values modelled (λ v. (on_sheet v, groups_on v)) fitted_computed h in (ap (λ p. p.0) e, ap (λ p. p.1) e)

-- the lowest variable of the first group without a solution
abbrev first_empty : State → Option ℕ
first_empty s = first_where (λ l. equal? (run_at s l).many 0) (leads_of s)

-- what a verdict says of it
abbrev named : Verdict → Option ℕ
named (planned worth) = none
named (no_fit l) = some l
named (refused reason row) = none

abbrev is_sought : Verdict → Bool
is_sought (planned worth) = true
is_sought (no_fit l) = true
is_sought (refused reason row) = false

-- those that are not refused, so that a fit was sought
unfoldable pub sought : List Vector
unfolding keep
sought = keep (λ v. is_sought v.verdict) vectors

sought_computed : map (λ v. first_empty (state_after_all (job_of v.job))) sought ≡ map (λ v. named v.verdict) sought
unfolding sought state_after_all job_of unsigned first_where keep table
sought_computed = refl

-- the model has an empty group exactly where the verdict is no fit, and the first of them is the one that is named
pub sought_model : (v : Vector) → v ∈ sought → first_empty (state_after_all (job_of v.job)) ≡ named v.verdict
sought_model v h = same_values (λ v. first_empty (state_after_all (job_of v.job))) (λ v. named v.verdict) sought_computed h
