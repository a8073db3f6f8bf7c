-- Every answer as C is handed it, and what C hands over. A field that does not apply is 0.
use Rattle.std.specs.Prelude.{◌≡◌, ℕ, ◌%◌, eqb, ℤ, pos}
use Rattle.reasons.specs.declared.Reason.{Reason}
use Rattle.reasons.specs.Numbers.{number_of, row_of}
use Rattle.reasons.specs.Answer.{WorkingAnswer, gives, refused}
use Rattle.runs.specs.declared.Run.{Run}
use Rattle.runs.specs.declared.Equation.{Equation}
use Rattle.jobs.specs.Faults.{Answer, accepted, refused as turned_away}
use Rattle.jobs.specs.Call.{Areas, Call}
use Rattle.jobs.specs.Verdict.{Verdict, planned, no_fit, refused as refusal, verdict}
use Rattle.jobs.specs.Demands.{Plans}
use Rattle.planner.specs.declared.Lent.{Lent}
pub use Rattle.host.specs.declared.FitOutcome.{FitOutcome}
pub use Rattle.host.specs.declared.FitChecked.{FitChecked}
pub use Rattle.host.specs.declared.FitQuotient.{FitQuotient}
pub use Rattle.host.specs.declared.FitRun.{FitRun}
pub use Rattle.host.specs.declared.FitWorking.{FitWorking}

-- the lowest bit says that the map area is lent
abbrev pub lent_by : ℕ → Lent
lent_by bits = record { map = eqb (bits % 2) 1 }

-- kind 1 planned, 2 no fit, 3 refused
abbrev pub outcome_for : Verdict → FitOutcome
outcome_for (planned worth) = record { kind = 1; count = 0; reason = 0; row = 0; worth = worth }
outcome_for (no_fit l) = record { kind = 2; count = l; reason = 0; row = 0; worth = pos 0 }
outcome_for (refusal reason row) = record { kind = 3; count = 0; reason = reason; row = row; worth = pos 0 }

-- all that is promised of a planning call, with its outcome as C is handed it
pub record PlansFor (c : Call) (r : FitOutcome) (x : Areas) : Type 0 where
  pub outcome : r ≡ outcome_for (verdict c)
  pub plans : Plans c (verdict c) x

-- the numbers of a refusal, as C is handed them
abbrev pub refused_for : Reason → FitChecked
refused_for r = record { reason = number_of r; row = row_of r }

-- the others have reason 0 where nothing is refused
abbrev pub checked_for : Answer → FitChecked
checked_for accepted = record { reason = 0; row = 0 }
checked_for (turned_away reason row) = record { reason = reason; row = row }

abbrev pub quotient_for : WorkingAnswer ℤ → FitQuotient
quotient_for (gives q) = record { reason = 0; row = 0; quotient = q }
quotient_for (refused reason row) = record { reason = reason; row = row; quotient = pos 0 }

abbrev pub working_for : WorkingAnswer Run → FitWorking
working_for (gives r) = record { reason = 0; row = 0; run = record { first = r.first; step = r.step; many = r.many } }
working_for (refused reason row) = record { reason = reason; row = row; run = record { first = pos 0; step = pos 0; many = 0 } }

-- a run for C
abbrev pub fit_run : Run → FitRun
fit_run r = record { first = r.first; step = r.step; many = r.many }

-- what C hands over
abbrev pub run_for : FitRun → Run
run_for r = record { first = r.first; step = r.step; many = r.many }

abbrev pub equation_for : ℤ → ℤ → ℤ → Equation
equation_for a b c = record { a = a; b = b; c = c }
