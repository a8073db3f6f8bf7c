-- What the planner's answer says, with document 01's numbers.
use Rattle.std.specs.Prelude.{Result, Ok, Err}
use Rattle.std.proofs.Math.Option.{Option, none, some}
use Rattle.reasons.specs.declared.Reason.{Reason}
use Rattle.reasons.specs.Numbers.{number_of, row_of}
use Rattle.jobs.specs.Verdict.{Verdict, planned, no_fit, refused}
pub use Rattle.planner.specs.declared.Outcome.{Outcome}
use Rattle.planner.specs.declared.Outcome.TheVariants.{Planned, NoFit, Refused}
use Rattle.planner.specs.declared.Fit.{Fit}
use Rattle.planner.specs.declared.Fit.TheVariants as fit

-- the reason of a refusal
abbrev pub refusal_of : Outcome → Option Reason
refusal_of (Planned objective) = none
refusal_of (NoFit l) = none
refusal_of (Refused r) = some r

abbrev pub verdict_of : Outcome → Verdict
verdict_of (Planned objective) = planned objective
verdict_of (NoFit l) = no_fit l
verdict_of (Refused r) = refused (number_of r) (row_of r)

-- ---- of what is not refused, and of an attempt
abbrev pub fit_verdict : Fit → Verdict
fit_verdict (fit.Planned objective) = planned objective
fit_verdict (fit.NoFit l) = no_fit l

abbrev pub outcome_of : Result Fit Reason → Outcome
outcome_of (Ok (fit.Planned objective)) = Planned objective
outcome_of (Ok (fit.NoFit l)) = NoFit l
outcome_of (Err r) = Refused r
