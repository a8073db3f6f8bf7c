-- Document 01, "Workings": a working gives a value, or it refuses with a reason and a row.
use Rattle.std.specs.Prelude.{Bool, cond, ◌≡◌, ◌↔◌, ℕ, Result, Ok, Err}
use Rattle.std.proofs.Math.Option.{Option, none, some}
use Rattle.reasons.specs.declared.Reason.{Reason}
use Rattle.reasons.specs.Numbers.{number_of, row_of}

pub data WorkingAnswer (A : Type 0) : Type 0 where
  gives : A → WorkingAnswer A
  refused : ℕ → ℕ → WorkingAnswer A

-- what a program's result says: its value, or its reason in the papers' number and row
abbrev pub working_answer_of : {A : Type 0} → Result A Reason → WorkingAnswer A
working_answer_of (Ok x) = gives x
working_answer_of (Err r) = refused (number_of r) (row_of r)

-- the reason that it is refused with, if any
abbrev pub fault_of : {A : Type 0} → Result A Reason → Option Reason
fault_of (Ok x) = none
fault_of (Err r) = some r

-- a value where a test passes; otherwise reason 9, row 0
abbrev pub answer_if : {A : Type 0} → Bool → A → WorkingAnswer A
answer_if test x = cond test (gives x) (refused 9 0)

-- reason 9, row 0: exactly when P does not hold
abbrev pub RefusedUnless : {A : Type 0} → Type 0 → WorkingAnswer A → Type 0
RefusedUnless P x = (x ≡ refused 9 0) ↔ (¬ P)
