-- The checks of a job's amendments, pass by pass: the length, and then the four passes, each over all sheets before the next.
use mathlib.Core.Path.{◌≡◌, sym, ◌∙◌, ap, subst}
use mathlib.Core.Logic.{◌≢◌, ◌↔◌}
use mathlib.Core.Option.{Option, none, some}
use mathlib.Core.List.{List, []}
use Prim.Native.Nat.{ℕ, ◌<◌}
use Rattle.std.specs.Prelude.{Result, Ok, Err}
use Rattle.reasons.specs.declared.Reason.{Reason}
use Rattle.reasons.specs.declared.Reason.TheVariants.{AmendmentsLength, AmendmentZero, AmendmentReference, AmendmentTwice, AmendmentRange}
use Rattle.reasons.specs.Answer.{fault_of}
use Rattle.jobs.specs.Call.{Call, lending_nothing}
use Rattle.jobs.specs.Job.{variable_count}
use Rattle.jobs.specs.Bounds.{Bounded}
use Rattle.jobs.specs.Amendments.{amendment_count, amendments_of, amendment, zero_at, amendment_bounds, job_in}
use Rattle.jobs.specs.Component.{component_count}
use Rattle.jobs.specs.ReasonTable.{MisSized, Misreferenced, Twice, Broken, Faultless, amendment_checks}
use Rattle.jobs.specs.Decide.{first_where}
use Rattle.jobs.specs.FirstRow.{FirstRow}
use Rattle.jobs.specs.Faults.{breaks?, first_broken}
use Rattle.jobs.proofs.FirstOf.{first_here, first_later, first_past, first_stays}
use Rattle.jobs.proofs.FirstRow.{pass_fault}
use Rattle.jobs.proofs.Faults.{pass, from_twice, from_references, from_zeros, fault_of_job, fault_past_job, Faultless-iff}

-- what the job check refuses is refused with any amendments
pub refused_with_any : (s a : List ℕ) {r : Reason} → some r ≡ first_broken (lending_nothing s []) → some r ≡ first_broken (lending_nothing s a)
refused_with_any s a {r} e = sym (fault_of_job (lending_nothing s a) r (sym e))

module _ (s a : List ℕ) (job_sound : none ≡ first_broken (lending_nothing s [])) where
  abbrev call : Call
  call = lending_nothing s a

  abbrev first : List Reason → Option Reason
  first = first_where (breaks? call)

  past_job : first_broken (lending_nothing s a) ≡ first (amendment_checks a)
  past_job = fault_past_job s a (sym job_sound)

  length_first : MisSized a → some AmendmentsLength ≡ first_broken (lending_nothing s a)
  unfolding amendment_checks
  length_first h = sym (past_job ∙ first_here (breaks? call) AmendmentsLength (from_zeros a) h)

  module _ (sized : ¬ MisSized a) {n k : ℕ} (n_is : n ≡ variable_count s) (k_is : k ≡ amendment_count a) where
    past_length : first_broken (lending_nothing s a) ≡ first (from_zeros a)
    unfolding amendment_checks
    past_length = past_job ∙ first_later (breaks? call) AmendmentsLength (from_zeros a) sized

    -- what a pass answers is the first fault of its checks
    passed : (reason : ℕ → Reason) (P : ℕ → Type 0) → ((t : ℕ) → Broken (component_count (job_in call)) call (reason t) ↔ ((t < amendment_count a) × P t)) → (x : Result (Unit {0}) Reason) → FirstRow reason P k x → first (pass a reason) ≡ fault_of x
    passed reason P same x f = pass_fault call reason P (amendment_count a) same x (subst (λ k. FirstRow reason P k x) k_is f)

    of_zeros : (x : Result (Unit {0}) Reason) → FirstRow AmendmentZero (λ t. zero_at a t ≢ 0) k x → first (pass a AmendmentZero) ≡ fault_of x
    of_zeros = passed AmendmentZero (λ t. zero_at a t ≢ 0) (λ t. (λ h. h, λ h. h))

    of_references : (x : Result (Unit {0}) Reason) → FirstRow AmendmentReference (Misreferenced n (amendments_of a)) k x → first (pass a AmendmentReference) ≡ fault_of x
    of_references x f = passed AmendmentReference (Misreferenced (variable_count s) (amendments_of a)) (λ t. (λ h. h, λ h. h)) x (subst (λ n. FirstRow AmendmentReference (Misreferenced n (amendments_of a)) k x) n_is f)

    of_twice : (x : Result (Unit {0}) Reason) → FirstRow AmendmentTwice (Twice (amendments_of a)) k x → first (pass a AmendmentTwice) ≡ fault_of x
    of_twice = passed AmendmentTwice (Twice (amendments_of a)) (λ t. (λ h. h, λ h. h))

    of_ranges : (x : Result (Unit {0}) Reason) → FirstRow AmendmentRange (λ t. ¬ Bounded (amendment_bounds (amendment (amendments_of a) t))) k x → first (pass a AmendmentRange) ≡ fault_of x
    of_ranges = passed AmendmentRange (λ t. ¬ Bounded (amendment_bounds (amendment (amendments_of a) t))) (λ t. (λ h. h, λ h. h))

    zeros_first : {r : Reason} → FirstRow {A = Unit {0}} AmendmentZero (λ t. zero_at a t ≢ 0) k (Err r) → some r ≡ first_broken (lending_nothing s a)
    zeros_first {r} f = sym (past_length ∙ first_stays (breaks? call) (pass a AmendmentZero) (from_references a) (of_zeros (Err r) f))

    module _ (zeros : (t : ℕ) → t < k → ¬ (zero_at a t ≢ 0)) where
      past_zeros : first_broken (lending_nothing s a) ≡ first (from_references a)
      past_zeros = past_length ∙ first_past (breaks? call) (pass a AmendmentZero) (from_references a) (of_zeros (Ok tt) zeros)

      references_first : {r : Reason} → FirstRow {A = Unit {0}} AmendmentReference (Misreferenced n (amendments_of a)) k (Err r) → some r ≡ first_broken (lending_nothing s a)
      references_first {r} f = sym (past_zeros ∙ first_stays (breaks? call) (pass a AmendmentReference) (from_twice a) (of_references (Err r) f))

      module _ (references : (t : ℕ) → t < k → ¬ Misreferenced n (amendments_of a) t) where
        past_references : first_broken (lending_nothing s a) ≡ first (from_twice a)
        past_references = past_zeros ∙ first_past (breaks? call) (pass a AmendmentReference) (from_twice a) (of_references (Ok tt) references)

        twice_first : {r : Reason} → FirstRow {A = Unit {0}} AmendmentTwice (Twice (amendments_of a)) k (Err r) → some r ≡ first_broken (lending_nothing s a)
        twice_first {r} f = sym (past_references ∙ first_stays (breaks? call) (pass a AmendmentTwice) (pass a AmendmentRange) (of_twice (Err r) f))

        module _ (twice : (t : ℕ) → t < k → ¬ Twice (amendments_of a) t) where
          ranges_first : (x : Result (Unit {0}) Reason) → FirstRow AmendmentRange (λ t. ¬ Bounded (amendment_bounds (amendment (amendments_of a) t))) k x → fault_of x ≡ first_broken (lending_nothing s a)
          ranges_first x f = sym (past_references ∙ first_past (breaks? call) (pass a AmendmentTwice) (pass a AmendmentRange) (of_twice (Ok tt) twice) ∙ of_ranges x f)

-- the same of the bytes b that were opened, which are the bytes a
module _ (s a b : List ℕ) (opened : b ≡ a) (job_sound : none ≡ first_broken (lending_nothing s [])) where
  to_given : {o : Option Reason} → o ≡ first_broken (lending_nothing s b) → o ≡ first_broken (lending_nothing s a)
  to_given {o} = subst (λ a. o ≡ first_broken (lending_nothing s a)) opened

  module _ (sized : ¬ MisSized a) {n k : ℕ} (n_is : n ≡ variable_count s) (k_is : k ≡ amendment_count b) where
    sized_so : ¬ MisSized b
    sized_so h = sized (subst MisSized opened h)

    pub zeros_fault : {r : Reason} → FirstRow {A = Unit {0}} AmendmentZero (λ t. zero_at b t ≢ 0) k (Err r) → some r ≡ first_broken (lending_nothing s a)
    zeros_fault f = to_given (zeros_first s b job_sound sized_so n_is k_is f)

    module _ (zeros : (t : ℕ) → t < k → ¬ (zero_at b t ≢ 0)) where
      pub references_fault : {r : Reason} → FirstRow {A = Unit {0}} AmendmentReference (Misreferenced n (amendments_of b)) k (Err r) → some r ≡ first_broken (lending_nothing s a)
      references_fault f = to_given (references_first s b job_sound sized_so n_is k_is zeros f)

      module _ (references : (t : ℕ) → t < k → ¬ Misreferenced n (amendments_of b) t) where
        pub twice_fault : {r : Reason} → FirstRow {A = Unit {0}} AmendmentTwice (Twice (amendments_of b)) k (Err r) → some r ≡ first_broken (lending_nothing s a)
        twice_fault f = to_given (twice_first s b job_sound sized_so n_is k_is zeros references f)

        module _ (twice : (t : ℕ) → t < k → ¬ Twice (amendments_of b) t) where
          pub range_fault : {r : Reason} → FirstRow {A = Unit {0}} AmendmentRange (λ t. ¬ Bounded (amendment_bounds (amendment (amendments_of b) t))) k (Err r) → some r ≡ first_broken (lending_nothing s a)
          range_fault {r} f = to_given (ranges_first s b job_sound sized_so n_is k_is zeros references twice (Err r) f)

          module _ (ranges : (t : ℕ) → t < k → ¬ ¬ Bounded (amendment_bounds (amendment (amendments_of b) t))) where
            pub no_fault : none ≡ first_broken (lending_nothing s a)
            no_fault = to_given (ranges_first s b job_sound sized_so n_is k_is zeros references twice (Ok tt) ranges)

            pub accepted_faultless : Faultless (lending_nothing s b)
            accepted_faultless = (Faultless-iff (lending_nothing s b)).0 (sym (ranges_first s b job_sound sized_so n_is k_is zeros references twice (Ok tt) ranges))

-- a length that no number of sheets has, or too many of them
pub length_fault : (s a : List ℕ) → none ≡ first_broken (lending_nothing s []) → {r : Reason} → (r ≡ AmendmentsLength) × MisSized a → some r ≡ first_broken (lending_nothing s a)
length_fault s a job_sound f = ap some f.0 ∙ length_first s a job_sound f.1
