-- A reason and a row are reported exactly when the rule is broken there and no check before it is.
use mathlib.Core.Path.{◌≡◌, refl, sym, ◌∙◌, ap, ap₂, subst}
use mathlib.Core.Logic.{◌↔◌, ◌⊎◌, inl, inr, ⊎_elim}
use mathlib.Core.Option.{Option, none, some}
use mathlib.Core.List.{List, [], ◌++◌, flat_map}
use Prim.Native.Nat.{ℕ, ◌<◌}
use native.Mathlib.Omega.{arith}
use Rattle.reasons.specs.declared.Reason.{Reason}
use Rattle.reasons.specs.declared.Reason.TheVariants.{ShortJob, WrongMark, TooMany, WrongHeader, VariableRange, EquationVariables, EquationRange, ShortArea, WrongArgument, ShortMap, AmendmentsLength, AmendmentZero, AmendmentReference, AmendmentTwice, AmendmentRange}
use Rattle.reasons.specs.Numbers.{number_of, row_of}
use Rattle.lists.specs.Members.{◌∈◌, here, there}
use Rattle.lists.specs.Table.{table, up_to}
use Rattle.lists.proofs.Members.{in-append, in-flat_map}
use Rattle.lists.proofs.Table.{in-table, in-up_to}
use Rattle.jobs.specs.Call.{Areas, Call, lending_nothing, call_of}
use Rattle.jobs.specs.Job.{variable_count, equation_count}
use Rattle.jobs.specs.Amendments.{amendment_count, job_in}
use Rattle.jobs.specs.Component.{component_count, component}
use Rattle.jobs.specs.ReasonTable.{MisSized, Broken, header_checks, equation_checks, row_checks, amendment_checks, area_checks, checks, IsFirst, Reported, Faultless}
use Rattle.jobs.specs.Decide.{first_where}
use Rattle.std.specs.Prelude.{Result, Ok}
use Rattle.reasons.specs.Answer.{fault_of}
use Rattle.jobs.specs.Faults.{breaks?, first_broken, accepted, refused, answered, answer_of, checked, ChecksExactly}
use Rattle.jobs.proofs.FirstOf.{first_none, first_here, first_later, first_past, first_stays, first_before, First-iff, first_same, none_holds, holds_none}
use Rattle.jobs.proofs.Numbering.{component_numbers, groups_are}

-- ---- the checks of the amendments, pass by pass
module _ (a : List ℕ) where
  abbrev k : ℕ
  k = amendment_count a

  abbrev pub pass : (ℕ → Reason) → List Reason
  pass reason = table reason (amendment_count a)

  -- what is left of the checks before each pass
  abbrev pub from_twice : List Reason
  from_twice = pass AmendmentTwice ++ pass AmendmentRange

  abbrev pub from_references : List Reason
  from_references = pass AmendmentReference ++ from_twice

  abbrev pub from_zeros : List Reason
  from_zeros = pass AmendmentZero ++ from_references

  -- a reason is of one of them
  data Pass (r : Reason) : Type 0 where
    of_length : r ≡ AmendmentsLength → Pass r
    of_zero : (t : ℕ) → t < k → r ≡ AmendmentZero t → Pass r
    of_reference : (t : ℕ) → t < k → r ≡ AmendmentReference t → Pass r
    of_twice : (t : ℕ) → t < k → r ≡ AmendmentTwice t → Pass r
    of_range : (t : ℕ) → t < k → r ≡ AmendmentRange t → Pass r

  among_passes : (r : Reason) → r ∈ amendment_checks a ↔ Pass r
  unfolding amendment_checks
  among_passes r = (out, into)
    where
      out : r ∈ amendment_checks a → Pass r
      out (here e) = of_length e
      out (there m) =
          ⊎_elim (λ i. let (t, h, e) = (in-table AmendmentZero k r).0 i in of_zero t h e)
          (λ m. ⊎_elim (λ i. let (t, h, e) = (in-table AmendmentReference k r).0 i in of_reference t h e)
          (λ m. ⊎_elim (λ i. let (t, h, e) = (in-table AmendmentTwice k r).0 i in of_twice t h e)
          (λ i. let (t, h, e) = (in-table AmendmentRange k r).0 i in of_range t h e)
          ((in-append (pass AmendmentTwice) (pass AmendmentRange) r).0 m))
          ((in-append (pass AmendmentReference) from_twice r).0 m))
          ((in-append (pass AmendmentZero) from_references r).0 m)

      second : r ∈ from_references → r ∈ amendment_checks a
      second m = there ((in-append (pass AmendmentZero) from_references r).1 (inr m))

      third : r ∈ from_twice → r ∈ amendment_checks a
      third m = second ((in-append (pass AmendmentReference) from_twice r).1 (inr m))

      into : Pass r → r ∈ amendment_checks a
      into (of_length e) = here e
      into (of_zero t h e) = there ((in-append (pass AmendmentZero) from_references r).1 (inl ((in-table AmendmentZero k r).1 (t, h, e))))
      into (of_reference t h e) = second ((in-append (pass AmendmentReference) from_twice r).1 (inl ((in-table AmendmentReference k r).1 (t, h, e))))
      into (of_twice t h e) = third ((in-append (pass AmendmentTwice) (pass AmendmentRange) r).1 (inl ((in-table AmendmentTwice k r).1 (t, h, e))))
      into (of_range t h e) = third ((in-append (pass AmendmentTwice) (pass AmendmentRange) r).1 (inr ((in-table AmendmentRange k r).1 (t, h, e))))

module _ (c : Call) where
  abbrev s : List ℕ
  s = c.job

  abbrev g : ℕ
  g = component_count (job_in c)

  abbrev a : List ℕ
  a = c.amendments

  -- ---- a rule that is broken is among the checks: those of the job's bytes, those of the amendments', and those of the areas behind them
  abbrev job_checks : List Reason
  job_checks = header_checks ++ row_checks s

  abbrev given_checks : List Reason
  given_checks = header_checks ++ (row_checks s ++ amendment_checks a)

  in-checks : {r : Reason} → (r ∈ given_checks) ⊎ (r ∈ area_checks) → r ∈ checks c
  unfolding checks
  in-checks {r} = (in-append given_checks area_checks r).1

  of_rows : {r : Reason} → r ∈ row_checks s → r ∈ checks c
  of_rows {r} m = in-checks (inl ((in-append header_checks (row_checks s ++ amendment_checks a) r).1 (inr ((in-append (row_checks s) (amendment_checks a) r).1 (inl m)))))

  of_amendments : {r : Reason} → r ∈ amendment_checks a → r ∈ checks c
  of_amendments {r} m = in-checks (inl ((in-append header_checks (row_checks s ++ amendment_checks a) r).1 (inr ((in-append (row_checks s) (amendment_checks a) r).1 (inr m)))))

  in_row : {r : Reason} (k : ℕ) → k < equation_count s → r ∈ equation_checks k → r ∈ row_checks s
  unfolding row_checks
  in_row {r} k h m =
      (in-append (table VariableRange (variable_count s)) (flat_map equation_checks (up_to (equation_count s))) r).1
      (inr ((in-flat_map equation_checks (up_to (equation_count s)) r).1 (k, (in-up_to (equation_count s) k).1 h, m)))

  in_variables : (i : ℕ) → i < variable_count s → VariableRange i ∈ row_checks s
  unfolding row_checks
  in_variables i h =
      (in-append (table VariableRange (variable_count s)) (flat_map equation_checks (up_to (equation_count s))) (VariableRange i)).1
      (inl ((in-table VariableRange (variable_count s) (VariableRange i)).1 (i, h, refl)))

  among : (r : Reason) → Broken g c r → r ∈ checks c
  among ShortJob b = in-checks (inl (search (here, there)))
  among WrongMark b = in-checks (inl (search (here, there)))
  among TooMany b = in-checks (inl (search (here, there)))
  among WrongHeader b = in-checks (inl (search (here, there)))
  among (VariableRange i) b = of_rows (in_variables i b.0)
  among (EquationVariables k) b = of_rows (in_row k b.0 (search (here, there)))
  among (EquationRange k) b = of_rows (in_row k b.0 (search (here, there)))
  among ShortArea b = in-checks (inr (search (here, there)))
  among WrongArgument b = absurd b
  among ShortMap b = in-checks (inr (search (here, there)))
  among AmendmentsLength b = of_amendments ((among_passes a _).1 (of_length refl))
  among (AmendmentZero t) b = of_amendments ((among_passes a _).1 (of_zero t b.0 refl))
  among (AmendmentReference t) b = of_amendments ((among_passes a _).1 (of_reference t b.0 refl))
  among (AmendmentTwice t) b = of_amendments ((among_passes a _).1 (of_twice t b.0 refl))
  among (AmendmentRange t) b = of_amendments ((among_passes a _).1 (of_range t b.0 refl))

  -- ---- the theorem
  pub reported_iff : (r : Reason) → (first_broken c ≡ some r) ↔ IsFirst (component_count (job_in c)) c r
  unfolding first_broken
  reported_iff r = First-iff (breaks? c) (checks c) r

  pub sound_iff : (first_broken c ≡ none) ↔ ((r : Reason) → ¬ Broken (component_count (job_in c)) c r)
  unfolding first_broken
  sound_iff = (λ e r b. none_holds (breaks? c) (checks c) e r (among r b) b, λ f. holds_none (breaks? c) (checks c) (λ r m. f r))

  -- with any numbering of the groups, of which there is one
  abbrev Found : ℕ → ℕ → Type 0
  Found reason row = (r : Reason) × ((first_broken c ≡ some r) × ((number_of r ≡ reason) × (row_of r ≡ row)))

  pub found_iff : (reason row : ℕ) → Reported c reason row ↔ ((r : Reason) × ((first_broken c ≡ some r) × ((number_of r ≡ reason) × (row_of r ≡ row))))
  found_iff reason row = (
    λ (k, (group, (f, (r, h)))). (r, ((reported_iff r).1 (subst (λ k. IsFirst k c r) (groups_are (job_in c) k group f) h.1.1), (h.0, h.1.0))),
    λ (r, h). (g, (component (job_in c), (component_numbers (job_in c), (r, (h.1.0, (h.1.1, (reported_iff r).0 h.0)))))),
  )

  pub Faultless-iff : (first_broken c ≡ none) ↔ Faultless c
  Faultless-iff = (
    λ e k group f r b. sound_iff.0 e r (subst (λ k. Broken k c r) (groups_are (job_in c) k group f) b),
    λ h. sound_iff.1 (h g (component (job_in c)) (component_numbers (job_in c))),
  )

pub none_broken : (c : Call) → Faultless c → first_broken c ≡ none
none_broken c = (Faultless-iff c).1

-- ---- no area is too short that is not lent, and no amendment breaks a rule where there is none
pub not_lent : (s a : List ℕ) → first_where (breaks? (lending_nothing s a)) area_checks ≡ none
not_lent s a = let d = breaks? (lending_nothing s a) in first_later d ShortArea _ (λ h. h) ∙ first_later d ShortMap [] (λ h. h) ∙ first_none d

pub not_amended : (s : List ℕ) (lent : Areas) → first_where (breaks? (call_of s [] lent)) (amendment_checks []) ≡ none
unfolding amendment_checks table
not_amended s lent = let d = breaks? (call_of s [] lent) in first_later d AmendmentsLength [] (λ h. ⊎_elim (λ n. n refl) (λ l. omega (arith, l)) h) ∙ first_none d

same : {P : Type 0} → P ↔ P
same = (λ h. h, λ h. h)

-- ---- from the checks to a call that has more: their own are the last, and the only ones in which the two differ
module _ (c : Call) where
  abbrev bare : Call
  bare = lending_nothing c.job []

  abbrev unlent : Call
  unlent = lending_nothing c.job c.amendments

  abbrev Alike : Call → Reason → Type 0
  Alike d r = Broken (g d) d r ↔ Broken (g c) c r

  of_row : (k : ℕ) (r : Reason) → r ∈ equation_checks k → Alike bare r × Alike unlent r
  of_row k r (there (there x8)) = elim x8 [ ]
  of_row k r (here e) = rw e (same, same)
  of_row k r (there (here e)) = rw e (same, same)

  of_job : (r : Reason) → r ∈ job_checks c → Alike bare r × Alike unlent r
  unfolding row_checks
  of_job r (here e) = rw e (same, same)
  of_job r (there (here e)) = rw e (same, same)
  of_job r (there (there (here e))) = rw e (same, same)
  of_job r (there (there (there (here e)))) = rw e (same, same)
  of_job r (there (there (there (there m)))) =
      ⊎_elim
      (λ k. let (i, h, e) = (in-table VariableRange (variable_count c.job) r).0 k in rw e (same, same))
      (λ k. let (i, h, l) = (in-flat_map equation_checks (up_to (equation_count c.job)) r).0 k in of_row i r l)
      ((in-append (table VariableRange (variable_count c.job)) (flat_map equation_checks (up_to (equation_count c.job))) r).0 m)

  of_given : (r : Reason) → r ∈ given_checks c → Alike unlent r
  of_given r m = ⊎_elim (λ k. (of_job r ((in-append header_checks (row_checks c.job) r).1 (inl k))).1) (λ k. ⊎_elim (λ k. (of_job r ((in-append header_checks (row_checks c.job) r).1 (inr k))).1) (λ k. passed ((among_passes c.amendments r).0 k)) ((in-append (row_checks c.job) (amendment_checks c.amendments) r).0 k)) ((in-append header_checks (row_checks c.job ++ amendment_checks c.amendments) r).0 m)
    where
      passed : Pass c.amendments r → Alike unlent r
      passed (of_length e) = rw e same
      passed (of_zero t h e) = rw e same
      passed (of_reference t h e) = rw e same
      passed (of_twice t h e) = rw e same
      passed (of_range t h e) = rw e same

  -- the job check's
  pub job_fault : first_broken (lending_nothing c.job []) ≡ first_where (breaks? c) (header_checks ++ row_checks c.job)
  unfolding first_broken checks
  job_fault =
      first_before (breaks? bare) (header_checks ++ (row_checks c.job ++ amendment_checks [])) area_checks (not_lent c.job [])
      ∙ first_before (breaks? bare) (job_checks c) (amendment_checks []) (not_amended c.job bare.lent)
      ∙ first_same (breaks? bare) (breaks? c) (job_checks c) (λ r m. (of_job r m).0)

  -- and that of the job with its amendments
  given_fault : first_broken unlent ≡ first_where (breaks? c) (given_checks c)
  unfolding first_broken checks
  given_fault = first_before (breaks? unlent) (given_checks c) area_checks (not_lent c.job c.amendments) ∙ first_same (breaks? unlent) (breaks? c) (given_checks c) of_given

  -- what the job check reports is reported with any amendments and areas
  pub fault_of_job : (r : Reason) → first_broken (lending_nothing c.job []) ≡ some r → first_broken c ≡ some r
  unfolding first_broken checks
  fault_of_job r e = first_stays (breaks? c) (given_checks c) area_checks (first_stays (breaks? c) (job_checks c) (amendment_checks c.amendments) (sym job_fault ∙ e))

  -- where it accepts, the amendments are left
  fault_of_amendments : first_broken (lending_nothing c.job []) ≡ none → first_where (breaks? c) (given_checks c) ≡ first_where (breaks? c) (amendment_checks c.amendments)
  fault_of_amendments e = first_past (breaks? c) (job_checks c) (amendment_checks c.amendments) (sym job_fault ∙ e)

  -- their length among them, which is looked at first
  pub fault_length : first_broken (lending_nothing c.job []) ≡ none → MisSized c.amendments → first_broken c ≡ some AmendmentsLength
  unfolding first_broken checks amendment_checks
  fault_length e h = first_stays (breaks? c) (given_checks c) area_checks (fault_of_amendments e ∙ first_here (breaks? c) AmendmentsLength (from_zeros c.amendments) h)

  -- what the check of both reports the planner reports
  pub fault_checked : (r : Reason) → first_broken (lending_nothing c.job c.amendments) ≡ some r → first_broken c ≡ some r
  unfolding first_broken checks
  fault_checked r e = first_stays (breaks? c) (given_checks c) area_checks (sym given_fault ∙ e)

  -- where it accepts, only the areas count
  module _ (e : first_broken (lending_nothing c.job c.amendments) ≡ none) where
    area_fault : first_broken c ≡ first_where (breaks? c) area_checks
    unfolding first_broken checks
    area_fault = first_past (breaks? c) (given_checks c) area_checks (sym given_fault ∙ e)

    pub fault_short : Broken (component_count (job_in c)) c ShortArea → first_broken c ≡ some ShortArea
    fault_short h = area_fault ∙ first_here (breaks? c) ShortArea _ h

    -- the answer area is long enough
    module _ (n : ¬ Broken (component_count (job_in c)) c ShortArea) where
      pub fault_map : Broken (component_count (job_in c)) c ShortMap → first_broken c ≡ some ShortMap
      fault_map h = area_fault ∙ first_later (breaks? c) ShortArea _ n ∙ first_here (breaks? c) ShortMap [] h

      pub fault_none : ¬ Broken (component_count (job_in c)) c ShortMap → first_broken c ≡ none
      fault_none k = area_fault ∙ first_later (breaks? c) ShortArea _ n ∙ first_later (breaks? c) ShortMap [] k ∙ first_none (breaks? c)

module _ (s a : List ℕ) where
  abbrev none_lent : Call
  none_lent = lending_nothing s a

  pub fault_past_job : first_broken (lending_nothing s []) ≡ none → first_broken (lending_nothing s a) ≡ first_where (breaks? (lending_nothing s a)) (amendment_checks a)
  fault_past_job e = given_fault none_lent ∙ fault_of_amendments none_lent e

  -- ---- what the check answers is what demand 1 asks of it
  -- the first fault behind an answer
  pub accepted_none : checked s a ≡ accepted → first_broken (lending_nothing s a) ≡ none
  unfolding checked
  accepted_none = go (first_broken none_lent)
    where
      go : (o : Option Reason) → answered o ≡ accepted → o ≡ none
      go none e = refl
      go (some r) e = cc

  pub refused_some : (p q : ℕ) → checked s a ≡ refused p q → (r : Reason) × ((first_broken (lending_nothing s a) ≡ some r) × ((number_of r ≡ p) × (row_of r ≡ q)))
  unfolding checked
  refused_some p q = go (first_broken none_lent)
    where
      go : (o : Option Reason) → answered o ≡ refused p q → (r : Reason) × ((o ≡ some r) × ((number_of r ≡ p) × (row_of r ≡ q)))
      go none e = let z : ◌≡◌ {A = ℕ} 0 1 = cc in absurd (omega arith)
      go (some r) e = (r, (refl, (cc, cc)))

  pub checks_exactly : ChecksExactly s a (checked s a)
  unfolding checked
  checks_exactly = record {
    refusal = λ p q. (
      λ e. (found_iff none_lent p q).1 (refused_some p q e),
      λ h. let (r, k) = (found_iff none_lent p q).0 h in ap answered k.0 ∙ ap₂ refused k.1.0 k.1.1,
    );
    acceptance = (λ e. (Faultless-iff none_lent).0 (accepted_none e), λ f. ap answered ((Faultless-iff none_lent).1 f));
  }

  pub is_checked : {A : Type 0} (x : Result A Reason) → fault_of x ≡ first_broken (lending_nothing s a) → answer_of x ≡ checked s a
  unfolding checked
  is_checked x e = ap answered e

  -- and so is that of the program's result, where its reason is the first fault
  pub answers_exactly : {A : Type 0} (x : Result A Reason) → fault_of x ≡ first_broken (lending_nothing s a) → (fault_of x ≡ first_broken (lending_nothing s a)) × ChecksExactly s a (answer_of x)
  unfolding checked
  answers_exactly x e = (e, subst (ChecksExactly s a) (sym (ap answered e)) checks_exactly)

  pub answer_exactly : {A : Type 0} (x : Result A Reason) → fault_of x ≡ first_broken (lending_nothing s a) → ChecksExactly s a (answer_of x)
  answer_exactly x e = (answers_exactly x e).1

  pub accepted_exactly : none ≡ first_broken (lending_nothing s a) → ChecksExactly s a accepted
  accepted_exactly e = answer_exactly {A = Unit {0}} (Ok tt) e
