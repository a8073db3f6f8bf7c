-- The first fault of a call, as a function that computes, and what the job check answers.
use Rattle.std.specs.Prelude.{◌≡◌, ◌↔◌, true, List, ℕ, ◌+◌, ◌*◌, length, take, Result}
use Rattle.std.proofs.Math.Option.{Option, none, some}
use Rattle.reasons.specs.declared.Reason.{Reason}
use Rattle.reasons.specs.declared.Reason.TheVariants.{ShortJob, WrongMark, TooMany, WrongHeader, VariableRange, EquationVariables, EquationRange, ShortArea, WrongArgument, ShortMap, AmendmentsLength, AmendmentZero, AmendmentReference, AmendmentTwice, AmendmentRange}
use Rattle.reasons.specs.Numbers.{number_of, row_of}
use Rattle.reasons.specs.Answer.{fault_of}
use Rattle.ints.specs.Within.{Within}
use Rattle.runs.specs.Run.{bound}
use Rattle.little_endian.specs.LittleEndian.{u32}
use Rattle.jobs.specs.Decide.{tested, below?, at_most?, equal?, within?, by, both, either, not?, list?, some?, first_where}
use Rattle.jobs.specs.Job.{Variable, Equation, job_of, variable_count, equation_count, equation_row_at, variable, equation}
use Rattle.jobs.specs.Bounds.{Bounds, Bounded}
use Rattle.jobs.specs.Amendments.{Amendment, amendment_count, amendments_of, amendment, zero_at, is_in_force, amendment_bounds, amended, job_in}
use Rattle.jobs.specs.SheetOffsets.{group_rows_at}
use Rattle.jobs.specs.MapOffsets.{map_length}
use Rattle.jobs.specs.Call.{Call, lending_nothing}
use Rattle.jobs.specs.Component.{leads, component_count}
use Rattle.jobs.specs.ReasonTable.{mark, Header, InRange, Coefficients, Misnamed, MisSized, serial_before, SupersedesEarlier, Misreferenced, Twice, Shorter, Broken, checks, Reported, Faultless}

-- ---- each condition of the table can be decided
abbrev pub header? : (s : List ℕ) → Dec (Header s)
header? s =
    let whole = equation_row_at (variable_count s) (equation_count s) in
    by (
      λ h. record { variables = h.0; equations = h.1.0; length_field = h.1.1.0; zeros = h.1.1.1.0; real_length = h.1.1.1.1 },
      λ h. (h.variables, (h.equations, (h.length_field, (h.zeros, h.real_length)))),
    )
    (both (equal? (u32 s 8) 24) (both (equal? (u32 s 12) (24 + 12 * variable_count s)) (both (equal? (u32 s 16) whole) (both (equal? (u32 s 20) 0) (equal? (length s) whole)))))

-- the two of three ranges each, by their parts
abbrev pub range_parts : (v : Variable) → (Within bound v.low × (Within bound v.high × Within 1000000 v.weight)) ↔ InRange v
range_parts v = (λ h. record { low = h.0; high = h.1.0; weight = h.1.1 }, λ h. (h.low, (h.high, h.weight)))

abbrev pub coefficient_parts : (e : Equation) → (Within 1000000 e.a × (Within 1000000 e.b × Within 2000000000000000 e.c)) ↔ Coefficients e
coefficient_parts e = (λ h. record { left = h.0; right = h.1.0; constant = h.1.1 }, λ h. (h.left, (h.right, h.constant)))

abbrev pub in_range? : (v : Variable) → Dec (InRange v)
in_range? v =
    by (range_parts v)
    (both (within? bound v.low) (both (within? bound v.high) (within? 1000000 v.weight)))

abbrev pub coefficients? : (e : Equation) → Dec (Coefficients e)
coefficients? e =
    by (coefficient_parts e)
    (both (within? 1000000 e.a) (both (within? 1000000 e.b) (within? 2000000000000000 e.c)))

abbrev pub misnamed? : (n : ℕ) (e : Equation) → Dec (Misnamed n e)
misnamed? n e = either (at_most? n e.left) (at_most? n e.right)

abbrev pub bounded_parts : (b : Bounds) → (Within bound b.low × Within bound b.high) ↔ Bounded b
bounded_parts b = (λ h. record { low = h.0; high = h.1 }, λ h. (h.low, h.high))

abbrev pub bounded? : (b : Bounds) → Dec (Bounded b)
bounded? b = by (bounded_parts b) (both (within? bound b.low) (within? bound b.high))

abbrev pub mis_sized? : (a : List ℕ) → Dec (MisSized a)
mis_sized? a = either (not? (equal? (length a) (20 * amendment_count a))) (below? 512 (amendment_count a))

abbrev pub supersedes_earlier? : (xs : List Amendment) (t : ℕ) → Dec (SupersedesEarlier xs t)
supersedes_earlier? xs t = some? (λ u. both (equal? (amendment xs u).serial (amendment xs t).supersedes) (equal? (amendment xs u).variable (amendment xs t).variable)) t

abbrev pub misreferenced? : (n : ℕ) (xs : List Amendment) (t : ℕ) → Dec (Misreferenced n xs t)
misreferenced? n xs t =
    either (at_most? (amendment xs t).serial (serial_before xs t))
    (either (at_most? n (amendment xs t).variable) (both (not? (equal? (amendment xs t).supersedes 0)) (not? (supersedes_earlier? xs t))))

abbrev pub in_force? : (xs : List Amendment) (t : ℕ) → Dec (is_in_force xs t ≡ true)
in_force? xs t = tested (is_in_force xs t) (λ h. h, λ h. h)

abbrev pub twice? : (xs : List Amendment) (t : ℕ) → Dec (Twice xs t)
twice? xs t = both (in_force? xs t) (some? (λ u. both (equal? (amendment xs u).variable (amendment xs t).variable) (in_force? xs u)) t)

abbrev pub shorter? : (area : Option (List ℕ)) (n : ℕ) → Dec (Shorter area n)
shorter? (some area) n = below? (length area) n
shorter? none n = no (λ h. h)

abbrev pub broken? : (g : ℕ) (c : Call) (r : Reason) → Dec (Broken g c r)
broken? g c ShortJob = below? (length c.job) 24
broken? g c WrongMark = not? (list? (take 4 c.job) mark)
broken? g c TooMany = either (below? 256 (variable_count c.job)) (below? 1024 (equation_count c.job))
broken? g c WrongHeader = not? (header? c.job)
broken? g c (VariableRange i) = both (below? i (variable_count c.job)) (not? (in_range? (variable (job_of c.job) i)))
broken? g c (EquationVariables k) = both (below? k (equation_count c.job)) (misnamed? (variable_count c.job) (equation (job_of c.job) k))
broken? g c (EquationRange k) = both (below? k (equation_count c.job)) (not? (coefficients? (equation (job_of c.job) k)))
broken? g c ShortArea = shorter? c.lent.sheet (group_rows_at (job_in c) + 16 * g)
broken? g c WrongArgument = no (λ h. h)
broken? g c ShortMap = shorter? c.lent.map (map_length (job_in c))
broken? g c AmendmentsLength = mis_sized? c.amendments
broken? g c (AmendmentZero t) = both (below? t (amendment_count c.amendments)) (not? (equal? (zero_at c.amendments t) 0))
broken? g c (AmendmentReference t) = both (below? t (amendment_count c.amendments)) (misreferenced? (variable_count c.job) (amendments_of c.amendments) t)
broken? g c (AmendmentTwice t) = both (below? t (amendment_count c.amendments)) (twice? (amendments_of c.amendments) t)
broken? g c (AmendmentRange t) = both (below? t (amendment_count c.amendments)) (not? (bounded? (amendment_bounds (amendment (amendments_of c.amendments) t))))

-- with the number of groups that the job has (proofs/Numbering.antt: no other has a numbering, `groups_are`)
abbrev pub breaks? : (c : Call) (r : Reason) → Dec (Broken (component_count (job_in c)) c r)
breaks? c = broken? (component_count (job_in c)) c

-- the first of the checks that is broken (proofs/Faults.antt: exactly the one that `IsFirst`)
unfoldable pub first_broken : Call → Option Reason
unfolding first_where checks job_of amendments_of is_in_force amended leads
first_broken c = first_where (breaks? c) (checks c)

-- ---- what the job check answers: "The job check reports as the planner does through reason 7, and otherwise accepts." With amendments
-- it reports as the planner does through theirs.
pub data Answer : Type 0 where
  accepted : Answer
  refused : ℕ → ℕ → Answer

abbrev pub answered : Option Reason → Answer
answered none = accepted
answered (some r) = refused (number_of r) (row_of r)

-- what the program's result says
abbrev pub answer_of : {A : Type 0} → Result A Reason → Answer
answer_of x = answered (fault_of x)

unfoldable pub checked : List ℕ → List ℕ → Answer
unfolding first_broken
checked s a = answered (first_broken (lending_nothing s a))

-- demand 1 for the check of the job s with the amendments a, in the words of the table: refused exactly when a rule is broken, by the
-- first that is
pub record ChecksExactly (s a : List ℕ) (x : Answer) : Type 0 where
  pub refusal : (reason row : ℕ) → (x ≡ refused reason row) ↔ Reported (lending_nothing s a) reason row
  pub acceptance : (x ≡ accepted) ↔ Faultless (lending_nothing s a)
