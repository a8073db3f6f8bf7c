-- Document 01, the table of reasons, with document 02's: when a call is turned away, and with which reason and row.
use Rattle.std.specs.Prelude.{◌≡◌, ◌⊎◌, ◌≢◌, true, ℕ, zero, suc, ◌+◌, ◌*◌, ◌≤◌, ◌<◌, length, take}
use Rattle.std.proofs.Math.Option.{Option, none, some}
use mathlib.Core.List.{List, [], ◌∷◌, ◌++◌, flat_map}
use Rattle.reasons.specs.declared.Reason.{Reason}
use Rattle.reasons.specs.declared.Reason.TheVariants.{ShortJob, WrongMark, TooMany, WrongHeader, VariableRange, EquationVariables, EquationRange, ShortArea, WrongArgument, ShortMap, AmendmentsLength, AmendmentZero, AmendmentReference, AmendmentTwice, AmendmentRange}
use Rattle.reasons.specs.Numbers.{number_of, row_of}
use Rattle.ints.specs.Within.{Within}
use Rattle.lists.specs.Members.{◌∈◌}
use Rattle.lists.specs.Table.{table, up_to}
use Rattle.runs.specs.Run.{bound}
use Rattle.little_endian.specs.LittleEndian.{unsigned, u32}
use Rattle.jobs.specs.SheetOffsets.{group_rows_at}
use Rattle.jobs.specs.MapOffsets.{map_length}
use Rattle.jobs.specs.Component.{Numbered}
use Rattle.jobs.specs.Call.{Call}
use Rattle.jobs.specs.Bounds.{Bounded}
use Rattle.jobs.specs.Amendments.{Amendment, amendment_count, amendments_of, amendment, zero_at, is_in_force, amendment_bounds, job_in}
use Rattle.jobs.specs.Job.{Variable, Equation, job_of, variable_count, equation_count, equation_row_at, variable, equation}

-- ---- the conditions, line by line

-- "the mark `FIT1` (0–3)"
abbrev pub mark : List ℕ
mark = 70 ∷ 73 ∷ 84 ∷ 49 ∷ []

-- the offsets, the length field, "zero (20–23)" and the real length as n and m make them
pub record Header (s : List ℕ) : Type 0 where
  pub variables : u32 s 8 ≡ 24
  pub equations : u32 s 12 ≡ 24 + 12 * variable_count s
  pub length_field : u32 s 16 ≡ equation_row_at (variable_count s) (equation_count s)
  pub zeros : u32 s 20 ≡ 0
  pub real_length : length s ≡ equation_row_at (variable_count s) (equation_count s)

-- "Low and high lie within ±1,000,000,000, weights within ±1,000,000"
pub record InRange (v : Variable) : Type 0 where
  pub low : Within bound v.low
  pub high : Within bound v.high
  pub weight : Within 1000000 v.weight

-- "a and b are 1 to 1,000,000 in size with either sign", or 0 by 02's #102; "c lies within ±2,000,000,000,000,000"
pub record Coefficients (e : Equation) : Type 0 where
  pub left : Within 1000000 e.a
  pub right : Within 1000000 e.b
  pub constant : Within 2000000000000000 e.c

-- "a count not below n"
abbrev pub Misnamed : ℕ → Equation → Type 0
Misnamed n e = (n ≤ e.left) ⊎ (n ≤ e.right)

-- "a length not a multiple of 20, over 512 sheets"
abbrev pub MisSized : List ℕ → Type 0
MisSized a = (length a ≢ 20 * amendment_count a) ⊎ (512 < amendment_count a)

-- ---- of the sheet in row t

-- the number of the sheet before it, and 0 before the first
abbrev pub serial_before : List Amendment → ℕ → ℕ
serial_before xs zero = 0
serial_before xs (suc t) = (amendment xs t).serial

-- what it supersedes is "an earlier one for the same count"
abbrev pub SupersedesEarlier : List Amendment → ℕ → Type 0
SupersedesEarlier xs t = (u : ℕ) × ((u < t) × (((amendment xs u).serial ≡ (amendment xs t).supersedes) × ((amendment xs u).variable ≡ (amendment xs t).variable)))

-- "numbers not rising from at least 1, a count not below n, or a superseded sheet that is not an earlier one for the same count"
abbrev pub Misreferenced : ℕ → List Amendment → ℕ → Type 0
Misreferenced n xs t =
    ((amendment xs t).serial ≤ serial_before xs t)
    ⊎ ((n ≤ (amendment xs t).variable)
    ⊎ (((amendment xs t).supersedes ≢ 0) × (¬ SupersedesEarlier xs t)))

-- the sheet in row u is "another in force for its count"
abbrev pub Rivals : List Amendment → ℕ → ℕ → Type 0
Rivals xs t u = ((amendment xs u).variable ≡ (amendment xs t).variable) × (is_in_force xs u ≡ true)

-- "a sheet in force after another in force for its count"
abbrev pub Twice : List Amendment → ℕ → Type 0
Twice xs t = (is_in_force xs t ≡ true) × ((u : ℕ) × ((u < t) × Rivals xs t u))

-- ---- of an area, and the whole table

-- an area is lent, and has fewer than n bytes
abbrev pub Shorter : Option (List ℕ) → ℕ → Type 0
Shorter (some area) n = length area < n
Shorter none n = ⊥

-- the rule of a reason is broken at its row, in a call whose job has g groups
abbrev pub Broken : ℕ → Call → Reason → Type 0
Broken g c ShortJob = length c.job < 24
Broken g c WrongMark = take 4 c.job ≢ mark
Broken g c TooMany = (256 < variable_count c.job) ⊎ (1024 < equation_count c.job)
Broken g c WrongHeader = ¬ Header c.job
Broken g c (VariableRange i) = (i < variable_count c.job) × (¬ InRange (variable (job_of c.job) i))
Broken g c (EquationVariables k) = (k < equation_count c.job) × Misnamed (variable_count c.job) (equation (job_of c.job) k)
Broken g c (EquationRange k) = (k < equation_count c.job) × (¬ Coefficients (equation (job_of c.job) k))
-- "shorter than 24 + 16n + 16g"
Broken g c ShortArea = Shorter c.lent.sheet (group_rows_at (job_in c) + 16 * g)
Broken g c WrongArgument = ⊥
-- "map area shorter than 24 + 4n + 4m [..] only where a map area is lent"
Broken g c ShortMap = Shorter c.lent.map (map_length (job_in c))
Broken g c AmendmentsLength = MisSized c.amendments
-- "a nonzero zero field"
Broken g c (AmendmentZero t) = (t < amendment_count c.amendments) × (zero_at c.amendments t ≢ 0)
Broken g c (AmendmentReference t) = (t < amendment_count c.amendments) × Misreferenced (variable_count c.job) (amendments_of c.amendments) t
Broken g c (AmendmentTwice t) = (t < amendment_count c.amendments) × Twice (amendments_of c.amendments) t
-- "bounds out of range, in force or not"
Broken g c (AmendmentRange t) = (t < amendment_count c.amendments) × (¬ Bounded (amendment_bounds (amendment (amendments_of c.amendments) t)))

-- ---- the order of the table is that of this list: "all count rows come before equation rows, and in one row 6 comes before 7.
-- Equation rows are taken in turn"
abbrev pub header_checks : List Reason
header_checks = ShortJob ∷ WrongMark ∷ TooMany ∷ WrongHeader ∷ []

abbrev pub equation_checks : ℕ → List Reason
equation_checks k = EquationVariables k ∷ EquationRange k ∷ []

unfoldable pub row_checks : List ℕ → List Reason
unfolding table flat_map unsigned
row_checks s = table VariableRange (variable_count s) ++ flat_map equation_checks (up_to (equation_count s))

-- "each tested over all sheets in this order after 7, with that reason 5 last"; the length and the number of sheets are "both looked at
-- before the zero fields"
unfoldable pub amendment_checks : List ℕ → List Reason
unfolding table
amendment_checks a =
    let k = amendment_count a in
    AmendmentsLength ∷ (table AmendmentZero k ++ (table AmendmentReference k ++ (table AmendmentTwice k ++ table AmendmentRange k)))

-- "tested just after 8"
abbrev pub area_checks : List Reason
area_checks = ShortArea ∷ ShortMap ∷ []

unfoldable pub checks : Call → List Reason
unfolding row_checks amendment_checks
checks c = header_checks ++ ((row_checks c.job ++ amendment_checks c.amendments) ++ area_checks)

-- P holds of x, which stands in a list behind others of which P does not hold
pub record First {A : Type 0} (P : A → Type 0) (xs : List A) (x : A) : Type 0 where
  pub earlier : List A
  pub later : List A
  pub listed : xs ≡ earlier ++ x ∷ later
  pub none_before : (y : A) → y ∈ earlier → ¬ P y
  pub holds : P x

-- "The row reported is the lowest one that breaks a rule": r is broken, and no check before it
abbrev pub IsFirst : ℕ → Call → Reason → Type 0
IsFirst g c = First (Broken g c) (checks c)

-- reported with this number and row, where g is the number of the job's groups
abbrev pub Reported : Call → ℕ → ℕ → Type 0
Reported c reason row = (g : ℕ) × ((group : ℕ → ℕ) × (Numbered (job_in c) g group × ((r : Reason) × ((number_of r ≡ reason) × ((row_of r ≡ row) × IsFirst g c r)))))

-- no rule is broken
abbrev pub Faultless : Call → Type 0
Faultless c = (g : ℕ) (group : ℕ → ℕ) → Numbered (job_in c) g group → (r : Reason) → ¬ Broken g c r
