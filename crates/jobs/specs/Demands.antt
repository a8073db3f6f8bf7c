-- What is demanded of a plan, for the service port, the installer, the buyer and the repair bench in turn. Each demand is over all
-- that the call is given, the verdict v, and the areas x after the call; what a sheet or a map says is read off its bytes.
use Rattle.std.specs.Prelude.{◌≡◌, ◌↔◌, ◌⊎◌, Bool, false, cond, List, ℕ, ◌+◌, ◌*◌, ◌≤◌, ◌<◌, eqb, length, take, drop, ℤ, pos, ◌+ℤ◌, ◌*ℤ◌, ◌≤ℤ◌, ◌<ℤ◌}
use Rattle.std.proofs.Math.Option.{Option, none, some}
use Rattle.lists.specs.Table.{table}
use Rattle.little_endian.specs.LittleEndian.{unsigned, u16, u32, i32, i64}
use Rattle.jobs.specs.Call.{Areas, Call}
use Rattle.jobs.specs.Job.{Job, variable, equation}
use Rattle.jobs.specs.Amendments.{job_in}
use Rattle.jobs.specs.Solution.{number, value, IsSolution, objective, Optimal}
use Rattle.jobs.specs.SheetOffsets.{group_rows_at}
use Rattle.jobs.specs.MapOffsets.{map_equations_at, map_length}
use Rattle.jobs.specs.NormalForm.{Binary, home}
use Rattle.jobs.specs.Component.{Joined, IsLead, Numbered, Joins}
use Rattle.jobs.specs.Structure.{degree}
use Rattle.jobs.specs.ReasonTable.{Reported}
use Rattle.jobs.specs.Verdict.{Verdict, planned, no_fit, refused, verdict}
use Rattle.jobs.specs.AreasAfter.{areas_after}
use Rattle.jobs.specs.SheetLayout.{answer_mark}
use Rattle.jobs.specs.MapLayout.{map_mark}

-- ---- areas, before and after a call

-- P holds of the bytes of an area, where it is lent
abbrev pub IfLent : Option (List ℕ) → (List ℕ → Type 0) → Type 0
IfLent (some area) P = P area
IfLent none P = Unit {0}

-- lent as before, as long as before, and with the same bytes from byte n on
abbrev pub KeptFrom : ℕ → Option (List ℕ) → Option (List ℕ) → Type 0
KeptFrom n (some area) (some after) = (length after ≡ length area) × (drop n after ≡ drop n area)
KeptFrom n (some area) none = ⊥
KeptFrom n none (some after) = ⊥
KeptFrom n none none = Unit {0}

-- an area that is not lent stays as it was
abbrev pub UntouchedUnless : Bool → List ℕ → List ℕ → Type 0
UntouchedUnless lent before after = lent ≡ false → after ≡ before

-- ---- what stands on a sheet: document 01, "The sheet"; j says how many rows there are

abbrev pub worth_on : List ℕ → ℤ
worth_on after = i64 after 16

abbrev pub number_on : List ℕ → ℕ → ℤ
number_on after i = i32 after (24 + 16 * i)

abbrev pub base_on : List ℕ → ℕ → ℤ
base_on after i = i32 after (24 + 16 * i + 4)

abbrev pub step_on : List ℕ → ℕ → ℤ
step_on after i = i32 after (24 + 16 * i + 8)

abbrev pub group_on : List ℕ → ℕ → ℕ
group_on after i = u16 after (24 + 16 * i + 12)

abbrev pub zero_on : List ℕ → ℕ → ℕ
zero_on after i = u16 after (24 + 16 * i + 14)

abbrev pub fits_on : Job → List ℕ → ℕ → ℕ
fits_on j after g = u32 after (group_rows_at j + 16 * g)

abbrev pub chosen_on : Job → List ℕ → ℕ → ℕ
chosen_on j after g = u32 after (group_rows_at j + 16 * g + 4)

abbrev pub gain_on : Job → List ℕ → ℕ → ℤ
gain_on j after g = i64 after (group_rows_at j + 16 * g + 8)

-- "The fit-out on a sheet is its n number fields."
abbrev pub numbers_on : Job → List ℕ → List ℤ
numbers_on j after = table (number_on after) (length j.variables)

-- what f gives to the variables that the sheet has in group g, and 0 elsewhere
abbrev pub part_on : Job → List ℕ → ℕ → (ℕ → ℤ) → List ℤ
part_on j after g f = table (λ i. cond (eqb (group_on after i) g) (f i) (pos 0)) (length j.variables)

-- base + step·k of group g
abbrev pub member_on : Job → List ℕ → ℕ → ℕ → List ℤ
member_on j after g k = part_on j after g (λ i. base_on after i +ℤ step_on after i *ℤ pos k)

-- ---- demand 1, the service port: a faulty call is turned away by the first failing check of the table, and only a faulty one;
-- every area is then untouched, and what lies past a report always
pub record TurnsAway (c : Call) (v : Verdict) (x : Areas) : Type 0 where
  pub exactly : (reason row : ℕ) → (v ≡ refused reason row) ↔ Reported c reason row
  pub untouched : (reason row : ℕ) → v ≡ refused reason row → x ≡ c.lent
  pub past_sheet : (g : ℕ) (group : ℕ → ℕ) → Numbered (job_in c) g group → KeptFrom (group_rows_at (job_in c) + 16 * g) c.lent.sheet x.sheet
  pub past_map : KeptFrom (map_length (job_in c)) c.lent.map x.map

-- ---- demand 2, the installer

-- "A fit-out of a group gives each of its counts a whole number within its bounds so that every equation of the group holds."
-- Here of the group of l, as a list of n numbers that is 0 at every other variable.
pub record SolvesGroup (j : Job) (l : ℕ) (x : List ℤ) : Type 0 where
  pub long : length x ≡ length j.variables
  pub low : (i : ℕ) → i < length j.variables → Joined j l i → (variable j i).low ≤ℤ number x i
  pub high : (i : ℕ) → i < length j.variables → Joined j l i → number x i ≤ℤ (variable j i).high
  pub holds : (k : ℕ) → k < length j.equations → Joined j l (home (equation j k)) → value (equation j k) x ≡ (equation j k).c
  pub elsewhere : (i : ℕ) → i < length j.variables → ¬ Joined j l i → number x i ≡ pos 0

-- of the group of l, its lowest variable, whose number on the sheet is g: base, steps and fits give every solution, each exactly
-- once. "With two or more fits the lowest count of the group has a step above zero; with one fit every step is 0." k is the
-- place of one of them. "Gain is the sum of weight × step over the group."
pub record FamilyOn (j : Job) (l g : ℕ) (after : List ℕ) : Type 0 where
  pub all : (x : List ℤ) → SolvesGroup j l x ↔ ((k : ℕ) × ((k < fits_on j after g) × (x ≡ member_on j after g k)))
  pub once : (k k' : ℕ) → k < fits_on j after g → k' < fits_on j after g → member_on j after g k ≡ member_on j after g k' → k ≡ k'
  pub rises : 2 ≤ fits_on j after g → pos 0 <ℤ step_on after l
  pub rests : fits_on j after g ≡ 1 → (i : ℕ) → i < length j.variables → group_on after i ≡ g → step_on after i ≡ pos 0
  pub chosen : chosen_on j after g < fits_on j after g
  pub gain : gain_on j after g ≡ objective j (part_on j after g (step_on after))

-- the parts of a sheet of the job j that do not depend on its fit-outs
pub record LaidOut (j : Job) (after : List ℕ) : Type 0 where
  pub mark : take 4 after ≡ answer_mark
  pub variables : u16 after 4 ≡ length j.variables
  pub variable_rows : u32 after 8 ≡ 24
  pub group_rows : u32 after 12 ≡ group_rows_at j
  pub groups : Numbered j (u16 after 6) (group_on after)
  pub zero : (i : ℕ) → i < length j.variables → zero_on after i ≡ 0

-- its families: "A count's number is its base + step × its group's chosen k."
pub record FamiliesOn (j : Job) (after : List ℕ) : Type 0 where
  pub number : (i : ℕ) → i < length j.variables → number_on after i ≡ base_on after i +ℤ step_on after i *ℤ pos (chosen_on j after (group_on after i))
  pub families : (l : ℕ) → IsLead j l → FamilyOn j l (group_on after l) after

-- the job j has no solution, and l is the lowest variable of the first group that has none
pub record NoneFits (j : Job) (l : ℕ) : Type 0 where
  pub none : (x : List ℤ) → ¬ IsSolution j x
  pub group : IsLead j l
  pub without : (x : List ℤ) → ¬ SolvesGroup j l x
  pub first : (i : ℕ) → IsLead j i → i < l → (x : List ℤ) × SolvesGroup j i x

-- the call is not turned away: no reason of the table is reported
abbrev pub NotTurnedAway : Call → Type 0
NotTurnedAway c = (reason row : ℕ) → ¬ Reported c reason row

-- the numbers on a sheet are a fit-out of the job j, and it shows every other
pub record FitsOn (j : Job) (after : List ℕ) : Type 0 where
  pub solution : IsSolution j (numbers_on j after)
  pub laid_out : LaidOut j after
  pub families : FamiliesOn j after

-- for a call not turned away the verdict is planned or no fit: a fit-out is given when one exists, "no fit" only when none does
pub record GivesFits (c : Call) (v : Verdict) (x : Areas) : Type 0 where
  pub one_of : NotTurnedAway c → ((w : ℤ) × (v ≡ planned w)) ⊎ ((l : ℕ) × (v ≡ no_fit l))
  pub exists : NotTurnedAway c → (y : List ℤ) → IsSolution (job_in c) y → (w : ℤ) × (v ≡ planned w)
  pub given : (w : ℤ) → v ≡ planned w → IfLent x.sheet (FitsOn (job_in c))
  pub without_fit : (l : ℕ) → v ≡ no_fit l → NoneFits (job_in c) l × (x.sheet ≡ c.lent.sheet)

-- ---- demand 3, the buyer: the numbers keep every tie and bound of the whole job, the worth shown is exactly theirs, and every
-- other solution of the job has less worth, or equal worth and comes later: where the two first differ it has the lower number

-- of a sheet of the job j with the worth w
pub record BestOn (j : Job) (w : ℤ) (after : List ℕ) : Type 0 where
  pub optimal : Optimal j (numbers_on j after)
  pub worth : w ≡ objective j (numbers_on j after)
  pub shown : worth_on after ≡ w

pub record CannotBeBettered (c : Call) (v : Verdict) (x : Areas) : Type 0 where
  pub best : (w : ℤ) → v ≡ planned w → IfLent x.sheet (BestOn (job_in c) w)

-- ---- demand of the repair bench (document 02, #101 and #102): a map area that is lent shows how the job hangs together, on planned and
-- on no fit; j says how many rows there are

abbrev pub map_group_on : List ℕ → ℕ → ℕ
map_group_on after i = u16 after (24 + 4 * i)

abbrev pub named_on : List ℕ → ℕ → ℕ
named_on after i = u16 after (24 + 4 * i + 2)

abbrev pub equation_group_on : Job → List ℕ → ℕ → ℕ
equation_group_on j after k = u16 after (map_equations_at j + 4 * k)

abbrev pub kind_on : Job → List ℕ → ℕ → ℕ
kind_on j after k = u16 after (map_equations_at j + 4 * k + 2)

-- groups by 01's number, of the counts and of the equations; how many equations name a count; and kind 1 for those equations that
-- join two sets which the earlier ones left separate, kind 2 for the others that join counts, kind 3 for those that do not
pub record MapOn (j : Job) (after : List ℕ) : Type 0 where
  pub mark : take 4 after ≡ map_mark
  pub variables : u16 after 4 ≡ length j.variables
  pub equations : u16 after 6 ≡ length j.equations
  pub variable_rows : u32 after 8 ≡ 24
  pub equation_rows : u32 after 12 ≡ map_equations_at j
  pub groups : Numbered j (u16 after 16) (map_group_on after)
  pub zeros : unsigned 6 after 18 ≡ 0
  pub named : (i : ℕ) → i < length j.variables → named_on after i ≡ degree j i
  pub equation_group : (k : ℕ) → k < length j.equations → equation_group_on j after k ≡ map_group_on after (home (equation j k))
  pub joins : (k : ℕ) → k < length j.equations → (kind_on j after k ≡ 1) ↔ Joins j k
  pub rings : (k : ℕ) → k < length j.equations → (kind_on j after k ≡ 2) ↔ (Binary (equation j k) × (¬ Joins j k))
  pub fixes : (k : ℕ) → k < length j.equations → (kind_on j after k ≡ 3) ↔ (¬ Binary (equation j k))

pub record ShowsMap (c : Call) (v : Verdict) (x : Areas) : Type 0 where
  pub fit : (w : ℤ) → v ≡ planned w → IfLent x.map (MapOn (job_in c))
  pub without_fit : (l : ℕ) → v ≡ no_fit l → IfLent x.map (MapOn (job_in c))

-- ---- all that is promised of a planning call: verdict and areas are those of the definitions, and keep the demands
pub record Plans (c : Call) (v : Verdict) (x : Areas) : Type 0 where
  pub outcome : v ≡ verdict c
  pub areas : x ≡ areas_after c
  pub refusals : TurnsAway c v x
  pub fits : GivesFits c v x
  pub best : CannotBeBettered c v x
  pub map : ShowsMap c v x
