-- Calls that lend a map (document 02, #101) through the definitions: verdict and both areas, bytes worked out by hand.
use Rattle.std.specs.Prelude.{◌≡◌, refl, List, [], ◌∷◌, ◌++◌, map, ℕ, ◌+◌, length, take, ℤ, pos}
use Rattle.std.proofs.Math.Option.{Option, some, none}
use Rattle.lists.specs.Table.{table}
use Rattle.little_endian.specs.LittleEndian.{unsigned, u16, u32}
use Rattle.jobs.specs.Call.{Areas, Call, areas_of, call_of}
use Rattle.jobs.specs.Job.{job_of, equation}
use Rattle.jobs.specs.NormalForm.{home}
use Rattle.jobs.specs.Component.{component_count, component}
use Rattle.jobs.specs.Structure.{degree, kind}
use Rattle.jobs.specs.MapOffsets.{map_equations_at}
use Rattle.jobs.specs.MapLayout.{map_mark}
use Rattle.jobs.specs.Verdict.{Verdict, planned, no_fit, refused, verdict}
use Rattle.jobs.specs.AreasAfter.{areas_after}
use Rattle.jobs.specs.Demands.{map_group_on, named_on, equation_group_on, kind_on}
use Rattle.jobs.specs.JobBytes.{plus, header, plain, equation_bytes, total, difference, map_head, pair}
use Rattle.jobs.specs.Vectors.{narrow_m, narrow_m_sheet, empty_sheet, untied, untied_sheet, falling, falling_sheet, twice, twice_sheet, groups, uneven}

-- a job, the areas as lent, and what they give
pub record MapVector : Type 0 where
  pub job : List ℕ
  pub lent : Areas
  pub verdict : Verdict
  pub after : Areas

-- an answer area of n bytes: 100, 101, 102 and so on; and a map area of m: 50, 51, 52 and so on
abbrev fresh : ℕ → List ℕ
fresh n = table (λ i. 100 + i) n

abbrev fresh_map : ℕ → List ℕ
fresh_map m = table (λ i. 50 + i) m

abbrev lending : ℕ → ℕ → Areas
lending n m = areas_of (fresh n) (some (fresh_map m))

-- areas as long as what stands in them afterwards; no fit, where only the map is written; and a refusal
abbrev pub mapped : List ℕ → ℤ → List ℕ → List ℕ → MapVector
mapped job worth sheet shown = record { job = job; lent = lending (length sheet) (length shown); verdict = planned worth; after = areas_of sheet (some shown) }

abbrev pub unfit : List ℕ → ℕ → ℕ → List ℕ → MapVector
unfit job n l shown = record { job = job; lent = lending n (length shown); verdict = no_fit l; after = areas_of (fresh n) (some shown) }

abbrev turned : List ℕ → ℕ → ℕ → ℕ → ℕ → MapVector
turned job n m reason row = record { job = job; lent = lending n m; verdict = refused reason row; after = lending n m }

-- ---- a ring that the third row closes: c0 = c1, c1 = c2, c0 = c2, each 0..1
abbrev closed : List ℕ
closed = header 3 3 60 120 ++ plain 1 ++ plain 1 ++ plain 1 ++ difference 0 1 0 ++ difference 1 2 0 ++ difference 0 2 0

-- number 1, base 0, step 1 of a count in a group, and fits 2, k 1, gain 0 of a group
abbrev pub at_one : ℕ → List ℕ
at_one group = 1 ∷ 0 ∷ 0 ∷ 0 ∷ 0 ∷ 0 ∷ 0 ∷ 0 ∷ 1 ∷ 0 ∷ 0 ∷ 0 ∷ group ∷ 0 ∷ 0 ∷ 0 ∷ []

abbrev pub two_fits : List ℕ
two_fits = 2 ∷ 0 ∷ 0 ∷ 0 ∷ 1 ∷ 0 ∷ 0 ∷ 0 ∷ 0 ∷ 0 ∷ 0 ∷ 0 ∷ 0 ∷ 0 ∷ 0 ∷ 0 ∷ []

abbrev closed_sheet : List ℕ
closed_sheet =
    -- 3 counts, 1 group, its row at 72, worth 0
    65 ∷ 78 ∷ 83 ∷ 49 ∷ 3 ∷ 0 ∷ 1 ∷ 0 ∷ 24 ∷ 0 ∷ 0 ∷ 0 ∷ 72 ∷ 0 ∷ 0 ∷ 0 ∷ 0 ∷ 0 ∷ 0 ∷ 0 ∷ 0 ∷ 0 ∷ 0 ∷ 0 ∷ [] ++
    at_one 0 ++ at_one 0 ++ at_one 0 ++ two_fits

-- each count is named by two rows; the third row is a ring, kind 2
abbrev closed_map : List ℕ
closed_map = map_head 3 3 36 1 ++ pair 0 2 ++ pair 0 2 ++ pair 0 2 ++ pair 0 1 ++ pair 0 1 ++ pair 0 2

-- ---- a join by which numbers change: c1 = c2 leaves the groups c0; c1, c2; c3, which are 0, 1 and 2. Then c0 = c1 makes c1, c2 and
-- with them the first equation group 0, and c3 group 1.
abbrev renumbered : List ℕ
renumbered = header 4 2 72 112 ++ plain 1 ++ plain 1 ++ plain 1 ++ plain 1 ++ difference 1 2 0 ++ difference 0 1 0

abbrev renumbered_sheet : List ℕ
renumbered_sheet =
    -- 4 counts, 2 groups, their rows at 88, worth 0
    65 ∷ 78 ∷ 83 ∷ 49 ∷ 4 ∷ 0 ∷ 2 ∷ 0 ∷ 24 ∷ 0 ∷ 0 ∷ 0 ∷ 88 ∷ 0 ∷ 0 ∷ 0 ∷ 0 ∷ 0 ∷ 0 ∷ 0 ∷ 0 ∷ 0 ∷ 0 ∷ 0 ∷ [] ++
    at_one 0 ++ at_one 0 ++ at_one 0 ++ at_one 1 ++ two_fits ++ two_fits

abbrev renumbered_map : List ℕ
renumbered_map = map_head 4 2 40 2 ++ pair 0 1 ++ pair 0 2 ++ pair 0 1 ++ pair 1 0 ++ pair 0 1 ++ pair 0 1

-- ---- maps of the jobs of Vectors
-- M: c0 is named by both equations, c1 and c2 by one each, c3 by none
abbrev pub map_m : List ℕ
map_m = map_head 4 2 40 2 ++ pair 0 2 ++ pair 0 1 ++ pair 0 1 ++ pair 1 0 ++ pair 0 1 ++ pair 0 1

abbrev pub empty_map : List ℕ
empty_map = map_head 0 0 24 0

abbrev untied_map : List ℕ
untied_map = map_head 2 0 32 2 ++ pair 0 0 ++ pair 1 0

-- two counts and one equation; and two, of which the second is a ring
abbrev pub tied_map : List ℕ
tied_map = map_head 2 1 32 1 ++ pair 0 1 ++ pair 0 1 ++ pair 0 1

abbrev pub ring_map : List ℕ
ring_map = map_head 2 2 32 1 ++ pair 0 2 ++ pair 0 2 ++ pair 0 1 ++ pair 0 2

-- c0 and c2, c1 and c3
abbrev groups_map : List ℕ
groups_map = map_head 4 2 40 2 ++ pair 0 1 ++ pair 1 1 ++ pair 0 1 ++ pair 1 1 ++ pair 0 1 ++ pair 1 1

-- those with a map afterwards
abbrev shown : List MapVector
shown =
    mapped narrow_m (pos 150) narrow_m_sheet map_m ∷
    mapped (header 0 0 24 24) (pos 0) empty_sheet empty_map ∷
    mapped untied (pos 21) untied_sheet untied_map ∷
    mapped closed (pos 0) closed_sheet closed_map ∷
    mapped renumbered (pos 0) renumbered_sheet renumbered_map ∷
    -- the same equation twice
    mapped (twice 0) (pos 0) twice_sheet ring_map ∷
    -- bytes past both: place 72 of the one, and places 36 to 38 of the other
    mapped falling (pos 2) (falling_sheet ++ 172 ∷ []) (tied_map ++ 86 ∷ 87 ∷ 88 ∷ []) ∷
    unfit uneven 72 0 tied_map ∷
    unfit (groups (equation_bytes 1 3 (plus 2) (plus 4) 7)) 120 1 groups_map ∷ []

abbrev pub map_vectors : List MapVector
map_vectors =
    shown ++
    -- short by one, 72 and 36: 8 comes before 10
    turned falling 71 36 8 0 ∷
    turned falling 72 35 10 0 ∷
    turned falling 71 35 8 0 ∷
    -- a map area of no bytes is lent, and too short
    turned falling 72 0 10 0 ∷
    -- both stand before no fit
    turned uneven 72 35 10 0 ∷
    turned uneven 71 35 8 0 ∷
    -- the job's own faults stand before both
    turned (header 2 2 48 88 ++ plain 3 ++ plain 3 ++ total 0 1 3 ++ equation_bytes 0 2 (plus 0) (plus 1) 3) 8 8 6 1 ∷
    turned [] 8 8 1 0 ∷
    -- and where all is long enough they leave it alone
    turned (header 0 0 24 24 ++ 0 ∷ []) 24 24 4 0 ∷
    -- no map is lent: none is too short
    record { job = falling; lent = areas_of (fresh 72) none; verdict = planned (pos 2); after = areas_of falling_sheet none } ∷
    record { job = falling; lent = areas_of (fresh 71) none; verdict = refused 8 0; after = areas_of (fresh 71) none } ∷
    -- a map alone: the answer area is not lent, and not too short
    record { job = falling; lent = record { sheet = none; map = some (fresh_map 36) }; verdict = planned (pos 2); after = record { sheet = none; map = some tied_map } } ∷ []

abbrev called : MapVector → Call
called v = call_of v.job [] v.lent

abbrev given : MapVector → Verdict × Areas
given v = (verdict (called v), areas_after (called v))

abbrev expected : MapVector → Verdict × Areas
expected v = (v.verdict, v.after)

-- the definitions give what was worked out, at each of them
abbrev pub Worked : List MapVector → Type 0
Worked vs = map given vs ≡ map expected vs

pub map_Worked : Worked map_vectors
unfolding verdict areas_after table
map_Worked = refl

-- ---- what the demand reads off the bytes is what the definitions mean
record Reading : Type 0 where
  head : List ℕ
  components : List ℕ
  degrees : List ℕ
  equation_components : List ℕ
  kinds : List ℕ

abbrev bytes_in : Option (List ℕ) → List ℕ
bytes_in (some s) = s
bytes_in none = []

abbrev on_map : MapVector → Reading
on_map v =
    let s = bytes_in v.after.map in
    let j = job_of v.job in
    record {
      head = take 4 s ++ u16 s 4 ∷ u16 s 6 ∷ u32 s 8 ∷ u32 s 12 ∷ u16 s 16 ∷ unsigned 6 s 18 ∷ [];
      components = table (map_group_on s) (length j.variables);
      degrees = table (named_on s) (length j.variables);
      equation_components = table (equation_group_on j s) (length j.equations);
      kinds = table (kind_on j s) (length j.equations);
    }

abbrev defined : MapVector → Reading
defined v =
    let j = job_of v.job in
    record {
      head = map_mark ++ length j.variables ∷ length j.equations ∷ 24 ∷ map_equations_at j ∷ component_count j ∷ 0 ∷ [];
      components = table (component j) (length j.variables);
      degrees = table (degree j) (length j.variables);
      equation_components = table (λ k. component j (home (equation j k))) (length j.equations);
      kinds = table (kind j) (length j.equations);
    }

read_computed : map on_map shown ≡ map defined shown
unfolding areas_after table
read_computed = refl
