-- Small jobs, and pieces of the model, at worked values. What is expected of each was worked out by hand from documents 01
-- and 02.
use Rattle.std.specs.Prelude.{◌≡◌, refl, true, false, List, [], ◌∷◌, ◌++◌, ℕ, ◌+◌, ◌*◌, ℤ, pos, neg_ℤ}
use Rattle.std.proofs.Math.Option.{none, some}
use Rattle.ints.specs.Floor.{floor_div, floor_mod}
use Rattle.runs.specs.declared.Run.{Run}
use Rattle.runs.specs.declared.Equation.{Equation as Form}
use Rattle.runs.specs.Run.{empty, full}
use Rattle.jobs.specs.Verdict.{Verdict, planned, no_fit}
use Rattle.jobs.specs.JobBytes.{plus, minus, header, count, equation_bytes, map_head, pair}
use Rattle.jobs.specs.Vectors.{empty_sheet, falling, falling_sheet, ring, ring_sheet, twice, twice_sheet, uneven, no_multiple}
use Rattle.jobs.specs.MapVectors.{map_m, empty_map, tied_map, ring_map}
use Rattle.families.specs.Family.{choice}
use Rattle.families.specs.Model.{interval, through, candidate, cycle, Indices, common_numbers, directed, kept}

abbrev pub run : ℤ → ℤ → ℕ → Run
run first step many = record { first = first; step = step; many = many }

-- ---- document 01's jobs marked *
-- the bytes of a job, and what is expected: of each count the lowest count of its group; how many groups there are; of each
-- count its base, its step and its group's fits; how many bytes a sheet takes, 24 + 16n + 16g; the verdict; all the bytes of the
-- sheet that are written, none where there is no fit; and those of the map, which is written there too
pub record Worked : Type 0 where
  pub job : List ℕ
  pub labels : List ℕ
  pub g : ℕ
  pub runs : List Run
  pub room : ℕ
  pub verdict : Verdict
  pub sheet : List ℕ
  pub map : List ℕ

abbrev job_m : List ℕ
job_m =
    header 4 2 72 112 ++
    count (plus 0) (plus 20) (minus 30) ++
    count (plus 0) (plus 200) (plus 4) ++
    count (plus 0) (plus 9) (minus 10) ++
    count (plus 2) (plus 5) (plus 0) ++
    -- 16·c0 − c1 = 0
    equation_bytes 0 1 (plus 16) (minus 1) 0 ++
    -- 2·c0 − 3·c2 = 4
    equation_bytes 0 2 (plus 2) (minus 3) 4

-- −1,000,000,000..1,000,000,000, weight 1,000,000
abbrev widest : List ℕ
widest = header 1 0 36 36 ++ count (0 ∷ 54 ∷ 101 ∷ 196 ∷ []) (0 ∷ 202 ∷ 154 ∷ 59 ∷ []) (64 ∷ 66 ∷ 15 ∷ 0 ∷ [])

-- ---- their sheets, beside those of crate jobs: a row stands on a line, under its fields
abbrev sheet_m : List ℕ
sheet_m =
    -- 4 counts, 2 groups, their rows at 88, worth 314
    65 ∷ 78 ∷ 83 ∷ 49 ∷ 4 ∷ 0 ∷ 2 ∷ 0 ∷ 24 ∷ 0 ∷ 0 ∷ 0 ∷ 88 ∷ 0 ∷ 0 ∷ 0 ∷ 58 ∷ 1 ∷ 0 ∷ 0 ∷ 0 ∷ 0 ∷ 0 ∷ 0 ∷ [] ++
    -- count 0: number 11, base 2, step 3, group 0
    11 ∷ 0 ∷ 0 ∷ 0 ∷ 2 ∷ 0 ∷ 0 ∷ 0 ∷ 3 ∷ 0 ∷ 0 ∷ 0 ∷ 0 ∷ 0 ∷ 0 ∷ 0 ∷ [] ++
    -- count 1: number 176, base 32, step 48, group 0
    176 ∷ 0 ∷ 0 ∷ 0 ∷ 32 ∷ 0 ∷ 0 ∷ 0 ∷ 48 ∷ 0 ∷ 0 ∷ 0 ∷ 0 ∷ 0 ∷ 0 ∷ 0 ∷ [] ++
    -- count 2: number 6, base 0, step 2, group 0
    6 ∷ 0 ∷ 0 ∷ 0 ∷ 0 ∷ 0 ∷ 0 ∷ 0 ∷ 2 ∷ 0 ∷ 0 ∷ 0 ∷ 0 ∷ 0 ∷ 0 ∷ 0 ∷ [] ++
    -- count 3: number 5, base 2, step 1, group 1
    5 ∷ 0 ∷ 0 ∷ 0 ∷ 2 ∷ 0 ∷ 0 ∷ 0 ∷ 1 ∷ 0 ∷ 0 ∷ 0 ∷ 1 ∷ 0 ∷ 0 ∷ 0 ∷ [] ++
    -- group 0: fits 4, k 3, gain 82
    4 ∷ 0 ∷ 0 ∷ 0 ∷ 3 ∷ 0 ∷ 0 ∷ 0 ∷ 82 ∷ 0 ∷ 0 ∷ 0 ∷ 0 ∷ 0 ∷ 0 ∷ 0 ∷ [] ++
    -- group 1: fits 4, k 3, gain 0: 2, 3, 4 and 5 are worth the same, and 5 is the highest
    4 ∷ 0 ∷ 0 ∷ 0 ∷ 3 ∷ 0 ∷ 0 ∷ 0 ∷ 0 ∷ 0 ∷ 0 ∷ 0 ∷ 0 ∷ 0 ∷ 0 ∷ 0 ∷ []

abbrev widest_sheet : List ℕ
widest_sheet =
    -- 1 count, 1 group, its row at 40, worth 1,000,000,000,000,000
    65 ∷ 78 ∷ 83 ∷ 49 ∷ 1 ∷ 0 ∷ 1 ∷ 0 ∷ 24 ∷ 0 ∷ 0 ∷ 0 ∷ 40 ∷ 0 ∷ 0 ∷ 0 ∷ 0 ∷ 128 ∷ 198 ∷ 164 ∷ 126 ∷ 141 ∷ 3 ∷ 0 ∷ [] ++
    -- count 0: number 1,000,000,000, base −1,000,000,000, step 1, group 0
    0 ∷ 202 ∷ 154 ∷ 59 ∷ 0 ∷ 54 ∷ 101 ∷ 196 ∷ 1 ∷ 0 ∷ 0 ∷ 0 ∷ 0 ∷ 0 ∷ 0 ∷ 0 ∷ [] ++
    -- group 0: fits 2,000,000,001, k 2,000,000,000, gain 1,000,000
    1 ∷ 148 ∷ 53 ∷ 119 ∷ 0 ∷ 148 ∷ 53 ∷ 119 ∷ 64 ∷ 66 ∷ 15 ∷ 0 ∷ 0 ∷ 0 ∷ 0 ∷ 0 ∷ []

-- ---- the table
-- what is expected of two counts in one group, and where they have no fit
abbrev tied : List ℕ → Run → Run → Verdict → List ℕ → List ℕ → Worked
tied job run0 run1 verdict sheet shown = record {
  job = job;
  labels = 0 ∷ 0 ∷ [];
  g = 1;
  runs = run0 ∷ run1 ∷ [];
  room = 72;
  verdict = verdict;
  sheet = sheet;
  map = shown;
}

abbrev without : List ℕ → List ℕ → Worked
without job shown = tied job empty empty (no_fit 0) [] shown

abbrev pub marked_jobs : List Worked
marked_jobs =
    -- M: c0 is 2, 5, 8 or 11; at 14 c1 would be over 200
    record {
      job = job_m;
      labels = 0 ∷ 0 ∷ 0 ∷ 3 ∷ [];
      g = 2;
      runs = run (pos 2) (pos 3) 4 ∷ run (pos 32) (pos 48) 4 ∷ run (pos 0) (pos 2) 4 ∷ run (pos 2) (pos 1) 4 ∷ [];
      room = 120;
      verdict = planned (pos 314);
      sheet = sheet_m;
      map = map_m;
    } ∷
    -- no counts
    record { job = header 0 0 24 24; labels = []; g = 0; runs = []; room = 24; verdict = planned (pos 0); sheet = empty_sheet; map = empty_map } ∷
    -- 2·c0 + 4·c1 = 7
    without uneven tied_map ∷
    -- 3·c0 − 5·c1 = 0: of 1..4 none is a multiple of 5
    without no_multiple tied_map ∷
    -- c0 + c1 = 5 and c0 − c1 = c, a ring: its single candidate is 3½ and 1½ for c = 2, and 3 and 2 for c = 1
    without (ring 2) ring_map ∷
    tied (ring 1) (run (pos 3) (pos 0) 1) (run (pos 2) (pos 0) 1) (planned (pos 0)) ring_sheet ring_map ∷
    -- c0 − c1 = 0 and c0 − c1 = c, a ring that is redundant for c = 0, and leaves none for c = 1
    tied (twice 0) (run (pos 0) (pos 1) 4) (run (pos 0) (pos 1) 4) (planned (pos 0)) twice_sheet ring_map ∷
    without (twice 1) ring_map ∷
    -- c0 + 2·c1 = 0
    tied falling (run (neg_ℤ (pos 4)) (pos 2) 5) (run (pos 2) (neg_ℤ (pos 1)) 5) (planned (pos 2)) falling_sheet tied_map ∷
    -- the full range
    record {
      job = widest;
      labels = 0 ∷ [];
      g = 1;
      runs = run (neg_ℤ (pos 1000000000)) (pos 1) 2000000001 ∷ [];
      room = 56;
      verdict = planned (pos 1000000000000000);
      sheet = widest_sheet;
      map = map_head 1 0 28 1 ++ pair 0 0;
    } ∷ []

-- ---- pieces
-- a low above its high, a low that is its high, and −2..3
intervals : (interval (pos 3) (pos 2) ≡ empty) × (interval (pos 3) (pos 3) ≡ run (pos 3) (pos 0) 1) ×
    (interval (neg_ℤ (pos 2)) (pos 3) ≡ run (neg_ℤ (pos 2)) (pos 1) 6)
intervals = (refl, refl, refl)

-- 2, 5, 8, 11, 14
abbrev five : Run
five = run (pos 2) (pos 3) 5

-- its second and fourth; the same the other way; its third alone; none
parts : (through five (run (pos 1) (pos 2) 2) ≡ run (pos 5) (pos 6) 2) × (through five (run (pos 3) (neg_ℤ (pos 2)) 2) ≡ run (pos 11) (neg_ℤ (pos 6)) 2) ×
    (through five (run (pos 2) (pos 0) 1) ≡ run (pos 8) (pos 0) 1) × (through five empty ≡ empty)
parts = (refl, refl, refl, refl)

-- 3·k = v for k below 4: k is 0 and 3 at the ends, then 4 and −1; the last two are not whole
candidates : (candidate (pos 0) (pos 3) 4 ≡ run (pos 0) (pos 0) 1) × (candidate (pos 9) (pos 3) 4 ≡ run (pos 3) (pos 0) 1) ×
    (candidate (pos 12) (pos 3) 4 ≡ empty) × (candidate (neg_ℤ (pos 3)) (pos 3) 4 ≡ empty) ×
    (candidate (pos 7) (pos 3) 4 ≡ empty) × (candidate (neg_ℤ (pos 1)) (pos 3) 4 ≡ empty)
unfolding floor_div floor_mod
candidates = (refl, refl, refl, refl, refl, refl)

-- −2·k = v: k is 3, then −1, then 3½
candidates_down : (candidate (neg_ℤ (pos 6)) (neg_ℤ (pos 2)) 4 ≡ run (pos 3) (pos 0) 1) × (candidate (pos 2) (neg_ℤ (pos 2)) 4 ≡ empty) ×
    (candidate (neg_ℤ (pos 7)) (neg_ℤ (pos 2)) 4 ≡ empty)
unfolding floor_div floor_mod
candidates_down = (refl, refl, refl)

-- a·p + b·q = c
abbrev by : ℤ → ℤ → ℤ → Form
by a b c = record { a = a; b = b; c = c }

-- p = 0, .., 5 with q = p: p − q = 0 is redundant, p − q = 1 leaves none, and p + q = 6 leaves 3 and 3
abbrev up : Run
up = run (pos 0) (pos 1) 6

cycles : (cycle (by (pos 1) (neg_ℤ (pos 1)) (pos 0)) up up ≡ none) × (cycle (by (pos 1) (neg_ℤ (pos 1)) (pos 1)) up up ≡ some empty) ×
    (cycle (by (pos 1) (pos 1) (pos 6)) up up ≡ some (run (pos 3) (pos 0) 1))
unfolding floor_div floor_mod
cycles = (refl, refl, refl)

-- p = 0, .., 5 with q = 5 − p: p − q = 1 leaves 3 and 2; p − q = 2 would be met at 3½ and p − q = 7 at 6
abbrev down : Run
down = run (pos 5) (neg_ℤ (pos 1)) 6

cycles_down : (cycle (by (pos 1) (neg_ℤ (pos 1)) (pos 1)) up down ≡ some (run (pos 3) (pos 0) 1)) ×
    (cycle (by (pos 1) (neg_ℤ (pos 1)) (pos 2)) up down ≡ some empty) × (cycle (by (pos 1) (neg_ℤ (pos 1)) (pos 7)) up down ≡ some empty)
unfolding floor_div floor_mod
cycles_down = (refl, refl, refl)

abbrev beside : Run → Run → Indices
beside left right = record { left = left; right = right }

-- 1, 3, 5 beside 4, 3, 2: as they are where the left is to rise; 5, 3, 1 beside 2, 3, 4 where the right is
abbrev crossing : Indices
crossing = beside (run (pos 1) (pos 2) 3) (run (pos 4) (neg_ℤ (pos 1)) 3)

directions : (directed true crossing ≡ crossing) × (directed false crossing ≡ beside (run (pos 5) (neg_ℤ (pos 2)) 3) (run (pos 2) (pos 1) 3))
directions = (refl, refl)

-- p + 2·q = 0 for p = −5, .., 5 and q = −3, .., 3: p = −4, −2, .., 4 stand at 1, 3, .., 9, and their q = 2, 1, .., −2 at
-- 5, 4, .., 1. The lower group is that of p, and then that of q; in the last two p, and then q, stands in falling order.
abbrev slanted : Form
slanted = by (pos 1) (pos 2) (pos 0)

abbrev ascending : ℕ → Run
ascending k = run (neg_ℤ (pos k)) (pos 1) (2 * k + 1)

abbrev descending : ℕ → Run
descending k = run (pos k) (neg_ℤ (pos 1)) (2 * k + 1)

joins : (kept slanted 0 1 (ascending 5) (ascending 3) ≡ some (beside (run (pos 1) (pos 2) 5) (run (pos 5) (neg_ℤ (pos 1)) 5))) ×
    (kept slanted 1 0 (ascending 5) (ascending 3) ≡ some (beside (run (pos 9) (neg_ℤ (pos 2)) 5) (run (pos 1) (pos 1) 5))) ×
    (kept slanted 0 1 (descending 5) (ascending 3) ≡ some (beside (run (pos 1) (pos 2) 5) (run (pos 1) (pos 1) 5))) ×
    (kept slanted 1 0 (ascending 5) (descending 3) ≡ some (beside (run (pos 1) (pos 2) 5) (run (pos 1) (pos 1) 5)))
unfolding kept
joins = (refl, refl, refl, refl)

-- 2·p + 4·q = 7 has none
joins_none : kept (by (pos 2) (pos 4) (pos 7)) 0 1 (ascending 5) (ascending 3) ≡ some (beside empty empty)
unfolding kept
joins_none = refl

-- document 01: 1,000,000·c0 − 999,999·c1 = 1 over the full range
longest : common_numbers (by (pos 1000000) (neg_ℤ (pos 999999)) (pos 1)) full full ≡ run (neg_ℤ (pos 999998999)) (pos 999999) 2000
unfolding common_numbers
longest = refl

-- a gain, none and a loss; with one member, a gain and none
choices : (choice (pos 82) 4 ≡ 3) × (choice (pos 0) 4 ≡ 3) × (choice (neg_ℤ (pos 1)) 5 ≡ 0) × (choice (pos 5) 1 ≡ 0) × (choice (pos 0) 1 ≡ 0)
choices = (refl, refl, refl, refl, refl)
