-- Small jobs through the definitions, byte for byte. What is expected of each was worked out by hand from documents 01 and 02; a row of
-- a sheet stands on a line, under its fields.
use Rattle.std.specs.Prelude.{◌≡◌, refl, List, [], ◌∷◌, ◌++◌, map, ℕ, ◌+◌, length, take, ℤ, pos, ◌+ℤ◌, ◌*ℤ◌}
use Rattle.std.proofs.Math.Option.{none}
use Rattle.lists.specs.Table.{table}
use Rattle.lists.specs.Lexicographic.{now, later}
use Rattle.little_endian.specs.LittleEndian.{u16, u32}
use Rattle.jobs.specs.Call.{Areas, Call, areas_of, call_of}
use Rattle.jobs.specs.Job.{Job, job_of}
use Rattle.jobs.specs.TieBreak.{Earlier, earliest_first}
use Rattle.jobs.specs.Solution.{number, solutions, objective, best}
use Rattle.jobs.specs.SheetOffsets.{group_rows_at}
use Rattle.jobs.specs.Component.{lowest, leads, component_count, component}
use Rattle.jobs.specs.Family.{component_job, base, step, chosen, slope}
use Rattle.jobs.specs.Verdict.{Verdict, planned, no_fit, refused, verdict}
use Rattle.jobs.specs.SheetLayout.{answer_mark}
use Rattle.jobs.specs.AreasAfter.{areas_after}
use Rattle.jobs.specs.JobBytes.{plus, minus, header, count, plain, equation_bytes, total, difference}
use Rattle.jobs.specs.Demands.{worth_on, base_on, step_on, group_on, zero_on, fits_on, chosen_on, gain_on, numbers_on, member_on}

-- a job, the area as lent, and what they give
pub record Vector : Type 0 where
  pub job : List ℕ
  pub area : List ℕ
  pub verdict : Verdict
  pub after : List ℕ

-- an area of n bytes: 100, 101, 102 and so on
abbrev lent : ℕ → List ℕ
lent n = table (λ i. 100 + i) n

-- an area as long as what stands in it afterwards, and one of n bytes that keeps its contents
abbrev filled : List ℕ → ℤ → List ℕ → Vector
filled job worth after = record { job = job; area = lent (length after); verdict = planned worth; after = after }

abbrev untouched : List ℕ → ℕ → Verdict → Vector
untouched job n v = record { job = job; area = lent n; verdict = v; after = lent n }

-- ---- jobs with a fit-out, and their sheets
-- document 01's job M, with narrower bounds
abbrev pub narrow_m : List ℕ
narrow_m =
    header 4 2 72 112 ++
    count (plus 2) (plus 5) (minus 30) ++
    count (plus 32) (plus 80) (plus 4) ++
    count (plus 0) (plus 3) (minus 10) ++
    count (plus 2) (plus 3) (plus 0) ++
    -- 16·c0 − c1 = 0
    equation_bytes 0 1 (plus 16) (minus 1) 0 ++
    -- 2·c0 − 3·c2 = 4
    equation_bytes 0 2 (plus 2) (minus 3) 4

abbrev pub narrow_m_sheet : List ℕ
narrow_m_sheet =
    -- 4 counts, 2 groups, their rows at 88, worth 150
    65 ∷ 78 ∷ 83 ∷ 49 ∷ 4 ∷ 0 ∷ 2 ∷ 0 ∷ 24 ∷ 0 ∷ 0 ∷ 0 ∷ 88 ∷ 0 ∷ 0 ∷ 0 ∷ 150 ∷ 0 ∷ 0 ∷ 0 ∷ 0 ∷ 0 ∷ 0 ∷ 0 ∷ [] ++
    -- count 0: number 5, base 2, step 3, group 0
    5 ∷ 0 ∷ 0 ∷ 0 ∷ 2 ∷ 0 ∷ 0 ∷ 0 ∷ 3 ∷ 0 ∷ 0 ∷ 0 ∷ 0 ∷ 0 ∷ 0 ∷ 0 ∷ [] ++
    -- count 1: number 80, base 32, step 48, group 0
    80 ∷ 0 ∷ 0 ∷ 0 ∷ 32 ∷ 0 ∷ 0 ∷ 0 ∷ 48 ∷ 0 ∷ 0 ∷ 0 ∷ 0 ∷ 0 ∷ 0 ∷ 0 ∷ [] ++
    -- count 2: number 2, base 0, step 2, group 0
    2 ∷ 0 ∷ 0 ∷ 0 ∷ 0 ∷ 0 ∷ 0 ∷ 0 ∷ 2 ∷ 0 ∷ 0 ∷ 0 ∷ 0 ∷ 0 ∷ 0 ∷ 0 ∷ [] ++
    -- count 3: number 3, base 2, step 1, group 1
    3 ∷ 0 ∷ 0 ∷ 0 ∷ 2 ∷ 0 ∷ 0 ∷ 0 ∷ 1 ∷ 0 ∷ 0 ∷ 0 ∷ 1 ∷ 0 ∷ 0 ∷ 0 ∷ [] ++
    -- group 0: fits 2, k 1, gain 82
    2 ∷ 0 ∷ 0 ∷ 0 ∷ 1 ∷ 0 ∷ 0 ∷ 0 ∷ 82 ∷ 0 ∷ 0 ∷ 0 ∷ 0 ∷ 0 ∷ 0 ∷ 0 ∷ [] ++
    -- group 1: fits 2, k 1, gain 0: 2 and 3 are worth the same, and 3 is the higher
    2 ∷ 0 ∷ 0 ∷ 0 ∷ 1 ∷ 0 ∷ 0 ∷ 0 ∷ 0 ∷ 0 ∷ 0 ∷ 0 ∷ 0 ∷ 0 ∷ 0 ∷ 0 ∷ []

-- no counts, no groups, their rows at 24, worth 0
abbrev pub empty_sheet : List ℕ
empty_sheet = 65 ∷ 78 ∷ 83 ∷ 49 ∷ 0 ∷ 0 ∷ 0 ∷ 0 ∷ 24 ∷ 0 ∷ 0 ∷ 0 ∷ 24 ∷ 0 ∷ 0 ∷ 0 ∷ 0 ∷ 0 ∷ 0 ∷ 0 ∷ 0 ∷ 0 ∷ 0 ∷ 0 ∷ []

-- two untied counts, with weights of either sign
abbrev pub untied : List ℕ
untied =
    header 2 0 48 48 ++
    count (minus 2) (plus 3) (plus 5) ++
    count (minus 3) (plus 0) (minus 2)

abbrev pub untied_sheet : List ℕ
untied_sheet =
    -- 2 counts, 2 groups, their rows at 56, worth 21
    65 ∷ 78 ∷ 83 ∷ 49 ∷ 2 ∷ 0 ∷ 2 ∷ 0 ∷ 24 ∷ 0 ∷ 0 ∷ 0 ∷ 56 ∷ 0 ∷ 0 ∷ 0 ∷ 21 ∷ 0 ∷ 0 ∷ 0 ∷ 0 ∷ 0 ∷ 0 ∷ 0 ∷ [] ++
    -- count 0: number 3, base −2, step 1, group 0
    3 ∷ 0 ∷ 0 ∷ 0 ∷ 254 ∷ 255 ∷ 255 ∷ 255 ∷ 1 ∷ 0 ∷ 0 ∷ 0 ∷ 0 ∷ 0 ∷ 0 ∷ 0 ∷ [] ++
    -- count 1: number −3, base −3, step 1, group 1
    253 ∷ 255 ∷ 255 ∷ 255 ∷ 253 ∷ 255 ∷ 255 ∷ 255 ∷ 1 ∷ 0 ∷ 0 ∷ 0 ∷ 1 ∷ 0 ∷ 0 ∷ 0 ∷ [] ++
    -- group 0: fits 6, k 5, gain 5
    6 ∷ 0 ∷ 0 ∷ 0 ∷ 5 ∷ 0 ∷ 0 ∷ 0 ∷ 5 ∷ 0 ∷ 0 ∷ 0 ∷ 0 ∷ 0 ∷ 0 ∷ 0 ∷ [] ++
    -- group 1: fits 4, k 0, gain −2
    4 ∷ 0 ∷ 0 ∷ 0 ∷ 0 ∷ 0 ∷ 0 ∷ 0 ∷ 254 ∷ 255 ∷ 255 ∷ 255 ∷ 255 ∷ 255 ∷ 255 ∷ 255 ∷ []

-- c0 + 2·c1 = 0
abbrev pub falling : List ℕ
falling =
    header 2 1 48 68 ++
    count (minus 5) (plus 5) (plus 0) ++
    count (minus 3) (plus 3) (plus 1) ++
    equation_bytes 0 1 (plus 1) (plus 2) 0

abbrev pub falling_sheet : List ℕ
falling_sheet =
    -- 2 counts, 1 group, its row at 56, worth 2
    65 ∷ 78 ∷ 83 ∷ 49 ∷ 2 ∷ 0 ∷ 1 ∷ 0 ∷ 24 ∷ 0 ∷ 0 ∷ 0 ∷ 56 ∷ 0 ∷ 0 ∷ 0 ∷ 2 ∷ 0 ∷ 0 ∷ 0 ∷ 0 ∷ 0 ∷ 0 ∷ 0 ∷ [] ++
    -- count 0: number −4, base −4, step 2, group 0
    252 ∷ 255 ∷ 255 ∷ 255 ∷ 252 ∷ 255 ∷ 255 ∷ 255 ∷ 2 ∷ 0 ∷ 0 ∷ 0 ∷ 0 ∷ 0 ∷ 0 ∷ 0 ∷ [] ++
    -- count 1: number 2, base 2, step −1, group 0
    2 ∷ 0 ∷ 0 ∷ 0 ∷ 2 ∷ 0 ∷ 0 ∷ 0 ∷ 255 ∷ 255 ∷ 255 ∷ 255 ∷ 0 ∷ 0 ∷ 0 ∷ 0 ∷ [] ++
    -- group 0: fits 5, k 0, gain −1
    5 ∷ 0 ∷ 0 ∷ 0 ∷ 0 ∷ 0 ∷ 0 ∷ 0 ∷ 255 ∷ 255 ∷ 255 ∷ 255 ∷ 255 ∷ 255 ∷ 255 ∷ 255 ∷ []

-- a ring: c0 + c1 = 5 and c0 − c1 = c
abbrev pub ring : ℕ → List ℕ
ring c = header 2 2 48 88 ++ plain 9 ++ plain 9 ++ total 0 1 5 ++ difference 0 1 c

-- 2 counts, 1 group, its row at 56, worth 0
abbrev worth_nothing : List ℕ
worth_nothing = 65 ∷ 78 ∷ 83 ∷ 49 ∷ 2 ∷ 0 ∷ 1 ∷ 0 ∷ 24 ∷ 0 ∷ 0 ∷ 0 ∷ 56 ∷ 0 ∷ 0 ∷ 0 ∷ 0 ∷ 0 ∷ 0 ∷ 0 ∷ 0 ∷ 0 ∷ 0 ∷ 0 ∷ []

-- for c = 1
abbrev pub ring_sheet : List ℕ
ring_sheet =
    worth_nothing ++
    -- count 0: number 3, base 3, step 0, group 0
    3 ∷ 0 ∷ 0 ∷ 0 ∷ 3 ∷ 0 ∷ 0 ∷ 0 ∷ 0 ∷ 0 ∷ 0 ∷ 0 ∷ 0 ∷ 0 ∷ 0 ∷ 0 ∷ [] ++
    -- count 1: number 2, base 2, step 0, group 0
    2 ∷ 0 ∷ 0 ∷ 0 ∷ 2 ∷ 0 ∷ 0 ∷ 0 ∷ 0 ∷ 0 ∷ 0 ∷ 0 ∷ 0 ∷ 0 ∷ 0 ∷ 0 ∷ [] ++
    -- group 0: fits 1, k 0, gain 0
    1 ∷ 0 ∷ 0 ∷ 0 ∷ 0 ∷ 0 ∷ 0 ∷ 0 ∷ 0 ∷ 0 ∷ 0 ∷ 0 ∷ 0 ∷ 0 ∷ 0 ∷ 0 ∷ []

-- c0 − c1 = 0 and c0 − c1 = c
abbrev pub twice : ℕ → List ℕ
twice c = header 2 2 48 88 ++ plain 3 ++ plain 3 ++ difference 0 1 0 ++ difference 0 1 c

-- for c = 0: all are worth the same, and the highest c0 comes first
abbrev pub twice_sheet : List ℕ
twice_sheet =
    worth_nothing ++
    -- count 0: number 3, base 0, step 1, group 0
    3 ∷ 0 ∷ 0 ∷ 0 ∷ 0 ∷ 0 ∷ 0 ∷ 0 ∷ 1 ∷ 0 ∷ 0 ∷ 0 ∷ 0 ∷ 0 ∷ 0 ∷ 0 ∷ [] ++
    -- count 1: the same
    3 ∷ 0 ∷ 0 ∷ 0 ∷ 0 ∷ 0 ∷ 0 ∷ 0 ∷ 1 ∷ 0 ∷ 0 ∷ 0 ∷ 0 ∷ 0 ∷ 0 ∷ 0 ∷ [] ++
    -- group 0: fits 4, k 3, gain 0
    4 ∷ 0 ∷ 0 ∷ 0 ∷ 3 ∷ 0 ∷ 0 ∷ 0 ∷ 0 ∷ 0 ∷ 0 ∷ 0 ∷ 0 ∷ 0 ∷ 0 ∷ 0 ∷ []

-- c0 and c2 make one group, c0 − c2 = 0; c1 and c3 make another, by the tie given
abbrev pub groups : List ℕ → List ℕ
groups tie = header 4 2 72 112 ++ count (plus 0) (plus 3) (plus 1) ++ count (plus 0) (plus 3) (plus 1) ++ plain 3 ++ count (plus 0) (plus 3) (plus 1) ++ difference 0 2 0 ++ tie

-- for c1 + c3 = 3: each of the four fit-outs of the second group makes the worth 6, and the highest c1 comes first, with c3 falling
abbrev groups_sheet : List ℕ
groups_sheet =
    -- 4 counts, 2 groups, their rows at 88, worth 6
    65 ∷ 78 ∷ 83 ∷ 49 ∷ 4 ∷ 0 ∷ 2 ∷ 0 ∷ 24 ∷ 0 ∷ 0 ∷ 0 ∷ 88 ∷ 0 ∷ 0 ∷ 0 ∷ 6 ∷ 0 ∷ 0 ∷ 0 ∷ 0 ∷ 0 ∷ 0 ∷ 0 ∷ [] ++
    -- count 0: number 3, base 0, step 1, group 0
    3 ∷ 0 ∷ 0 ∷ 0 ∷ 0 ∷ 0 ∷ 0 ∷ 0 ∷ 1 ∷ 0 ∷ 0 ∷ 0 ∷ 0 ∷ 0 ∷ 0 ∷ 0 ∷ [] ++
    -- count 1: number 3, base 0, step 1, group 1
    3 ∷ 0 ∷ 0 ∷ 0 ∷ 0 ∷ 0 ∷ 0 ∷ 0 ∷ 1 ∷ 0 ∷ 0 ∷ 0 ∷ 1 ∷ 0 ∷ 0 ∷ 0 ∷ [] ++
    -- count 2: number 3, base 0, step 1, group 0
    3 ∷ 0 ∷ 0 ∷ 0 ∷ 0 ∷ 0 ∷ 0 ∷ 0 ∷ 1 ∷ 0 ∷ 0 ∷ 0 ∷ 0 ∷ 0 ∷ 0 ∷ 0 ∷ [] ++
    -- count 3: number 0, base 3, step −1, group 1
    0 ∷ 0 ∷ 0 ∷ 0 ∷ 3 ∷ 0 ∷ 0 ∷ 0 ∷ 255 ∷ 255 ∷ 255 ∷ 255 ∷ 1 ∷ 0 ∷ 0 ∷ 0 ∷ [] ++
    -- group 0: fits 4, k 3, gain 1
    4 ∷ 0 ∷ 0 ∷ 0 ∷ 3 ∷ 0 ∷ 0 ∷ 0 ∷ 1 ∷ 0 ∷ 0 ∷ 0 ∷ 0 ∷ 0 ∷ 0 ∷ 0 ∷ [] ++
    -- group 1: fits 4, k 3, gain 0
    4 ∷ 0 ∷ 0 ∷ 0 ∷ 3 ∷ 0 ∷ 0 ∷ 0 ∷ 0 ∷ 0 ∷ 0 ∷ 0 ∷ 0 ∷ 0 ∷ 0 ∷ 0 ∷ []

-- c0 + c2 = 3 and c1 − c3 = 0: two groups, and in both all fit-outs are worth the same, 6 and 0
abbrev both_tie : List ℕ
both_tie =
    header 4 2 72 112 ++
    count (plus 0) (plus 3) (plus 2) ++
    count (minus 2) (plus 1) (plus 1) ++
    count (plus 0) (plus 3) (plus 2) ++
    count (minus 2) (plus 1) (minus 1) ++
    total 0 2 3 ++
    difference 1 3 0

abbrev both_tie_sheet : List ℕ
both_tie_sheet =
    -- 4 counts, 2 groups, their rows at 88, worth 6
    65 ∷ 78 ∷ 83 ∷ 49 ∷ 4 ∷ 0 ∷ 2 ∷ 0 ∷ 24 ∷ 0 ∷ 0 ∷ 0 ∷ 88 ∷ 0 ∷ 0 ∷ 0 ∷ 6 ∷ 0 ∷ 0 ∷ 0 ∷ 0 ∷ 0 ∷ 0 ∷ 0 ∷ [] ++
    -- count 0: number 3, base 0, step 1, group 0
    3 ∷ 0 ∷ 0 ∷ 0 ∷ 0 ∷ 0 ∷ 0 ∷ 0 ∷ 1 ∷ 0 ∷ 0 ∷ 0 ∷ 0 ∷ 0 ∷ 0 ∷ 0 ∷ [] ++
    -- count 1: number 1, base −2, step 1, group 1
    1 ∷ 0 ∷ 0 ∷ 0 ∷ 254 ∷ 255 ∷ 255 ∷ 255 ∷ 1 ∷ 0 ∷ 0 ∷ 0 ∷ 1 ∷ 0 ∷ 0 ∷ 0 ∷ [] ++
    -- count 2: number 0, base 3, step −1, group 0
    0 ∷ 0 ∷ 0 ∷ 0 ∷ 3 ∷ 0 ∷ 0 ∷ 0 ∷ 255 ∷ 255 ∷ 255 ∷ 255 ∷ 0 ∷ 0 ∷ 0 ∷ 0 ∷ [] ++
    -- count 3: as count 1
    1 ∷ 0 ∷ 0 ∷ 0 ∷ 254 ∷ 255 ∷ 255 ∷ 255 ∷ 1 ∷ 0 ∷ 0 ∷ 0 ∷ 1 ∷ 0 ∷ 0 ∷ 0 ∷ [] ++
    -- group 0: fits 4, k 3, gain 0
    4 ∷ 0 ∷ 0 ∷ 0 ∷ 3 ∷ 0 ∷ 0 ∷ 0 ∷ 0 ∷ 0 ∷ 0 ∷ 0 ∷ 0 ∷ 0 ∷ 0 ∷ 0 ∷ [] ++
    -- group 1: the same
    4 ∷ 0 ∷ 0 ∷ 0 ∷ 3 ∷ 0 ∷ 0 ∷ 0 ∷ 0 ∷ 0 ∷ 0 ∷ 0 ∷ 0 ∷ 0 ∷ 0 ∷ 0 ∷ []

-- three untied counts. One more of c0 and of c1 together is worth nothing; but c0 alone gains, and c1 alone loses. c2 does neither.
abbrev across : List ℕ
across = header 3 0 60 60 ++ count (plus 0) (plus 3) (plus 1) ++ count (plus 0) (plus 3) (minus 1) ++ plain 3

abbrev across_sheet : List ℕ
across_sheet =
    -- 3 counts, 3 groups, their rows at 72, worth 3
    65 ∷ 78 ∷ 83 ∷ 49 ∷ 3 ∷ 0 ∷ 3 ∷ 0 ∷ 24 ∷ 0 ∷ 0 ∷ 0 ∷ 72 ∷ 0 ∷ 0 ∷ 0 ∷ 3 ∷ 0 ∷ 0 ∷ 0 ∷ 0 ∷ 0 ∷ 0 ∷ 0 ∷ [] ++
    -- count 0: number 3, base 0, step 1, group 0
    3 ∷ 0 ∷ 0 ∷ 0 ∷ 0 ∷ 0 ∷ 0 ∷ 0 ∷ 1 ∷ 0 ∷ 0 ∷ 0 ∷ 0 ∷ 0 ∷ 0 ∷ 0 ∷ [] ++
    -- count 1: number 0, base 0, step 1, group 1
    0 ∷ 0 ∷ 0 ∷ 0 ∷ 0 ∷ 0 ∷ 0 ∷ 0 ∷ 1 ∷ 0 ∷ 0 ∷ 0 ∷ 1 ∷ 0 ∷ 0 ∷ 0 ∷ [] ++
    -- count 2: number 3, base 0, step 1, group 2
    3 ∷ 0 ∷ 0 ∷ 0 ∷ 0 ∷ 0 ∷ 0 ∷ 0 ∷ 1 ∷ 0 ∷ 0 ∷ 0 ∷ 2 ∷ 0 ∷ 0 ∷ 0 ∷ [] ++
    -- group 0: fits 4, k 3, gain 1
    4 ∷ 0 ∷ 0 ∷ 0 ∷ 3 ∷ 0 ∷ 0 ∷ 0 ∷ 1 ∷ 0 ∷ 0 ∷ 0 ∷ 0 ∷ 0 ∷ 0 ∷ 0 ∷ [] ++
    -- group 1: fits 4, k 0, gain −1
    4 ∷ 0 ∷ 0 ∷ 0 ∷ 0 ∷ 0 ∷ 0 ∷ 0 ∷ 255 ∷ 255 ∷ 255 ∷ 255 ∷ 255 ∷ 255 ∷ 255 ∷ 255 ∷ [] ++
    -- group 2: fits 4, k 3, gain 0
    4 ∷ 0 ∷ 0 ∷ 0 ∷ 3 ∷ 0 ∷ 0 ∷ 0 ∷ 0 ∷ 0 ∷ 0 ∷ 0 ∷ 0 ∷ 0 ∷ 0 ∷ 0 ∷ []

-- −c0 − c1 = 7: all are worth 14, and the c0 nearest to 0 is the highest
abbrev below0 : List ℕ
below0 =
    header 2 1 48 68 ++
    count (minus 6) (minus 1) (minus 2) ++
    count (minus 6) (minus 1) (minus 2) ++
    equation_bytes 0 1 (minus 1) (minus 1) 7

abbrev below0_sheet : List ℕ
below0_sheet =
    -- 2 counts, 1 group, its row at 56, worth 14
    65 ∷ 78 ∷ 83 ∷ 49 ∷ 2 ∷ 0 ∷ 1 ∷ 0 ∷ 24 ∷ 0 ∷ 0 ∷ 0 ∷ 56 ∷ 0 ∷ 0 ∷ 0 ∷ 14 ∷ 0 ∷ 0 ∷ 0 ∷ 0 ∷ 0 ∷ 0 ∷ 0 ∷ [] ++
    -- count 0: number −1, base −6, step 1, group 0
    255 ∷ 255 ∷ 255 ∷ 255 ∷ 250 ∷ 255 ∷ 255 ∷ 255 ∷ 1 ∷ 0 ∷ 0 ∷ 0 ∷ 0 ∷ 0 ∷ 0 ∷ 0 ∷ [] ++
    -- count 1: number −6, base −1, step −1, group 0
    250 ∷ 255 ∷ 255 ∷ 255 ∷ 255 ∷ 255 ∷ 255 ∷ 255 ∷ 255 ∷ 255 ∷ 255 ∷ 255 ∷ 0 ∷ 0 ∷ 0 ∷ 0 ∷ [] ++
    -- group 0: fits 6, k 5, gain 0
    6 ∷ 0 ∷ 0 ∷ 0 ∷ 5 ∷ 0 ∷ 0 ∷ 0 ∷ 0 ∷ 0 ∷ 0 ∷ 0 ∷ 0 ∷ 0 ∷ 0 ∷ 0 ∷ []

-- ---- jobs without one
-- 2·c0 + 4·c1 = 7
abbrev pub uneven : List ℕ
uneven = header 2 1 48 68 ++ plain 9 ++ plain 9 ++ equation_bytes 0 1 (plus 2) (plus 4) 7

-- 3·c0 − 5·c1 = 0
abbrev pub no_multiple : List ℕ
no_multiple = header 2 1 48 68 ++ count (plus 1) (plus 4) (plus 0) ++ plain 9 ++ equation_bytes 0 1 (plus 3) (minus 5) 0

-- ---- faulty jobs
-- what follows the mark for n = 257
abbrev too_many : List ℕ
too_many = 1 ∷ 1 ∷ 0 ∷ 0 ∷ 24 ∷ 0 ∷ 0 ∷ 0 ∷ 36 ∷ 12 ∷ 0 ∷ 0 ∷ 36 ∷ 12 ∷ 0 ∷ 0 ∷ 0 ∷ 0 ∷ 0 ∷ 0 ∷ []

abbrev million_and_one : List ℕ
million_and_one = 65 ∷ 66 ∷ 15 ∷ 0 ∷ []

-- 0..3, weight 1,000,001
abbrev overweight : List ℕ
overweight = count (plus 0) (plus 3) million_and_one

abbrev pub fitted : List Vector
fitted =
    filled narrow_m (pos 150) narrow_m_sheet ∷
    -- bytes past the sheet
    filled narrow_m (pos 150) (narrow_m_sheet ++ 220 ∷ 221 ∷ 222 ∷ 223 ∷ []) ∷
    filled (header 0 0 24 24) (pos 0) empty_sheet ∷
    filled untied (pos 21) untied_sheet ∷
    filled falling (pos 2) falling_sheet ∷
    filled (ring 1) (pos 0) ring_sheet ∷
    filled (twice 0) (pos 0) twice_sheet ∷
    filled (groups (total 1 3 3)) (pos 6) groups_sheet ∷
    filled both_tie (pos 6) both_tie_sheet ∷
    filled across (pos 3) across_sheet ∷
    filled below0 (pos 14) below0_sheet ∷ []

abbrev pub vectors : List Vector
vectors =
    fitted ++
    untouched uneven 72 (no_fit 0) ∷
    untouched no_multiple 72 (no_fit 0) ∷
    -- the single candidate of the ring is 3½ and 1½
    untouched (ring 2) 72 (no_fit 0) ∷
    untouched (twice 1) 72 (no_fit 0) ∷
    -- a low above its high
    untouched (header 2 0 48 48 ++ plain 3 ++ count (plus 3) (plus 2) (plus 0)) 88 (no_fit 1) ∷
    untouched (groups (equation_bytes 1 3 (plus 2) (plus 4) 7)) 120 (no_fit 1) ∷
    -- an area one byte short, which stands before no fit
    untouched narrow_m 119 (refused 8 0) ∷
    untouched uneven 71 (refused 8 0) ∷
    -- every other reason stands before a short area, and before what comes later in the table
    untouched [] 8 (refused 1 0) ∷
    untouched (70 ∷ 73 ∷ 84 ∷ 50 ∷ too_many) 8 (refused 2 0) ∷
    untouched (70 ∷ 73 ∷ 84 ∷ 49 ∷ too_many) 8 (refused 3 0) ∷
    untouched (header 0 0 24 24 ++ 0 ∷ []) 8 (refused 4 0) ∷
    untouched (header 2 1 48 68 ++ overweight ++ overweight ++ total 1 2 0) 8 (refused 5 0) ∷
    untouched (header 2 2 48 88 ++ plain 3 ++ overweight ++ total 2 1 0 ++ total 0 1 3) 8 (refused 5 1) ∷
    -- in the second equation both a count not below n and a = 1,000,001
    untouched (header 2 2 48 88 ++ plain 3 ++ plain 3 ++ total 0 1 3 ++ equation_bytes 0 2 million_and_one (plus 1) 3) 8 (refused 6 1) ∷
    untouched (header 2 2 48 88 ++ plain 3 ++ plain 3 ++ equation_bytes 0 1 million_and_one (plus 1) 3 ++ total 1 2 3) 8 (refused 7 0) ∷ []

-- the call that lends it, and no map
abbrev pub called : Vector → Call
called v = call_of v.job [] (areas_of v.area none)

abbrev given : Vector → Verdict × Areas
given v = (verdict (called v), areas_after (called v))

abbrev expected : Vector → Verdict × Areas
expected v = (v.verdict, areas_of v.after none)

-- the definitions give what was worked out, at each of them
pub worked : map given vectors ≡ map expected vectors
unfolding verdict areas_after table
worked = refl

-- ---- the tie-break, at lists of three
abbrev three : ℕ → ℕ → ℕ → List ℤ
three x y z = pos x ∷ pos y ∷ pos z ∷ []

-- a higher number at count 0 comes first, whatever follows it; then at count 1
higher_first : Earlier (three 2 0 0) (three 1 9 9) × Earlier (three 1 3 0) (three 1 2 9)
higher_first = (now record { lt = tt }, later refl (now record { lt = tt }))

in_its_order : earliest_first (three 1 2 9 ∷ three 1 3 0 ∷ three 2 0 0 ∷ []) ≡ three 2 0 0 ∷ three 1 3 0 ∷ three 1 2 9 ∷ []
in_its_order = refl

-- ---- the demands' readings, tried on the same sheets
record Reading : Type 0 where
  header : List ℕ
  worth : ℤ
  numbers : List ℤ
  sums : List ℤ
  bases : List ℤ
  steps : List ℤ
  groups : List ℕ
  zeros : List ℕ
  families : List (List (List ℤ))
  chosens : List ℕ
  gains : List ℤ

-- what the demands read off the bytes
abbrev on_sheet : Vector → Reading
on_sheet v =
    let s = v.after in
    let j = job_of v.job in
    record {
      header = take 4 s ++ u16 s 4 ∷ u16 s 6 ∷ u32 s 8 ∷ u32 s 12 ∷ [];
      worth = worth_on s;
      numbers = numbers_on j s;
      sums = table (λ i. base_on s i +ℤ step_on s i *ℤ pos (chosen_on j s (group_on s i))) (length j.variables);
      bases = table (base_on s) (length j.variables);
      steps = table (step_on s) (length j.variables);
      groups = table (group_on s) (length j.variables);
      zeros = table (zero_on s) (length j.variables);
      families = map (λ l. table (member_on j s (component j l)) (fits_on j s (component j l))) (leads j);
      chosens = map (λ l. chosen_on j s (component j l)) (leads j);
      gains = map (λ l. gain_on j s (component j l)) (leads j);
    }

-- what the definitions mean
abbrev defined : Vector → Reading
defined v =
    let j = job_of v.job in
    let own : ℕ → Job = λ i. component_job j (lowest j i) in
    record {
      header = answer_mark ++ length j.variables ∷ component_count j ∷ 24 ∷ group_rows_at j ∷ [];
      worth = objective j (best j);
      numbers = best j;
      sums = best j;
      bases = table (λ i. number (base (own i)) i) (length j.variables);
      steps = table (λ i. number (step (own i)) i) (length j.variables);
      groups = table (component j) (length j.variables);
      zeros = table (λ i. 0) (length j.variables);
      families = map (λ l. solutions (component_job j l)) (leads j);
      chosens = map (λ l. chosen (component_job j l)) (leads j);
      gains = map (λ l. slope (component_job j l)) (leads j);
    }

pub read_off : map on_sheet fitted ≡ map defined fitted
unfolding verdict areas_after table
read_off = refl
