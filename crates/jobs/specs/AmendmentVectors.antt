-- Small jobs with amendments, worked out by hand from document 02's #105, and the definitions at each of them.
use Rattle.std.specs.Prelude.{◌≡◌, refl, List, [], ◌∷◌, ◌++◌, map, ℕ, pos, negsuc, take, replicate}
use Rattle.std.proofs.Math.Option.{none}
use Rattle.lists.specs.Table.{table}
use Rattle.jobs.specs.Call.{lending_nothing, areas_of, call_of}
use Rattle.jobs.specs.Verdict.{Verdict, planned, no_fit, refused, verdict}
use Rattle.jobs.specs.AreasAfter.{areas_after}
use Rattle.jobs.specs.JobBytes.{plus, header, count, total, amendment_bytes}

-- ---- jobs
-- two untied counts, each 0..9 with weight 1
abbrev nine : List ℕ
nine = count (plus 0) (plus 9) (plus 1)

abbrev nines : List ℕ
nines = header 2 0 48 48 ++ nine ++ nine

-- the same with c0 + c1 = 12
abbrev tied : List ℕ
tied = header 2 1 48 68 ++ nine ++ nine ++ total 0 1 12

-- and with a low above its high at count 0
abbrev impossible : List ℕ
impossible = header 2 0 48 48 ++ count (plus 5) (plus 4) (plus 1) ++ nine

-- ---- sheets
-- number `serial` for a count, low..high, which supersedes none, or another
abbrev amends : ℕ → ℕ → ℕ → ℕ → List ℕ
amends serial variable low high = amendment_bytes serial 0 variable (plus low) (plus high)

abbrev instead : ℕ → ℕ → ℕ → ℕ → ℕ → List ℕ
instead serial supersedes variable low high = amendment_bytes serial supersedes variable (plus low) (plus high)

-- 2,000,000,000
abbrev two_milliards : List ℕ
two_milliards = 0 ∷ 148 ∷ 53 ∷ 119 ∷ []

-- with a high, or a low, out of range
abbrev too_high : ℕ → ℕ → ℕ → List ℕ
too_high serial supersedes variable = amendment_bytes serial supersedes variable (plus 0) two_milliards

abbrev too_low : ℕ → ℕ → ℕ → List ℕ
too_low serial supersedes variable = amendment_bytes serial supersedes variable (0 ∷ 108 ∷ 202 ∷ 136 ∷ []) (plus 0)

-- 1 in the zero field
abbrev zero_filled : ℕ → List ℕ
zero_filled serial = plus serial ++ plus 0 ++ 0 ∷ 0 ∷ 1 ∷ 0 ∷ [] ++ plus 0 ++ plus 9

-- ---- no area is lent
pub record AmendedCase : Type 0 where
  pub job : List ℕ
  pub amendments : List ℕ
  pub verdict : Verdict

abbrev on : List ℕ → List ℕ → Verdict → AmendedCase
on job amendments verdict = record { job = job; amendments = amendments; verdict = verdict }

-- that are planned, or have no fit
abbrev pub not_refused : List AmendedCase
not_refused =
    on nines [] (planned (pos 18)) ∷
    -- a count's bounds are replaced, and its weight stays; the other count is as before
    on nines (amends 1 0 2 4) (planned (pos 13)) ∷
    on nines (amends 7 1 2 4) (planned (pos 13)) ∷
    on nines (amends 1 0 2 4 ++ amends 2 1 0 1) (planned (pos 5)) ∷
    -- replaced, and not met: 20 lies past the row's high
    on nines (amends 1 0 3 20) (planned (pos 29)) ∷
    -- the second supersedes the first; the third supersedes the second, and the first is not revived
    on nines (amends 1 0 0 3 ++ instead 2 1 0 0 5) (planned (pos 14)) ∷
    on nines (amends 1 0 8 8 ++ instead 2 1 0 0 5 ++ instead 3 2 0 0 7) (planned (pos 16)) ∷
    -- numbers need not follow each other, and sheets for other counts may stand between
    on nines (amends 3 0 0 3 ++ amends 4 1 0 2 ++ instead 9 3 0 0 6) (planned (pos 8)) ∷
    -- with a tie
    on tied [] (planned (pos 12)) ∷
    on tied (amends 1 0 0 2) (no_fit 0) ∷
    on tied (amends 1 0 0 2 ++ amends 2 1 10 12) (planned (pos 12)) ∷
    -- a low above its high is no fault
    on nines (amends 1 0 5 4) (no_fit 0) ∷
    on nines (amends 1 1 5 4) (no_fit 1) ∷
    on impossible [] (no_fit 0) ∷
    on impossible (amends 1 0 5 6) (planned (pos 15)) ∷
    -- the highest and the lowest bounds that are in range
    on (header 1 0 36 36 ++ nine) (amendment_bytes 1 0 0 (0 ∷ 202 ∷ 154 ∷ 59 ∷ []) (0 ∷ 202 ∷ 154 ∷ 59 ∷ [])) (planned (pos 1000000000)) ∷
    on (header 1 0 36 36 ++ nine) (amendment_bytes 1 0 0 (0 ∷ 54 ∷ 101 ∷ 196 ∷ []) (0 ∷ 54 ∷ 101 ∷ 196 ∷ [])) (planned (negsuc 999999999)) ∷ []

-- that are refused
abbrev pub turned_away : List AmendedCase
turned_away =
    -- lengths, and too many
    on nines (take 19 (amends 1 0 2 4)) (refused 11 0) ∷
    on nines (amends 1 0 2 4 ++ 0 ∷ []) (refused 11 0) ∷
    on nines (amends 1 0 2 4 ++ zero_filled 2 ++ 0 ∷ []) (refused 11 0) ∷
    on nines (replicate 10260 0) (refused 11 0) ∷
    -- zero fields, over all sheets before the numbers: the first sheet has number 0
    on nines (zero_filled 1) (refused 11 0) ∷
    on nines (amends 0 0 0 9 ++ amends 1 0 0 9 ++ amends 2 0 0 9 ++ zero_filled 3) (refused 11 3) ∷
    -- numbers
    on nines (amends 0 0 0 9) (refused 12 0) ∷
    on nines (amends 1 0 0 9 ++ amends 1 1 0 9) (refused 12 1) ∷
    on nines (amends 2 0 0 9 ++ amends 1 1 0 9) (refused 12 1) ∷
    -- counts
    on nines (amends 1 2 0 9) (refused 12 0) ∷
    on (header 0 0 24 24) (amends 1 0 0 9) (refused 12 0) ∷
    -- what is superseded: itself, a later one, one of another count, none that there is
    on nines (instead 3 3 0 0 9) (refused 12 0) ∷
    on nines (instead 1 2 0 0 9 ++ amends 2 0 0 9) (refused 12 0) ∷
    on nines (amends 1 0 0 9 ++ instead 2 1 1 0 9) (refused 12 1) ∷
    on nines (instead 5 4 0 0 9) (refused 12 0) ∷
    -- a number is no row: the second sheet supersedes number 1, and the first has number 7
    on nines (amends 7 0 0 9 ++ instead 8 1 0 0 9) (refused 12 1) ∷
    -- over all sheets before 13, and before 5
    on nines (amends 1 0 0 9 ++ amends 2 0 0 9 ++ amends 2 1 0 9) (refused 12 2) ∷
    on nines (too_high 1 0 0 ++ amends 2 2 0 9) (refused 12 1) ∷
    -- two in force for one count: the later one is reported
    on nines (amends 1 0 0 9 ++ amends 2 0 0 9) (refused 13 1) ∷
    on nines (amends 1 0 0 9 ++ amends 2 1 0 9 ++ amends 3 0 0 9) (refused 13 2) ∷
    on nines (amends 1 0 0 9 ++ instead 2 1 0 0 9 ++ instead 3 1 0 0 9) (refused 13 2) ∷
    on nines (amends 1 0 0 9 ++ amends 2 0 0 9 ++ instead 3 2 0 0 9) (refused 13 2) ∷
    on nines (amends 1 0 0 9 ++ amends 2 0 0 9 ++ instead 3 1 0 0 9) (refused 13 2) ∷
    -- over all sheets before 5
    on nines (too_high 1 0 0 ++ amends 2 0 0 9) (refused 13 1) ∷
    -- bounds out of range, in force or not, with the row of the sheet
    on nines (too_high 1 0 1) (refused 5 0) ∷
    on nines (amends 1 0 0 9 ++ too_low 2 0 1) (refused 5 1) ∷
    on nines (too_high 1 0 0 ++ instead 2 1 0 0 9) (refused 5 0) ∷
    -- behind the job's own reasons
    on (take 23 nines) (zero_filled 1) (refused 1 0) ∷
    on (header 1 0 36 36 ++ count (plus 0) two_milliards (plus 0)) (0 ∷ []) (refused 5 0) ∷
    on (header 2 1 48 68 ++ nine ++ nine ++ total 0 2 3) (0 ∷ []) (refused 6 0) ∷ []

abbrev given : AmendedCase → Verdict
given v = verdict (lending_nothing v.job v.amendments)

-- the definitions give what was worked out, at each of them
planned_or_not : map given not_refused ≡ map (λ v. v.verdict) not_refused
unfolding verdict table
planned_or_not = refl

refused_by : map given turned_away ≡ map (λ v. v.verdict) turned_away
unfolding verdict table
refused_by = refl

-- ---- with areas: 24 + 16·2 + 16·2 bytes for the sheet, each of which is 7 before
abbrev fresh : ℕ → List ℕ
fresh n = replicate n 7

-- a reason of the amendments comes before 8; without one the short area is reported
areas_behind : verdict (call_of nines (amends 0 0 0 9) (areas_of (fresh 87) none)) ∷ verdict (call_of nines (amends 1 0 2 4) (areas_of (fresh 87) none)) ∷ [] ≡ refused 12 0 ∷ refused 8 0 ∷ []
unfolding verdict table
areas_behind = refl

-- 2..4 and 0..9: worth 13, the numbers 4 and 9, the bases 2 and 0, and of three and of ten fits the last
abbrev amended_sheet : List ℕ
amended_sheet =
    65 ∷ 78 ∷ 83 ∷ 49 ∷ 2 ∷ 0 ∷ 2 ∷ 0 ∷ [] ++ plus 24 ++ plus 56 ++ plus 13 ++ plus 0 ++
    plus 4 ++ plus 2 ++ plus 1 ++ 0 ∷ 0 ∷ 0 ∷ 0 ∷ [] ++
    plus 9 ++ plus 0 ++ plus 1 ++ 1 ∷ 0 ∷ 0 ∷ 0 ∷ [] ++
    plus 3 ++ plus 2 ++ plus 1 ++ plus 0 ++
    plus 10 ++ plus 9 ++ plus 1 ++ plus 0

sheet_of_it : areas_after (call_of nines (amends 1 0 2 4) (areas_of (fresh 89) none)) ≡ areas_of (amended_sheet ++ 7 ∷ []) none
unfolding areas_after table
sheet_of_it = refl
