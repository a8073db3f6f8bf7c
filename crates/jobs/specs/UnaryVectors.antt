-- Equations that join no two counts (document 02, #102) through the definitions: verdict, sheet and map, bytes worked out by hand.
use Rattle.std.specs.Prelude.{refl, List, [], ◌∷◌, ◌++◌, ℕ, pos, negsuc}
use Rattle.lists.specs.Table.{table}
use Rattle.jobs.specs.Verdict.{verdict}
use Rattle.jobs.specs.AreasAfter.{areas_after}
use Rattle.jobs.specs.JobBytes.{plus, minus, header, count, plain, equation_bytes, total, difference, map_head, pair}
use Rattle.jobs.specs.MapVectors.{MapVector, mapped, unfit, at_one, two_fits, Worked}

-- ---- jobs of counts 0..9 and weight 1, of two counts 0..1 without weight, and of counts 0..3
-- one count, one equation
abbrev single : List ℕ → List ℕ
single e = header 1 1 36 56 ++ count (plus 0) (plus 9) (plus 1) ++ e

-- two counts, tied by nothing but this equation
abbrev apart : List ℕ → List ℕ
apart e = header 2 1 48 68 ++ plain 1 ++ plain 1 ++ e

-- two counts, two equations
abbrev ties : List ℕ → List ℕ → List ℕ
ties e f = header 2 2 48 88 ++ plain 3 ++ plain 3 ++ e ++ f

-- ---- sheets
-- n counts and g groups, whose rows begin at `rows`, and a worth below 256
abbrev head : ℕ → ℕ → ℕ → ℕ → List ℕ
head n g rows worth =
    65 ∷ 78 ∷ 83 ∷ 49 ∷ n ∷ 0 ∷ g ∷ 0 ∷ 24 ∷ 0 ∷ 0 ∷ 0 ∷ rows ∷ 0 ∷ 0 ∷ 0 ∷ worth ∷ 0 ∷ 0 ∷ 0 ∷ 0 ∷ 0 ∷ 0 ∷ 0 ∷ []

-- a count at x, the only number that it has: base x, step 0; and a group with one fit: k 0, gain 0
abbrev at : ℕ → ℕ → List ℕ
at x group = x ∷ 0 ∷ 0 ∷ 0 ∷ x ∷ 0 ∷ 0 ∷ 0 ∷ 0 ∷ 0 ∷ 0 ∷ 0 ∷ group ∷ 0 ∷ 0 ∷ 0 ∷ []

abbrev only : List ℕ
only = 1 ∷ 0 ∷ 0 ∷ 0 ∷ 0 ∷ 0 ∷ 0 ∷ 0 ∷ 0 ∷ 0 ∷ 0 ∷ 0 ∷ 0 ∷ 0 ∷ 0 ∷ 0 ∷ []

-- the one count of `single` at 4, worth 4
abbrev four_sheet : List ℕ
four_sheet = head 1 1 40 4 ++ at 4 0 ++ only

-- the two of `apart`, each free: both at 1, the higher of two numbers of equal worth
abbrev free_sheet : List ℕ
free_sheet = head 2 2 56 0 ++ at_one 0 ++ at_one 1 ++ two_fits ++ two_fits

-- the two of `ties` in one group, at 2 and 1
abbrev joined_sheet : List ℕ
joined_sheet = head 2 1 56 0 ++ at 2 0 ++ at 1 0 ++ only

-- ---- maps: one row, kind 3, in the group of its home; each count that it names is named once
abbrev single_map : List ℕ
single_map = map_head 1 1 28 1 ++ pair 0 1 ++ pair 0 3

-- it names both counts, and its group is that of count 0, or of count 1
abbrev apart_map : ℕ → List ℕ
apart_map home = map_head 2 1 32 2 ++ pair 0 1 ++ pair 1 1 ++ pair home 3

-- it names count 1 alone, on both sides
abbrev doubled_map : List ℕ
doubled_map = map_head 2 1 32 2 ++ pair 0 0 ++ pair 1 1 ++ pair 1 3

-- two rows of these kinds in the one group, by which count 0 is named so often, and count 1
abbrev ties_map : ℕ → ℕ → ℕ → ℕ → List ℕ
ties_map left right first second = map_head 2 2 32 1 ++ pair 0 left ++ pair 0 right ++ pair 0 first ++ pair 0 second

-- ---- 1,000,000 and −1,000,000, and c = 4,000,000
abbrev million : List ℕ
million = 64 ∷ 66 ∷ 15 ∷ 0 ∷ []

abbrev less_million : List ℕ
less_million = 192 ∷ 189 ∷ 240 ∷ 255 ∷ []

abbrev four_million : List ℕ → List ℕ → List ℕ
four_million a b = 0 ∷ 0 ∷ 0 ∷ 0 ∷ [] ++ a ++ b ++ 0 ∷ 9 ∷ 61 ∷ 0 ∷ 0 ∷ 0 ∷ 0 ∷ 0 ∷ []

-- one count −3..3, of weight −1; at 2 and at −2
abbrev doubled : List ℕ → List ℕ
doubled e = header 1 1 36 56 ++ count (minus 3) (plus 3) (minus 1) ++ e

-- worth −2, and 2
abbrev two_sheet : List ℕ
two_sheet =
    65 ∷ 78 ∷ 83 ∷ 49 ∷ 1 ∷ 0 ∷ 1 ∷ 0 ∷ 24 ∷ 0 ∷ 0 ∷ 0 ∷ 40 ∷ 0 ∷ 0 ∷ 0 ∷ 254 ∷ 255 ∷ 255 ∷ 255 ∷ 255 ∷ 255 ∷ 255 ∷ 255 ∷ [] ++ at 2 0 ++ only

abbrev less_two_sheet : List ℕ
less_two_sheet =
    head 1 1 40 2 ++ 254 ∷ 255 ∷ 255 ∷ 255 ∷ 254 ∷ 255 ∷ 255 ∷ 255 ∷ 0 ∷ 0 ∷ 0 ∷ 0 ∷ 0 ∷ 0 ∷ 0 ∷ 0 ∷ [] ++ only

-- ---- c0, c1 and c2, 0..1, 0..3 and 0..3: c1 and c2 are one group, which 2·c2 = 3 alone leaves without a fit
abbrev emptied : List ℕ
emptied = header 3 2 60 100 ++ plain 1 ++ plain 3 ++ plain 3 ++ total 1 2 3 ++ equation_bytes 2 2 (plus 2) (plus 0) 3

abbrev emptied_map : List ℕ
emptied_map = map_head 3 2 36 2 ++ pair 0 0 ++ pair 1 1 ++ pair 1 2 ++ pair 1 1 ++ pair 1 3

abbrev pub unary_vectors : List MapVector
unary_vectors =
    -- 3·c0 = 12, and the same with the 3 on the right
    mapped (single (equation_bytes 0 0 (plus 3) (plus 0) 12)) (pos 4) four_sheet single_map ∷
    mapped (single (equation_bytes 0 0 (plus 0) (plus 3) 12)) (pos 4) four_sheet single_map ∷
    -- 2·c0 + c0 = 12, and 13
    mapped (single (equation_bytes 0 0 (plus 2) (plus 1) 12)) (pos 4) four_sheet single_map ∷
    unfit (single (equation_bytes 0 0 (plus 2) (plus 1) 13)) 56 0 single_map ∷
    -- 0 = 0 between two groups: they stay two, and its group is the left count's; 0 = 5 leaves the left one's without a fit
    mapped (apart (equation_bytes 0 1 (plus 0) (plus 0) 0)) (pos 0) free_sheet (apart_map 0) ∷
    mapped (apart (equation_bytes 1 0 (plus 0) (plus 0) 0)) (pos 0) free_sheet (apart_map 1) ∷
    unfit (apart (equation_bytes 0 1 (plus 0) (plus 0) 5)) 88 0 (apart_map 0) ∷
    unfit (apart (equation_bytes 1 0 (plus 0) (plus 0) 5)) 88 1 (apart_map 1) ∷
    -- 3·c1 − 3·c1 = 0, and 1
    mapped (apart (equation_bytes 1 1 (plus 3) (minus 3) 0)) (pos 0) free_sheet doubled_map ∷
    unfit (apart (equation_bytes 1 1 (plus 3) (minus 3) 1)) 88 1 doubled_map ∷
    -- 0·c0 + 3·c1 = 3: the right count's group; and 4. 3·c0 + 0·c1 = 4: the left count's
    mapped (apart (equation_bytes 0 1 (plus 0) (plus 3) 3)) (pos 0) (head 2 2 56 0 ++ at_one 0 ++ at 1 1 ++ two_fits ++ only) (apart_map 1) ∷
    unfit (apart (equation_bytes 0 1 (plus 0) (plus 3) 4)) 88 1 (apart_map 1) ∷
    unfit (apart (equation_bytes 0 1 (plus 3) (plus 0) 4)) 88 0 (apart_map 0) ∷
    -- ±1,000,000 twice: ±2,000,000·c0 = 4,000,000
    mapped (doubled (four_million million million)) (negsuc 1) two_sheet single_map ∷
    mapped (doubled (four_million less_million less_million)) (pos 2) less_two_sheet single_map ∷
    -- 2·c0 = 4 before c0 + c1 = 3, and after it
    mapped (ties (equation_bytes 0 0 (plus 2) (plus 0) 4) (total 0 1 3)) (pos 0) joined_sheet (ties_map 2 1 3 1) ∷
    mapped (ties (total 0 1 3) (equation_bytes 0 0 (plus 0) (plus 2) 4)) (pos 0) joined_sheet (ties_map 2 1 1 3) ∷
    -- 2·c0 + 0·c1 = 4 between counts that c0 − c1 = 1 joins: kind 3, and both are named twice; and 0·c0 + 2·c1 = 2 before that row, which
    -- still joins
    mapped (ties (difference 0 1 1) (equation_bytes 0 1 (plus 2) (plus 0) 4)) (pos 0) joined_sheet (ties_map 2 2 1 3) ∷
    mapped (ties (equation_bytes 0 1 (plus 0) (plus 2) 2) (difference 0 1 1)) (pos 0) joined_sheet (ties_map 2 2 3 1) ∷
    unfit emptied 104 1 emptied_map ∷ []

pub unary_Worked : Worked unary_vectors
unfolding verdict areas_after table
unary_Worked = refl
