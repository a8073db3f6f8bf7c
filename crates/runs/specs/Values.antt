-- The definitions at worked values, computed.
use Rattle.std.specs.Prelude.{◌≡◌, refl, true, false, [], ◌∷◌, pos, negsuc}
use Rattle.reasons.specs.Answer.{gives, refused}
use Rattle.lists.specs.Keep.{every}
use Rattle.runs.specs.Run.{Run, numbers, is_one_form, empty}
use Rattle.runs.specs.Search.{run_of, meet, has_partner}
use Rattle.ints.specs.Floor.{floor_div, floor_mod}
use Rattle.runs.specs.Workings.{meeting}
use Rattle.runs.specs.Groupings.{alone, pair, leaves, met, worked}
use Rattle.runs.specs.Method.{clip, counted_run, rising, places_in}

-- −3, 1, 5
abbrev three : Run
three = record { first = negsuc 2; step = pos 4; many = 3 }

-- 1, 3, 5, 7
abbrev odd : Run
odd = record { first = pos 1; step = pos 2; many = 4 }

listed : numbers three ≡ negsuc 2 ∷ pos 1 ∷ pos 5 ∷ []
unfolding numbers
listed = refl

-- no number, one and three
read_back : (run_of [] ≡ empty) × (run_of (pos 7 ∷ []) ≡ record { first = pos 7; step = pos 0; many = 1 }) × (run_of (negsuc 2 ∷ pos 1 ∷ pos 5 ∷ []) ≡ three)
unfolding run_of
read_back = (refl, refl, refl)

-- 1 and 5 are in both; of 2, 4 none is
meets : (meet three odd ≡ record { first = pos 1; step = pos 4; many = 2 }) × (meet odd (record { first = pos 2; step = pos 2; many = 2 }) ≡ empty)
unfolding meet
meets = (refl, refl)

-- 3·p − 5·q = 0: p = 5 goes with q = 3, and p = 4 with none
partnered : (has_partner (pos 3) (negsuc 4) (pos 0) odd (pos 5) ≡ true) × (has_partner (pos 3) (negsuc 4) (pos 0) odd (pos 4) ≡ false)
unfolding has_partner
partnered = (refl, refl)

-- step 0 with two numbers, a negative step, one number with a step, an empty run with a first number, a number past the range
not_formed : (is_one_form record { first = pos 5; step = pos 0; many = 2 } ≡ false) × (is_one_form record { first = pos 5; step = negsuc 0; many = 2 } ≡ false) ×
    (is_one_form record { first = pos 5; step = pos 1; many = 1 } ≡ false) × (is_one_form record { first = pos 5; step = pos 0; many = 0 } ≡ false) ×
    (is_one_form record { first = pos 999999999; step = pos 2; many = 2 } ≡ false)
unfolding every numbers
not_formed = (refl, refl, refl, refl, refl)

formed : (is_one_form three ≡ true) × (is_one_form empty ≡ true) × (is_one_form record { first = pos 1000000000; step = pos 0; many = 1 } ≡ true)
unfolding every numbers
formed = (refl, refl, refl)

answered : (meeting three odd ≡ gives record { first = pos 1; step = pos 4; many = 2 }) × (meeting three (record { first = pos 5; step = pos 0; many = 2 }) ≡ refused 9 0)
unfolding meet every numbers
answered = (refl, refl)

-- ---- several runs
-- 0, 3, .., 30; 4, 6, .., 40; and 10 to 25: in all of them are 12, 18 and 24
abbrev threes : Run
threes = record { first = pos 0; step = pos 3; many = 11 }

abbrev evens : Run
evens = record { first = pos 4; step = pos 2; many = 19 }

abbrev tens : Run
tens = record { first = pos 10; step = pos 1; many = 16 }

abbrev common : Run
common = record { first = pos 12; step = pos 6; many = 3 }

grouped : (leaves (pair (pair (alone threes) (alone evens)) (alone tens)) ≡ threes ∷ evens ∷ tens ∷ []) ×
    (met (pair (pair (alone threes) (alone evens)) (alone tens)) ≡ common) × (met (pair (alone tens) (pair (alone threes) (alone evens))) ≡ common)
unfolding leaves met meet
grouped = (refl, refl, refl)

-- the same by workings; and with a falling run, in either grouping
sequenced : (worked (pair (pair (alone threes) (alone evens)) (alone tens)) ≡ gives common) ×
    (worked (pair (pair (alone threes) (alone evens)) (alone record { first = pos 5; step = negsuc 0; many = 3 })) ≡ refused 9 0) ×
    (worked (pair (alone threes) (pair (alone evens) (alone record { first = pos 5; step = negsuc 0; many = 3 }))) ≡ refused 9 0)
unfolding worked meet every numbers
sequenced = (refl, refl, refl)

-- ---- the method, where document 01's wrong plans would go another way
-- of the multiples of 5 none lies from 2 to 3, and from 2 to 11 there are 5 and 10; one alone has step 0
clipped : (clip (record { first = pos 0; step = pos 5 }) (record { low = pos 2; high = pos 3 }) ≡ empty) ×
    (clip (record { first = pos 0; step = pos 5 }) (record { low = pos 2; high = pos 11 }) ≡ record { first = pos 5; step = pos 5; many = 2 }) ×
    (clip (record { first = pos 0; step = pos 5 }) (record { low = pos 2; high = pos 9 }) ≡ record { first = pos 5; step = pos 0; many = 1 })
unfolding floor_div floor_mod
clipped = (refl, refl, refl)

-- from −1,000,000,002 on by 5, with two more: the first is past the range, and of −1,000,000,002 alone nothing is left
ranged : (counted_run (record { first = negsuc 1000000001; step = pos 5 }) (pos 2) ≡ record { first = negsuc 999999996; step = pos 5; many = 2 }) ×
    (counted_run (record { first = negsuc 1000000001; step = pos 5 }) (pos 0) ≡ empty)
unfolding floor_div floor_mod
ranged = (refl, refl)

-- p + q = 0 has p = −1 for q = 1, and −3 for the second after it; p − q = 0 has 1 and 3
turned : (rising (record { a = pos 1; b = pos 1; c = pos 0 }) (record { first = negsuc 0; step = pos 1 }) (pos 2) ≡ record { first = negsuc 2; step = pos 1 }) ×
    (rising (record { a = pos 1; b = negsuc 0; c = pos 0 }) (record { first = pos 1; step = pos 1 }) (pos 2) ≡ record { first = pos 1; step = pos 1 })
turned = (refl, refl)

-- the numbers −3 + 4·i that are 1 modulo 2: 4·i ≡ 4 (mod 2)
placed : places_in three odd ≡ record { u = pos 4; v = pos 4; d = pos 2 }
placed = refl
