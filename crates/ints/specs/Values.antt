-- The definitions at worked values, computed.
use Rattle.std.specs.Prelude.{◌≡◌, refl, pos, negsuc}
use Rattle.ints.specs.Floor.{floor_div, floor_mod, ceil_div}
use Rattle.reasons.specs.Answer.{gives, refused}
use Rattle.ints.specs.Division.{division}

-- ---- floor division: document 01 has −7 by 2 is −4, 7 by −2 is −4 and −8 by 2 is −4
floors : (floor_div (negsuc 6) (pos 2) ≡ negsuc 3) × (floor_div (pos 7) (negsuc 1) ≡ negsuc 3) × (floor_div (negsuc 7) (pos 2) ≡ negsuc 3)
unfolding floor_div
floors = (refl, refl, refl)

-- −7 by −2
both_negative : floor_div (negsuc 6) (negsuc 1) ≡ pos 3
unfolding floor_div
both_negative = refl

-- −7 is 2·(−4) + 1, 7 is −2·(−4) − 1, and −7 is −2·3 − 1
remainders : (floor_mod (negsuc 6) (pos 2) ≡ pos 1) × (floor_mod (pos 7) (negsuc 1) ≡ negsuc 0) × (floor_mod (negsuc 6) (negsuc 1) ≡ negsuc 0)
unfolding floor_mod floor_div
remainders = (refl, refl, refl)

-- −7 by 2, 7 by 2 and 7 by −2, rounded up
ceilings : (ceil_div (negsuc 6) (pos 2) ≡ negsuc 2) × (ceil_div (pos 7) (pos 2) ≡ pos 4) × (ceil_div (pos 7) (negsuc 1) ≡ negsuc 2)
unfolding ceil_div floor_div
ceilings = (refl, refl, refl)

-- ---- the division working: at a limit, past it, and by 0
at_limit : division (pos 4000000000000000000) (negsuc 0) ≡ gives (negsuc 3999999999999999999)
unfolding floor_div
at_limit = refl

past_limit : (division (pos 4000000000000000001) (pos 1) ≡ refused 9 0) × (division (pos 1) (negsuc 4000000000000000000) ≡ refused 9 0)
past_limit = (refl, refl)

by_zero : division (pos 1) (pos 0) ≡ refused 9 0
by_zero = refl
