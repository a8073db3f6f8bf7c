-- The definitions at worked values, computed.
use Rattle.std.specs.Prelude.{◌≡◌, refl, [], ◌∷◌, pos, negsuc}
use Rattle.reasons.specs.Answer.{gives, refused}
use Rattle.euclid.specs.Remainders.{first_remainders, remainders, early, found, end_of, factor, divisions, early_factor, early_divisions, early_end}
use Rattle.euclid.specs.CommonDivisor.{common_divisor}

-- 48 by 18 leaves 12, 18 by 12 leaves 6, 12 by 6 leaves 0; 18 by 48 leaves 18 first. 17 by 12 leaves 5, 2, 1, 0
listed : (remainders 48 18 ≡ 12 ∷ 6 ∷ 0 ∷ []) × (remainders 18 48 ≡ 18 ∷ 12 ∷ 6 ∷ 0 ∷ []) × (remainders 17 12 ≡ 5 ∷ 2 ∷ 1 ∷ 0 ∷ [])
unfolding remainders first_remainders
listed = (refl, refl, refl)

ended : (early (12 ∷ 6 ∷ 0 ∷ []) ≡ 12 ∷ 6 ∷ 0 ∷ []) × (early (5 ∷ 2 ∷ 1 ∷ 0 ∷ []) ≡ 5 ∷ 2 ∷ 1 ∷ [])
unfolding early
ended = (refl, refl)

-- 6 in three divisions; 1 in four, or in three
of_48 : (factor 48 18 ≡ 6) × (divisions 48 18 ≡ 3) × (early_factor 48 18 ≡ 6) × (early_divisions 48 18 ≡ 3) × (early_end 48 18 ≡ 0)
unfolding remainders first_remainders early found end_of
of_48 = (refl, refl, refl, refl, refl)

of_17 : (factor 17 12 ≡ 1) × (divisions 17 12 ≡ 4) × (early_factor 17 12 ≡ 1) × (early_divisions 17 12 ≡ 3) × (early_end 17 12 ≡ 1)
unfolding remainders first_remainders early found end_of
of_17 = (refl, refl, refl, refl, refl)

-- 1 by 7 leaves 1, so the early end is there, after one division; 7 by 1 leaves 0; two equal numbers leave 0
with_1 : (remainders 1 7 ≡ 1 ∷ 0 ∷ []) × (early_divisions 1 7 ≡ 1) × (early_end 1 7 ≡ 1) × (early_factor 1 7 ≡ 1)
unfolding remainders first_remainders early found end_of
with_1 = (refl, refl, refl, refl)

by_1 : (remainders 7 1 ≡ 0 ∷ []) × (early_divisions 7 1 ≡ 1) × (early_end 7 1 ≡ 0) × (early_factor 7 1 ≡ 1)
unfolding remainders first_remainders early found end_of
by_1 = (refl, refl, refl, refl)

equal : (remainders 7 7 ≡ 0 ∷ []) × (early_factor 7 7 ≡ 7) × (early_divisions 7 7 ≡ 1)
unfolding remainders first_remainders early found
equal = (refl, refl, refl)

-- the entry, with either sign; at the limit, past it, and at 0
answered : (common_divisor (negsuc 47) (pos 18) ≡ gives (pos 6, 3)) × (common_divisor (pos 17) (negsuc 11) ≡ gives (pos 1, 3)) ×
    (common_divisor (pos 1000000) (negsuc 999999) ≡ gives (pos 1000000, 1))
unfolding remainders first_remainders early found
answered = (refl, refl, refl)

turned_away : (common_divisor (pos 0) (pos 5) ≡ refused 9 0) × (common_divisor (pos 5) (pos 0) ≡ refused 9 0) ×
    (common_divisor (pos 1000001) (pos 5) ≡ refused 9 0) × (common_divisor (pos 5) (negsuc 1000000) ≡ refused 9 0)
turned_away = (refl, refl, refl, refl)
