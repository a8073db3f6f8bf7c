-- Division rounded down: document 01, "the quotient rounded towards the lower whole number, also when either sign is
-- negative". n and d may have either sign; d is not 0 (at 0 there is a value too, which no law and no contract uses).
-- proofs/Floor.antt has the laws: they, not this text, are what other proofs go by.
use Rattle.std.specs.Prelude.{ℤ, pos, negsuc, neg_ℤ, ◌-ℤ◌, ◌*ℤ◌, suc}
use Rattle.std.specs.Int.Signed.{shr_z}

-- ⌊ n / d ⌋; the kit's shr_z rounds down for a natural divisor, and n / −d is −n / d
unfoldable pub floor_div : ℤ → ℤ → ℤ
floor_div n (pos d) = shr_z n d
floor_div n (negsuc d) = shr_z (neg_ℤ n) (suc d)

-- what is left of n; it has the divisor's sign, or is 0
unfoldable pub floor_mod : ℤ → ℤ → ℤ
floor_mod n d = n -ℤ d *ℤ floor_div n d

-- ⌈ n / d ⌉
unfoldable pub ceil_div : ℤ → ℤ → ℤ
ceil_div n d = neg_ℤ (floor_div (neg_ℤ n) d)
