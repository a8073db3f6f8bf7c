-- Document 01, "The job": "Bytes are little-endian; i32 and i64 are signed, u16 and u32 unsigned." Read and written.
use Rattle.std.specs.Prelude.{cond, List, [], ◌∷◌, ℕ, zero, suc, ◌+◌, ◌*◌, ◌/◌, ◌%◌, ◌^◌, ltb, get_or, ℤ, pos, nat_abs, ◌-ℤ◌}
use Rattle.ints.specs.Floor.{floor_div, floor_mod}

-- the number that k bytes hold from a place on, the lowest byte first; past the end a byte reads as 0
unfoldable pub unsigned : ℕ → List ℕ → ℕ → ℕ
unsigned zero s at = 0
unsigned (suc k) s at = get_or s at 0 + 256 * unsigned k s (at + 1)

-- the same k bytes in two's complement: from half of 256ᵏ on, 256ᵏ less
abbrev pub twos_complement : ℕ → ℕ → ℤ
twos_complement k x = cond (ltb (2 * x) (256 ^ k)) (pos x) (pos x -ℤ pos (256 ^ k))

abbrev pub u16 : List ℕ → ℕ → ℕ
u16 s at = unsigned 2 s at

abbrev pub u32 : List ℕ → ℕ → ℕ
u32 s at = unsigned 4 s at

abbrev pub i32 : List ℕ → ℕ → ℤ
i32 s at = twos_complement 4 (unsigned 4 s at)

abbrev pub i64 : List ℕ → ℕ → ℤ
i64 s at = twos_complement 8 (unsigned 8 s at)

-- k bytes of a number, the lowest first
unfoldable pub bytes_of : ℕ → ℕ → List ℕ
bytes_of zero x = []
bytes_of (suc k) x = (x % 256) ∷ bytes_of k (x / 256)

-- and of a whole number: those of its residue modulo 256ᵏ (proofs/TwosComplement.antt: what is written reads back)
unfoldable pub signed_bytes : ℕ → ℤ → List ℕ
unfolding bytes_of floor_mod floor_div
signed_bytes k x = bytes_of k (nat_abs (floor_mod x (pos (256 ^ k))))
