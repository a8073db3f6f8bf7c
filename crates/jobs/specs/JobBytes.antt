-- The bytes of small jobs and maps, for vectors.
use Rattle.std.specs.Prelude.{List, [], ◌∷◌, ◌++◌, ℕ, ◌-◌}

-- four bytes of k and of −k, for k from 1 to 255; those of 0 are `plus 0`
abbrev pub plus : ℕ → List ℕ
plus k = k ∷ 0 ∷ 0 ∷ 0 ∷ []

abbrev pub minus : ℕ → List ℕ
minus k = (256 - k) ∷ 255 ∷ 255 ∷ 255 ∷ []

-- n counts and m equations; where the equation rows begin, and where they end. All of them fit one byte, and so do left, right
-- and c below.
abbrev pub header : ℕ → ℕ → ℕ → ℕ → List ℕ
header n m rows whole = 70 ∷ 73 ∷ 84 ∷ 49 ∷ n ∷ 0 ∷ m ∷ 0 ∷ 24 ∷ 0 ∷ 0 ∷ 0 ∷ rows ∷ 0 ∷ 0 ∷ 0 ∷ whole ∷ 0 ∷ 0 ∷ 0 ∷ 0 ∷ 0 ∷ 0 ∷ 0 ∷ []

abbrev pub count : List ℕ → List ℕ → List ℕ → List ℕ
count low high weight = low ++ high ++ weight

-- 0..high, without weight
abbrev pub plain : ℕ → List ℕ
plain high = count (plus 0) (plus high) (plus 0)

abbrev pub equation_bytes : ℕ → ℕ → List ℕ → List ℕ → ℕ → List ℕ
equation_bytes left right a b c = left ∷ 0 ∷ right ∷ 0 ∷ [] ++ a ++ b ++ c ∷ 0 ∷ 0 ∷ 0 ∷ 0 ∷ 0 ∷ 0 ∷ 0 ∷ []

-- of an amendment: its serial number, what it supersedes, its count, and its bounds
abbrev pub amendment_bytes : ℕ → ℕ → ℕ → List ℕ → List ℕ → List ℕ
amendment_bytes serial supersedes variable low high = plus serial ++ plus supersedes ++ variable ∷ 0 ∷ 0 ∷ 0 ∷ [] ++ low ++ high

-- left + right = c and left − right = c
abbrev pub total : ℕ → ℕ → ℕ → List ℕ
total left right c = equation_bytes left right (plus 1) (plus 1) c

abbrev pub difference : ℕ → ℕ → ℕ → List ℕ
difference left right c = equation_bytes left right (plus 1) (minus 1) c

-- of a map: n counts and m equations, where the equation rows begin, and g groups; and a row's two numbers
abbrev pub map_head : ℕ → ℕ → ℕ → ℕ → List ℕ
map_head n m rows g = 77 ∷ 65 ∷ 80 ∷ 49 ∷ n ∷ 0 ∷ m ∷ 0 ∷ 24 ∷ 0 ∷ 0 ∷ 0 ∷ rows ∷ 0 ∷ 0 ∷ 0 ∷ g ∷ 0 ∷ 0 ∷ 0 ∷ 0 ∷ 0 ∷ 0 ∷ 0 ∷ []

abbrev pub pair : ℕ → ℕ → List ℕ
pair x y = x ∷ 0 ∷ y ∷ 0 ∷ []
