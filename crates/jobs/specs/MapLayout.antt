-- Document 02, #101: the layout of the map, byte for byte, over how a job hangs together.
use mathlib.Core.List.{List, [], ◌∷◌, ◌++◌, flat_map}
use Rattle.std.specs.Prelude.{ℕ, ◌+◌, ◌*◌}
use Rattle.lists.specs.Table.{table, up_to}
use Rattle.little_endian.specs.LittleEndian.{bytes_of}
use Rattle.jobs.specs.Structure.{Structure}

-- `MAP1`
abbrev pub map_mark : List ℕ
map_mark = 77 ∷ 65 ∷ 80 ∷ 49 ∷ []

-- "a 24-byte header: `MAP1`, n u16, m u16, offset of the count rows u32 (24), offset of the equation rows u32 (24 + 4n), g u16,
-- zeros"
unfoldable pub map_header : ℕ → ℕ → ℕ → List ℕ
unfolding bytes_of
map_header n m g = map_mark ++ bytes_of 2 n ++ bytes_of 2 m ++ bytes_of 4 24 ++ bytes_of 4 (24 + 4 * n) ++ bytes_of 2 g ++ bytes_of 6 0

-- a row has two numbers, u16 both
unfoldable pub map_row : ℕ → ℕ → List ℕ
unfolding bytes_of
map_row x y = bytes_of 2 x ++ bytes_of 2 y

unfoldable pub map_rows : (ℕ → ℕ) → (ℕ → ℕ) → ℕ → List ℕ
unfolding table flat_map map_row
map_rows x y n = flat_map (λ i. map_row (x i) (y i)) (up_to n)

-- "A count row has group u16 and how many equations name the count u16. An equation row has group u16 and kind u16."
unfoldable pub map_of : Structure → List ℕ
unfolding map_header map_rows
map_of t =
    map_header t.n t.m t.components
    ++ map_rows t.component t.degree t.n
    ++ map_rows t.equation_component t.kind t.m
