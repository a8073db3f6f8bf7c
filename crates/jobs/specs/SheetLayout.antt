-- Document 01, "The sheet": its layout, byte for byte, over what is found of a job.
use mathlib.Core.List.{List, [], ◌∷◌, ◌++◌, flat_map}
use Rattle.std.specs.Prelude.{ℕ, ◌+◌, ◌*◌, length, ℤ}
use Rattle.lists.specs.Table.{table, up_to}
use Rattle.little_endian.specs.LittleEndian.{bytes_of, signed_bytes}
use Rattle.runs.specs.declared.Run.{Run}
use Rattle.jobs.specs.Findings.{Findings}

-- `ANS1`
abbrev pub answer_mark : List ℕ
answer_mark = 65 ∷ 78 ∷ 83 ∷ 49 ∷ []

-- "Header of 24 bytes: `ANS1`, n u16, groups g u16, offset of the count rows u32 (24), offset of the group rows u32
-- (24 + 16n), worth i64."
unfoldable pub sheet_header : ℕ → ℕ → ℤ → List ℕ
unfolding bytes_of signed_bytes
sheet_header n g worth = answer_mark ++ bytes_of 2 n ++ bytes_of 2 g ++ bytes_of 4 24 ++ bytes_of 4 (24 + 16 * n) ++ signed_bytes 8 worth

-- "Count row, 16 bytes: number i32, base i32, step i32, group u16, zero u16."
unfoldable pub sheet_variable : ℤ → Run → ℕ → List ℕ
unfolding bytes_of signed_bytes
sheet_variable x r group = signed_bytes 4 x ++ signed_bytes 4 r.first ++ signed_bytes 4 r.step ++ bytes_of 2 group ++ bytes_of 2 0

-- "16 bytes each: fits u32, chosen k u32, gain i64"
unfoldable pub sheet_group : ℕ → ℕ → ℤ → List ℕ
unfolding bytes_of signed_bytes
sheet_group many k gain = bytes_of 4 many ++ bytes_of 4 k ++ signed_bytes 8 gain

-- the rows of n variables, and those of the groups with these lowest variables
unfoldable pub sheet_variables : (ℕ → ℤ) → (ℕ → Run) → (ℕ → ℕ) → ℕ → List ℕ
unfolding table flat_map sheet_variable
sheet_variables x r group n = flat_map (λ i. sheet_variable (x i) (r i) (group i)) (up_to n)

unfoldable pub sheet_groups : (ℕ → Run) → (ℕ → ℕ) → (ℕ → ℤ) → List ℕ → List ℕ
unfolding flat_map sheet_group
sheet_groups r k gain leads = flat_map (λ l. sheet_group (r l).many (k l) (gain l)) leads

-- all of it
unfoldable pub sheet_of : Findings → List ℕ
unfolding sheet_header sheet_variables sheet_groups
sheet_of f =
    sheet_header f.n (length f.leads) f.objective
    ++ sheet_variables f.assigned f.run f.component f.n
    ++ sheet_groups f.run f.chosen f.slope f.leads
