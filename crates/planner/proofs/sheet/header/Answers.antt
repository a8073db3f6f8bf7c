-- `header` meets its contract: its fields stand behind each other.
use mathlib.Core.Path.{◌≡◌, refl}
use Prim.Native.Nat.{ℕ, ◌+◌, ◌*◌, ◌≤◌}
use mathlib.Core.List.{◌++◌}
use lib.ListN.{length}
use Rattle.ints.proofs.{ℤ, List, arith}
use Rattle.little_endian.specs.LittleEndian.{bytes_of, signed_bytes}
use Rattle.jobs.specs.SheetLayout.{answer_mark, sheet_header}
use Rattle.little_endian.specs.Over.{over}
use Rattle.little_endian.proofs.TwosComplement.{length-signed_bytes}
use borrow.Author.Rules.{rules}
use Rattle.solver.specs.StateArrays.{label_in}
use Rattle.solver.proofs.LowestVariables.{leads_length}
use Rattle.little_endian.proofs.ToBytes.{i64_bytes}
use Rattle.little_endian.proofs.Over.{over_same, Written, behind_it}
use Rattle.planner.proofs.sheet.header.Goals as goal

-- what every header begins with, and the worth
row : (n g : ℕ) (objective : ℤ) (a l₁ l₂ : List ℕ) → 24 ≤ length a → l₁ ≡ over 0 ((((answer_mark ++ bytes_of 2 n) ++ bytes_of 2 g) ++ bytes_of 4 24) ++ bytes_of 4 (24 + 16 * n)) a →
    l₂ ≡ over 16 (signed_bytes 8 objective) l₁ → l₂ ≡ over 0 (sheet_header n g objective) a
unfolding sheet_header
row n g objective a l₁ l₂ h e₁ e₂ =
    let w₁ : Written 0 16 a ((((answer_mark ++ bytes_of 2 n) ++ bytes_of 2 g) ++ bytes_of 4 24) ++ bytes_of 4 (24 + 16 * n)) l₁ = record { is = e₁; wide = refl } in
    (behind_it w₁ (omega arith) (signed_bytes 8 objective) e₂ refl (length-signed_bytes 8 objective)).is

pub overflow_cast-components : goal.overflow_cast-components
overflow_cast-components c = let f = c.args.chosen.families in omega (arith, f.counted, leads_length (label_in f.state.now.labels) f.variables, f.few)

pub returns : goal.returns
returns c = let f = c.args.chosen.families in
    row f.variables f.components c.args.chosen.worth c.args.area.now _ _ c.requires
    c.begin.ensures
    (over_same 16 _ _ (i64_bytes (search rules) c.to_le_bytes.ensures) c.put_bytes.ensures)
