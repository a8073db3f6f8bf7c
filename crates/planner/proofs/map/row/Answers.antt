-- `row` meets its contract: its fields stand behind each other.
use mathlib.Core.Path.{◌≡◌, refl, ◌∙◌}
use mathlib.Core.List.{List}
use Prim.Native.Nat.{ℕ, ◌+◌, ◌≤◌}
use native.Mathlib.Omega.{arith}
use lib.ListN.{length}
use Rattle.little_endian.specs.LittleEndian.{bytes_of}
use Rattle.little_endian.specs.Over.{over}
use Rattle.little_endian.proofs.LittleEndian.{length-bytes_of}
use Rattle.little_endian.proofs.ToBytes.{u16_bytes}
use Rattle.little_endian.proofs.Over.{over_same, Written, behind_it}
use Rattle.jobs.specs.MapLayout.{map_row}
use Rattle.planner.proofs.map.row.Goals as goal

fields : (at x y : ℕ) (a l₁ l₂ : List ℕ) → at + 4 ≤ length a → l₁ ≡ over at (bytes_of 2 x) a → l₂ ≡ over (at + 2) (bytes_of 2 y) l₁ → l₂ ≡ over at (map_row x y) a
unfolding map_row
fields at x y a l₁ l₂ h e₁ e₂ =
    let w₁ : Written at 2 a (bytes_of 2 x) l₁ = record { is = e₁; wide = length-bytes_of 2 x } in
    (behind_it w₁ (omega arith) (bytes_of 2 y) e₂ refl (length-bytes_of 2 y)).is

pub returns : goal.returns
returns c = let x = c.args in
    fields x.at x.group x.second x.map.now _ _ c.requires
    (over_same x.at _ _ (c.to_le_bytes.ensures ∙ u16_bytes x.group) c.put_bytes.ensures)
    (over_same (x.at + 2) _ _ (c.to_le_bytes-2.ensures ∙ u16_bytes x.second) c.put_bytes-2.ensures)
