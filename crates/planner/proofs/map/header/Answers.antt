-- `header` meets its contract: its fields stand behind each other.
use mathlib.Core.Path.{◌≡◌, refl, ◌∙◌}
use mathlib.Core.List.{List, ◌++◌}
use Prim.Native.Nat.{ℕ, ◌+◌, ◌*◌, ◌≤◌}
use native.Mathlib.Omega.{arith}
use lib.ListN.{length, replicate}
use Rattle.little_endian.specs.LittleEndian.{bytes_of}
use Rattle.little_endian.specs.Over.{over}
use Rattle.little_endian.proofs.LittleEndian.{length-bytes_of}
use Rattle.little_endian.proofs.ToBytes.{u16_bytes}
use Rattle.little_endian.proofs.Over.{over_same, Written, behind_it}
use Rattle.jobs.specs.MapLayout.{map_mark, map_header}
use Rattle.planner.proofs.map.header.Goals as goal

fields : (n m g : ℕ) (a l₁ l₂ l₃ : List ℕ) → 24 ≤ length a → l₁ ≡ over 0 ((((map_mark ++ bytes_of 2 n) ++ bytes_of 2 m) ++ bytes_of 4 24) ++ bytes_of 4 (24 + 4 * n)) a →
    l₂ ≡ over 16 (bytes_of 2 g) l₁ → l₃ ≡ over 18 (bytes_of 6 0) l₂ → l₃ ≡ over 0 (map_header n m g) a
unfolding map_header
fields n m g a l₁ l₂ l₃ h e₁ e₂ e₃ =
    let w₁ : Written 0 16 a ((((map_mark ++ bytes_of 2 n) ++ bytes_of 2 m) ++ bytes_of 4 24) ++ bytes_of 4 (24 + 4 * n)) l₁ = record { is = e₁; wide = refl } in
    let w₂ = behind_it w₁ (omega arith) (bytes_of 2 g) e₂ refl (length-bytes_of 2 g) in
    (behind_it w₂ (omega arith) (bytes_of 6 0) e₃ refl (length-bytes_of 6 0)).is

zeros : replicate 6 0 ≡ bytes_of 6 0
unfolding bytes_of
zeros = refl

pub returns : goal.returns
returns c = let g = c.args.g in
    fields c.args.shape.variables c.args.shape.equations g c.args.map.now _ _ _ c.requires.room
    c.begin.ensures
    (over_same 16 _ _ (c.to_le_bytes.ensures ∙ u16_bytes g) c.put_bytes.ensures)
    (over_same 18 _ _ zeros c.put_bytes-2.ensures)
