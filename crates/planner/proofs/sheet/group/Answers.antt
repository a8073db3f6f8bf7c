-- `group` meets its contract: its fields stand behind each other.
use mathlib.Core.Path.{◌≡◌, refl, ◌∙◌, ap}
use Prim.Native.Nat.{ℕ, ◌+◌, ◌≤◌}
use mir.Facts.{to_z-of_z}
use lib.ListN.{length}
use Rattle.ints.proofs.{ℤ, List, arith}
use Rattle.little_endian.specs.LittleEndian.{bytes_of, signed_bytes}
use Rattle.families.specs.Family.{choice}
use Rattle.jobs.specs.SheetLayout.{sheet_group}
use Rattle.little_endian.specs.Over.{over}
use Rattle.little_endian.proofs.LittleEndian.{length-bytes_of}
use Rattle.little_endian.proofs.TwosComplement.{length-signed_bytes}
use Rattle.little_endian.proofs.ToBytes.{u32_bytes, i64_bytes}
use Rattle.little_endian.proofs.Over.{over_same, Written, behind_it}
use Rattle.planner.proofs.sheet.group.Goals as goal

-- the three fields
row : (at many k : ℕ) (slope : ℤ) (a l₁ l₂ l₃ : List ℕ) → at + 16 ≤ length a → l₁ ≡ over at (bytes_of 4 many) a → l₂ ≡ over (at + 4) (bytes_of 4 k) l₁ →
    l₃ ≡ over (at + 8) (signed_bytes 8 slope) l₂ → l₃ ≡ over at (sheet_group many k slope) a
unfolding sheet_group
row at many k slope a l₁ l₂ l₃ h e₁ e₂ e₃ =
    let w₁ : Written at 4 a (bytes_of 4 many) l₁ = record { is = e₁; wide = length-bytes_of 4 many } in
    let w₂ = behind_it w₁ (omega arith) (bytes_of 4 k) e₂ refl (length-bytes_of 4 k) in
    (behind_it w₂ (omega arith) (signed_bytes 8 slope) e₃ refl (length-signed_bytes 8 slope)).is

pub returns : goal.returns
returns c = let x = c.args in
    row x.at x.many (choice x.slope x.many) x.slope x.area.now _ _ _ c.requires.room
    (over_same x.at _ _ (c.to_le_bytes.ensures ∙ u32_bytes x.many) c.put_bytes.ensures)
    (over_same (x.at + 4) _ _ (c.to_le_bytes-2.ensures ∙ u32_bytes c.choice.result ∙ ap (bytes_of 4) (c.choice.ensures ∙ ap (λ g. choice g x.many) (to_z-of_z c.ranges.slope))) c.put_bytes-2.ensures)
    (over_same (x.at + 8) _ _ (i64_bytes c.ranges.slope c.to_le_bytes-3.ensures) c.put_bytes-3.ensures)
