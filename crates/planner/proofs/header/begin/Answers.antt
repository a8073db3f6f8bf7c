-- `begin` meets its contract: its fields stand behind each other.
use mathlib.Core.Path.{◌≡◌, refl, ◌∙◌}
use mathlib.Core.List.{List, ◌++◌}
use Prim.Native.Nat.{ℕ, ◌≤◌}
use native.Mathlib.Omega.{arith}
use lib.ListN.{length}
use Rattle.little_endian.specs.LittleEndian.{bytes_of}
use Rattle.little_endian.specs.Over.{over}
use Rattle.little_endian.proofs.LittleEndian.{length-bytes_of}
use Rattle.little_endian.proofs.ToBytes.{u16_bytes, u32_bytes}
use Rattle.little_endian.proofs.Over.{over_same, Written, behind_it}
use borrow.Author.Rules.{rules}
use Rattle.planner.proofs.header.begin.Goals as goal

fields : (n m rows : ℕ) (mark a l₁ l₂ l₃ l₄ l₅ : List ℕ) → 16 ≤ length a → length mark ≡ 4 → l₁ ≡ over 0 mark a → l₂ ≡ over 4 (bytes_of 2 n) l₁ → l₃ ≡ over 6 (bytes_of 2 m) l₂ →
    l₄ ≡ over 8 (bytes_of 4 24) l₃ → l₅ ≡ over 12 (bytes_of 4 rows) l₄ → l₅ ≡ over 0 ((((mark ++ bytes_of 2 n) ++ bytes_of 2 m) ++ bytes_of 4 24) ++ bytes_of 4 rows) a
fields n m rows mark a l₁ l₂ l₃ l₄ l₅ h w e₁ e₂ e₃ e₄ e₅ =
    let w₁ : Written 0 4 a mark l₁ = record { is = e₁; wide = w } in
    let w₂ = behind_it w₁ (omega (arith, h)) (bytes_of 2 n) e₂ refl (length-bytes_of 2 n) in
    let w₃ = behind_it w₂ (omega (arith, h)) (bytes_of 2 m) e₃ refl (length-bytes_of 2 m) in
    let w₄ = behind_it w₃ (omega (arith, h)) (bytes_of 4 24) e₄ refl (length-bytes_of 4 24) in
    (behind_it w₄ (omega (arith, h)) (bytes_of 4 rows) e₅ refl (length-bytes_of 4 rows)).is

pub returns : goal.returns
returns c = let n = c.args.first in
    let m = c.args.second in
    fields n m c.args.rows c.args.mark.now c.args.area.now _ _ _ _ _ c.requires (search rules)
    c.put_bytes.ensures
    (over_same 4 _ _ (c.to_le_bytes.ensures ∙ u16_bytes n) c.put_bytes-2.ensures)
    (over_same 6 _ _ (c.to_le_bytes-2.ensures ∙ u16_bytes m) c.put_bytes-3.ensures)
    (over_same 8 _ _ (c.to_le_bytes-3.ensures ∙ u32_bytes 24) c.put_bytes-4.ensures)
    (over_same 12 _ _ (c.to_le_bytes-4.ensures ∙ u32_bytes c.args.rows) c.put_bytes-5.ensures)
