-- `variable` meets its contract: its fields stand behind each other.
use mathlib.Core.Path.{◌≡◌, refl, sym, ◌∙◌, subst}
use Prim.Native.Nat.{ℕ, ◌+◌, ◌≤◌, ◌<◌}
use borrow.Author.Rules.{rules}
use mir.Syntax.{w32}
use mir.Val.{SFits}
use lib.ListN.{length, replicate}
use Rattle.ints.specs.Within.{Within}
use Rattle.ints.proofs.{ℤ, List, [], ◌∷◌, arith, lin, signed}
use Rattle.ints.proofs.Signed.{held}
use Rattle.runs.specs.declared.Run.{Run}
use Rattle.little_endian.specs.LittleEndian.{bytes_of, signed_bytes}
use Rattle.jobs.specs.SheetLayout.{sheet_variable}
use Rattle.families.proofs.FamilySizes.{first-Within, step-Within}
use Rattle.little_endian.specs.Over.{over}
use Rattle.little_endian.proofs.LittleEndian.{length-bytes_of}
use Rattle.little_endian.proofs.TwosComplement.{length-signed_bytes}
use Rattle.little_endian.proofs.ToBytes.{u16_bytes, cast_bytes}
use Rattle.little_endian.proofs.Over.{over_same, Written, behind_it}
use Rattle.solver.proofs.In64Bits.{held-Within}
use Rattle.planner.proofs.sheet.variable.Goals as goal

-- the five fields
row : (at : ℕ) (number : ℤ) (r : Run) (group : ℕ) (a l₁ l₂ l₃ l₄ l₅ : List ℕ) → at + 16 ≤ length a →
    l₁ ≡ over at (signed_bytes 4 number) a → l₂ ≡ over (at + 4) (signed_bytes 4 r.first) l₁ → l₃ ≡ over (at + 8) (signed_bytes 4 r.step) l₂ →
    l₄ ≡ over (at + 12) (bytes_of 2 group) l₃ → l₅ ≡ over (at + 14) (bytes_of 2 0) l₄ → l₅ ≡ over at (sheet_variable number r group) a
unfolding sheet_variable
row at number r group a l₁ l₂ l₃ l₄ l₅ h e₁ e₂ e₃ e₄ e₅ =
    let w₁ : Written at 4 a (signed_bytes 4 number) l₁ = record { is = e₁; wide = length-signed_bytes 4 number } in
    let w₂ = behind_it w₁ (omega arith) (signed_bytes 4 r.first) e₂ refl (length-signed_bytes 4 r.first) in
    let w₃ = behind_it w₂ (omega arith) (signed_bytes 4 r.step) e₃ refl (length-signed_bytes 4 r.step) in
    let w₄ = behind_it w₃ (omega arith) (bytes_of 2 group) e₄ refl (length-bytes_of 2 group) in
    (behind_it w₄ (omega arith) (bytes_of 2 0) e₅ refl (length-bytes_of 2 0)).is

zeros : replicate 2 0 ≡ bytes_of 2 0
unfolding bytes_of
zeros = refl

-- a local of 64 bits that is in range fits 32
held_fits : {m : ℕ} {x : ℤ} → m < 2147483648 → Within m x → SFits w32 (held x)
held_fits {m} {x} l h = subst (SFits w32) (sym (held-Within (omega (arith, l)) h)) (lin (x ∷ []) h (search signed depth 20) (omega (arith, l)))

pub overflow_cast-run : goal.overflow_cast-run
overflow_cast-run c = held_fits (omega arith) (first-Within c.requires.family_run)

pub overflow_cast-run-2 : goal.overflow_cast-run-2
overflow_cast-run-2 c = held_fits (omega arith) (step-Within c.requires.family_run)

pub returns : goal.returns
returns c = let x = c.args in
    let f = c.requires.family_run in
    row x.at x.number x.run x.group x.area.now _ _ _ _ _ c.requires.room
    (over_same x.at _ _ (cast_bytes c.ranges.number c.requires.small_number (omega arith) c.to_le_bytes.ensures) c.put_bytes.ensures)
    (over_same (x.at + 4) _ _ (cast_bytes (search rules) (first-Within f) (omega arith) c.to_le_bytes-2.ensures) c.put_bytes-2.ensures)
    (over_same (x.at + 8) _ _ (cast_bytes (search rules) (step-Within f) (omega arith) c.to_le_bytes-3.ensures) c.put_bytes-3.ensures)
    (over_same (x.at + 12) _ _ (c.to_le_bytes-4.ensures ∙ u16_bytes x.group) c.put_bytes-4.ensures)
    (over_same (x.at + 14) _ _ zeros c.put_bytes-5.ensures)
