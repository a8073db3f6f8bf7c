-- `put` meets its contract: byte for byte.
use mathlib.Core.Path.{◌≡◌}
use mathlib.Core.List.{List}
use Prim.Native.Nat.{ℕ}
use Rattle.little_endian.specs.LittleEndian.{bytes_of}
use Rattle.little_endian.specs.Over.{over}
use Rattle.little_endian.proofs.LittleEndian.{shifted}
use Rattle.little_endian.proofs.put.Given as goal

-- i bytes of x stand in the area, and rest is what is left of it
pub record Put (a₀ a : List ℕ) (at x rest i : ℕ) : Type 0 where
  pub left : rest ≡ shifted i x
  pub is : a ≡ over at (bytes_of i x) a₀

abbrev pub invariant-loop-i : goal.invariant-loop-i
invariant-loop-i l = Put l.initial.area l.area l.at l.x l.rest l.i
