-- `get` meets its contract: from the highest byte down, what is read is the number in the bytes above.
use mathlib.Core.Path.{◌≡◌}
use mathlib.Core.List.{List}
use Prim.Native.Nat.{ℕ, ◌+◌, ◌-◌, ◌^◌, ◌<◌}
use Rattle.little_endian.specs.LittleEndian.{unsigned}
use Rattle.little_endian.proofs.get.Given as goal

-- x is the number in the last i bytes
pub record Read (s : List ℕ) (at width x i : ℕ) : Type 0 where
  pub is : x ≡ unsigned i s (at + (width - i))
  pub below : x < 256 ^ i

abbrev pub invariant-loop-i : goal.invariant-loop-i
invariant-loop-i l = Read l.s l.at l.width l.x l.i
