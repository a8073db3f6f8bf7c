-- Which member is chosen, by the slope: the last where it is 0 or more, and the first elsewhere.
use mathlib.Core.Path.{◌≡◌}
use Prim.Native.Nat.{ℕ, ◌-◌}
use Rattle.ints.proofs.{ℤ, pos, ◌≤ℤ◌, ◌<ℤ◌}
use Rattle.ints.proofs.Order.{le_true, le_false}
use Rattle.families.specs.Family.{choice}

pub choice_up : (g : ℤ) (n : ℕ) → pos 0 ≤ℤ g → choice g n ≡ n - 1
choice_up g n h = rw ((le_true (pos 0) g).1 h)

pub choice_down : (g : ℤ) (n : ℕ) → g <ℤ pos 0 → choice g n ≡ 0
choice_down g n h = rw ((le_false (pos 0) g).1 h)

pub choice_level : (g : ℤ) (n : ℕ) → g ≡ pos 0 → choice g n ≡ n - 1
choice_level g n e = rw e
