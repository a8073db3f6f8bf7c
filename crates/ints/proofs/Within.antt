-- The test `is_within`, and what it says.
use mathlib.Core.Path.{◌≡◌}
use mathlib.Core.Logic.{◌↔◌}
use mathlib.Core.Bool.{true}
use Prim.Native.Nat.{ℕ}
use lib.IntN.{ℤ, nat_abs}
use borrow.Author.Tests.{leb-true, le-leb}
use Rattle.ints.specs.Within.{Within, is_within}

pub Within-true : (n : ℕ) (x : ℤ) → (is_within n x ≡ true) ↔ Within n x
Within-true n x = (λ e. record { size = leb-true (nat_abs x) n e }, λ h. le-leb (nat_abs x) n h.size)
