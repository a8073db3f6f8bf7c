-- The test of a coefficient's size, and what it says.
use mathlib.Core.Path.{◌≡◌}
use mathlib.Core.Logic.Iff
use mathlib.Core.Logic.{◌↔◌}
use mathlib.Core.Bool.{true}
use lib.IntN.{ℤ, pos}
use Rattle.reasons.proofs.Answers.{and_iff}
use Rattle.ints.proofs.Equal.{other_true}
use Rattle.ints.proofs.Within.{Within-true}
use Rattle.euclid.specs.Coefficient.{Coefficient, is_coefficient}

pub Coefficient-iff : (x : ℤ) → (is_coefficient x ≡ true) ↔ Coefficient x
Coefficient-iff x = Iff.trans (and_iff (Within-true 1000000 x) (other_true x (pos 0))) (
  λ p. record { size = p.0; not_zero = p.1 },
  λ k. (k.size, k.not_zero),
)
