-- What the entry answers: the factor and the count for two numbers of a coefficient's size.
use mathlib.Core.Path.{◌≡◌, sym, ◌∙◌, ap}
use mathlib.Core.Logic.{◌≢◌}
use Prim.Native.Nat.{ℕ}
use Rattle.reasons.specs.Answer.{gives}
use Rattle.reasons.proofs.Answers.{and_iff, gives_where}
use Rattle.ints.proofs.{ℤ, pos, nat_abs}
use Rattle.ints.proofs.Order.{abs_zero, abs_above}
use Rattle.euclid.specs.Remainders.{early_factor, early_divisions}
use Rattle.euclid.specs.Coefficient.{Coefficient}
use Rattle.euclid.specs.CommonDivisor.{common_divisor}
use Rattle.euclid.specs.Factor.{IsFactor}
use Rattle.euclid.proofs.FactorIsGcd.{factor_is_gcd}
use Rattle.euclid.proofs.EarlyEnd.{early_end_lem}
use Rattle.euclid.proofs.Coefficient.{Coefficient-iff}

module _ (a b : ℤ) where
  -- n divisions
  pub given : {g x : ℤ} {n : ℕ} → Coefficient a → Coefficient b → IsFactor a (pos (nat_abs b)) g x → n ≡ early_divisions (nat_abs a) (nat_abs b) → gives (g, n) ≡ common_divisor a b
  given {g} {x} {n} h k f e = (λ i. gives (is i, e i)) ∙ sym (gives_where (and_iff (Coefficient-iff a) (Coefficient-iff b)) (pos (early_factor (nat_abs a) (nat_abs b)), early_divisions (nat_abs a) (nat_abs b)) (h, k))
    where
      not_zero : pos (nat_abs b) ≢ pos 0
      not_zero z = k.not_zero (abs_zero b (ap nat_abs z))

      is : g ≡ pos (early_factor (nat_abs a) (nat_abs b))
      is = (factor_is_gcd a (pos (nat_abs b)) not_zero g).0 f.gcd ∙ ap pos (early_end_lem (nat_abs a) (nat_abs b) (abs_above k.not_zero)).same_factor
