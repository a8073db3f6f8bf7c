-- Request #103: what is promised of the factor, and of an end at the first remainder that is 0 or 1 (proofs/FactorIsGcd.antt and
-- proofs/EarlyEnd.antt prove it).
use Rattle.std.specs.Prelude.{◌≡◌, ◌↔◌, ℕ, suc, ◌≤◌, ℤ, pos, nat_abs}
use Rattle.ints.specs.Divides.{IsGcd}
use Rattle.euclid.specs.Remainders.{remainders, end_of, factor, divisions, early_factor, early_divisions, early_end}

-- the factor of a and b is their greatest common divisor, and no other number is
abbrev pub FactorIsGcd : ℤ → ℤ → Type 0
FactorIsGcd a b = (g : ℤ) → IsGcd a b g ↔ (g ≡ pos (factor (nat_abs a) (nat_abs b)))

-- an early end, of any a by a b that is not 0
pub record EarlyEnd (a b : ℕ) : Type 0 where
  -- the remainders do go down to 0, and the early end is at 0 or 1
  pub down_to_0 : end_of b (remainders a b) ≡ 0
  pub at_0_or_1 : early_end a b ≤ 1
  -- going on to 0 finds the same factor
  pub same_factor : factor a b ≡ early_factor a b
  -- with one division more exactly where the early end is at 1, and as many exactly where it is at 0
  pub one_more : (divisions a b ≡ suc (early_divisions a b)) ↔ (early_end a b ≡ 1)
  pub as_many : (divisions a b ≡ early_divisions a b) ↔ (early_end a b ≡ 0)
