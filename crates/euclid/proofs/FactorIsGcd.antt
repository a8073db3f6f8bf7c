-- The factor is the greatest common divisor, and no other number is (`factor_is_gcd`).
use mathlib.Core.Path.{◌≡◌, refl, sym, ◌∙◌, ap, subst}
use mathlib.Core.Logic.{◌≢◌}
use mathlib.Core.List.{◌∷◌}
use Prim.Native.Nat.{ℕ, zero, suc, ◌%◌, ◌≤◌, ◌<◌}
use native.Mathlib.Nat.{mod-lt, zero-lt-suc}
use Rattle.ints.specs.Divides.{IsGcd}
use Rattle.ints.proofs.{ℤ, pos, nat_abs, arith}
use Rattle.ints.proofs.Order.{abs_above}
use Rattle.ints.proofs.Gcd.{euclid, gcd, gcd_is, gcd_only}
use Rattle.euclid.specs.Remainders.{first_remainders, remainders, found, factor}
use Rattle.euclid.specs.EarlyEnd.{FactorIsGcd}

-- the last divisor is what Euclid's algorithm comes to
last_divisor : (n a b : ℕ) → 0 < b → b ≤ n → euclid n a b ≡ found b (first_remainders n a b)
unfolding euclid found first_remainders
last_divisor zero a b h k = absurd (omega arith)
last_divisor (suc n) a zero h k = absurd (omega arith)
last_divisor (suc n) a (suc b) h k = go n (a % suc b) (mod-lt a (zero-lt-suc b)) (λ l. last_divisor n (suc b) (a % suc b) l (omega (arith, mod-lt a (zero-lt-suc b))))
  where
    go : (n r : ℕ) → r < suc b → (0 < r → euclid n (suc b) r ≡ found r (first_remainders n (suc b) r)) → euclid n (suc b) r ≡ found (suc b) (r ∷ first_remainders n (suc b) r)
    go zero zero l f = refl
    go (suc n) zero l f = refl
    go n (suc r) l f = f (zero-lt-suc r)

factor_is : (a b : ℤ) → b ≢ pos 0 → gcd a b ≡ pos (factor (nat_abs a) (nat_abs b))
unfolding gcd remainders
factor_is a b nz = ap pos (last_divisor (nat_abs b) (nat_abs a) (nat_abs b) (abs_above nz) (omega arith))

pub factor_is_gcd : (a b : ℤ) → b ≢ pos 0 → FactorIsGcd a b
factor_is_gcd a b nz g = (λ s. gcd_only a b g nz s ∙ factor_is a b nz, λ e. subst (IsGcd a b) (sym (e ∙ sym (factor_is a b nz))) (gcd_is a b))
