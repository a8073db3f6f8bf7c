-- The remainders of two sizes: as many as are asked for make no difference once they are down to 0.
use mathlib.Core.Path.{◌≡◌, refl, ap}
use mathlib.Core.List.{◌∷◌}
use Prim.Native.Nat.{ℕ, zero, suc, ◌%◌, ◌≤◌}
use native.Mathlib.Nat.{mod-lt, zero-lt-suc}
use native.Mathlib.Omega.{arith}
use Rattle.euclid.specs.Remainders.{first_remainders, remainders}

enough : (n m a b : ℕ) → b ≤ n → b ≤ m → first_remainders n a b ≡ first_remainders m a b
unfolding first_remainders
enough zero zero a b h k = refl
enough zero (suc m) a zero h k = refl
enough zero (suc m) a (suc b) h k = absurd (omega arith)
enough (suc n) zero a zero h k = refl
enough (suc n) zero a (suc b) h k = absurd (omega arith)
enough (suc n) (suc m) a zero h k = refl
enough (suc n) (suc m) a (suc b) h k =
    let less = mod-lt a (zero-lt-suc b) in
    ap (λ rs. a % suc b ∷ rs) (enough n m (suc b) (a % suc b) (omega (arith, less)) (omega (arith, less)))

-- what a by b leaves, and then the remainders of b by that
pub next : (a b : ℕ) → remainders a (suc b) ≡ a % suc b ∷ remainders (suc b) (a % suc b)
unfolding first_remainders remainders
next a b = ap (λ rs. a % suc b ∷ rs) (enough b (a % suc b) (suc b) (a % suc b) (omega (arith, mod-lt a (zero-lt-suc b))) (omega arith))
