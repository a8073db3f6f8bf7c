-- The early end loses nothing: `early_end_lem`. And the count, one division at a time, as the loop makes it.
use mathlib.Core.Path.{◌≡◌, refl, sym, ◌∙◌, ap, subst}
use mathlib.Core.List.{List, [], ◌∷◌}
use Prim.Native.Nat.{ℕ, zero, suc, ◌+◌, ◌%◌, ◌≤◌, ◌<◌}
use native.Mathlib.Nat.{mod-lt, zero-lt-suc}
use native.Mathlib.Omega.{arith}
use lib.ListN.{length}
use Rattle.euclid.specs.Remainders.{first_remainders, remainders, early, found, end_of, early_divisions}
use Rattle.euclid.specs.EarlyEnd.{EarlyEnd}
use Rattle.euclid.proofs.Remainders.{next}

-- ---- of remainders rs after the divisor b
record Holds (b : ℕ) (rs : List ℕ) : Type 0 where
  down_to_0 : end_of b rs ≡ 0
  at_0_or_1 : end_of b (early rs) ≤ 1
  same : found b rs ≡ found b (early rs)
  more : length rs ≡ end_of b (early rs) + length (early rs)

-- by 0 nothing is divided, and by 1 there is one division, which leaves 0
by_0 : (a : ℕ) → remainders a 0 ≡ []
unfolding remainders first_remainders
by_0 a = refl

by_1 : (a : ℕ) → remainders a 1 ≡ 0 ∷ []
by_1 a =
    let z : a % 1 ≡ 0 = omega (arith, mod-lt a (zero-lt-suc 0)) in
    next a 0 ∙ ap (λ r. r ∷ remainders 1 r) z ∙ ap (λ rs. 0 ∷ rs) (by_0 1)

-- a division that leaves r, and the remainders after it
after : (b r : ℕ) → (1 < r → Holds r (remainders b r)) → Holds b (r ∷ remainders b r)
unfolding early found end_of
after b zero h = subst (λ rs. Holds b (0 ∷ rs)) (sym (by_0 b)) record { down_to_0 = refl; at_0_or_1 = omega arith; same = refl; more = refl }
after b (suc zero) h = subst (λ rs. Holds b (1 ∷ rs)) (sym (by_1 b)) record { down_to_0 = refl; at_0_or_1 = omega arith; same = refl; more = refl }
after b (suc (suc r)) h =
    let k = h (omega arith) in
    record { down_to_0 = k.down_to_0; at_0_or_1 = k.at_0_or_1; same = k.same; more = omega (arith, k.more) }

holds : (n a b : ℕ) → 0 < b → b ≤ n → Holds b (remainders a b)
holds zero a b h k = absurd (omega arith)
holds (suc n) a zero h k = absurd (omega arith)
holds (suc n) a (suc b) h k =
    subst (Holds (suc b)) (sym (next a b))
    (after (suc b) (a % suc b) (λ l. holds n (suc b) (a % suc b) (omega (arith, l)) (omega (arith, mod-lt a (zero-lt-suc b)))))

pub early_end_lem : (a b : ℕ) → 0 < b → EarlyEnd a b
early_end_lem a b h =
    let k = holds b a b h (omega arith) in
    record {
      down_to_0 = k.down_to_0;
      at_0_or_1 = k.at_0_or_1;
      same_factor = k.same;
      one_more = (λ e. omega (arith, k.more, e), λ e. omega (arith, k.more, e));
      as_many = (λ e. omega (arith, k.more, e), λ e. omega (arith, k.more, e));
    }

-- ---- the count, one division at a time
-- the division of a by b leaves 0 or 1, and is the only one
pub last_division : (a b : ℕ) → 0 < b → a % b ≤ 1 → early_divisions a b ≡ 1
unfolding early
last_division a zero h k = absurd (omega arith)
last_division a (suc b) h k = ap (λ rs. length (early rs)) (next a b) ∙ go (a % suc b) k
  where
    go : (r : ℕ) → r ≤ 1 → length (early (r ∷ remainders (suc b) r)) ≡ 1
    go zero l = refl
    go (suc zero) l = refl
    go (suc (suc r)) l = absurd (omega arith)

-- it leaves more, and others follow
pub one_division : (a b : ℕ) → 0 < b → 1 < a % b → early_divisions a b ≡ suc (early_divisions b (a % b))
unfolding early
one_division a zero h k = absurd (omega arith)
one_division a (suc b) h k = ap (λ rs. length (early rs)) (next a b) ∙ go (a % suc b) k
  where
    go : (r : ℕ) → 1 < r → length (early (r ∷ remainders (suc b) r)) ≡ suc (early_divisions (suc b) r)
    go zero l = absurd (omega arith)
    go (suc zero) l = absurd (omega arith)
    go (suc (suc r)) l = refl
