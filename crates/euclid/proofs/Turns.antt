-- A turn of the loop makes one division: what holds before it (`Turn`), and what it comes to by what it leaves (`at_zero`, `at_one`,
-- `again`).
use mathlib.Core.Path.{◌≡◌, sym, ◌∙◌, ap, subst}
use mathlib.Core.Logic.{◌≢◌}
use Prim.Native.Nat.{ℕ, suc, ◌+◌, ◌%◌, ◌≤◌, ◌<◌}
use native.Mathlib.Nat.{mod-lt}
use Rattle.ints.specs.Within.{Within}
use Rattle.ints.proofs.{ℤ, pos, nat_abs, ◌-ℤ◌, ◌*ℤ◌, ◌≤ℤ◌, ◌<ℤ◌, quot_z, rem_z, [], ◌∷◌, arith, lin, ◌&◌, facts}
use Rattle.ints.proofs.Order.{lt_ne, pos_below, abs_nonneg, abs_above}
use Rattle.ints.proofs.Truncated.{abs-rem}
use Rattle.euclid.specs.Remainders.{early_divisions}
use Rattle.euclid.specs.Factor.{IsFactor}
use Rattle.euclid.proofs.EarlyEnd.{last_division, one_division}
use Rattle.euclid.proofs.Euclid.{Inv, start, step, done, done_at_one}

-- the divisions that were made, with those that are left, are all of them; remainders fall, so that there are no more than b
pub record Turn (a b r0 r1 s0 s1 : ℤ) (made : ℕ) : Type 0 where
  pub inv : Inv a b r0 r1 s0 s1
  pub some : pos 0 <ℤ r1
  pub count : made + early_divisions (nat_abs r0) (nat_abs r1) ≡ early_divisions (nat_abs a) (nat_abs b)
  pub room : made + nat_abs r1 ≤ nat_abs b

pub first : (a b : ℤ) → pos 0 ≤ℤ a → Within 1000000000000000000 a → pos 0 <ℤ b → b ≤ℤ pos 2000000000 → Turn a b a b (pos 1) (pos 0) 0
first a b low high above most = record { inv = start a b low high above most; some = above; count = omega arith; room = omega arith }

module _ {a b r0 r1 s0 s1 : ℤ} {made : ℕ} (t : Turn a b r0 r1 s0 s1 made) where
  abbrev r2 : ℤ
  r2 = rem_z r0 r1

  divisor : 0 < nat_abs r1
  divisor = abs_above (λ z. lt_ne (pos 0) r1 t.some (sym z))

  pub few : {n : ℕ} → pos 0 <ℤ b → b ≤ℤ pos n → made + 1 ≤ n
  few {n} above most =
      let size : b ≡ pos (nat_abs b) = abs_nonneg b (lin (b ∷ []) above (search facts depth 20) (omega arith)) in
      let high : nat_abs b ≤ n = lin (b ∷ pos (nat_abs b) ∷ pos n ∷ []) (size & most) (search facts depth 20) (omega arith) in
      omega (arith, t.room, divisor, high)

  leaves : nat_abs r2 ≡ nat_abs r0 % nat_abs r1
  leaves = abs-rem r0 r1

  -- it was the last
  all_made : nat_abs r2 ≤ 1 → made + 1 ≡ early_divisions (nat_abs a) (nat_abs b)
  all_made h =
      let is : early_divisions (nat_abs r0) (nat_abs r1) ≡ 1 = last_division (nat_abs r0) (nat_abs r1) divisor (subst (λ n. n ≤ 1) leaves h) in
      omega (arith, is, t.count)

  pub at_zero : pos 0 <ℤ b → r2 ≡ pos 0 → IsFactor a b r1 s1 × (made + 1 ≡ early_divisions (nat_abs a) (nat_abs b))
  at_zero above z = (done (step t.inv t.some) above (lin (r2 ∷ []) z (search facts depth 20) (omega arith)), all_made (subst (λ n. nat_abs n ≤ 1) (sym z) (omega arith)))

  pub at_one : pos 0 <ℤ b → r2 ≡ pos 1 → IsFactor a b r2 (s0 -ℤ quot_z r0 r1 *ℤ s1) × (made + 1 ≡ early_divisions (nat_abs a) (nat_abs b))
  at_one above z = (done_at_one t.inv t.some above z, all_made (subst (λ n. nat_abs n ≤ 1) (sym z) (omega arith)))

  -- others follow, by a divisor that is less
  pub less : nat_abs r2 < nat_abs r1
  less = subst (λ n. n < nat_abs r1) (sym leaves) (mod-lt (nat_abs r0) divisor)

  module _ (not-0 : r2 ≢ pos 0) (not-1 : r2 ≢ pos 1) where
    size : r2 ≡ pos (nat_abs r2)
    size = abs_nonneg r2 (step t.inv t.some).low1

    more : 1 < nat_abs r2
    more =
        let some : nat_abs r2 ≢ 0 = λ z. not-0 (size ∙ ap pos z) in
        let not-one : nat_abs r2 ≢ 1 = λ z. not-1 (size ∙ ap pos z) in
        omega (arith, some, not-one)

    count_again : made + 1 + early_divisions (nat_abs r1) (nat_abs r2) ≡ early_divisions (nat_abs a) (nat_abs b)
    count_again =
        let is : early_divisions (nat_abs r0) (nat_abs r1) ≡ suc (early_divisions (nat_abs r1) (nat_abs r2)) =
        subst (λ n. early_divisions (nat_abs r0) (nat_abs r1) ≡ suc (early_divisions (nat_abs r1) n)) (sym leaves)
        (one_division (nat_abs r0) (nat_abs r1) divisor (subst (λ n. 1 < n) leaves more)) in
        omega (arith, is, t.count)

    pub again : Turn a b r1 r2 s1 (s0 -ℤ quot_z r0 r1 *ℤ s1) (made + 1)
    again = record {
      inv = step t.inv t.some;
      some = subst (λ x. pos 0 <ℤ x) (sym size) (pos_below (omega (arith, more)));
      count = count_again;
      room = omega (arith, t.room, less);
    }
