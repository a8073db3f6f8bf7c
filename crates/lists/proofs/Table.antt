-- The members of a table, that it rises where f does, its length, and what stands at each place; and of 0, 1, .., n − 1.
use mathlib.Core.Path.{◌≡◌, refl, sym, ◌∙◌, ap}
use mathlib.Core.Logic.{◌↔◌}
use Prim.Native.Nat.{ℕ, zero, suc, ◌+◌, ◌-◌, ◌≤◌, ◌<◌}
use mathlib.Core.List.{[], ◌∷◌, ◌++◌}
use native.Mathlib.Nat.{zero-add}
use native.Mathlib.Numerals.{add-one}
use native.Mathlib.Omega.{arith}
use lib.ListN.{length, get_or}
use Rattle.lists.specs.Members.{◌∈◌, here, there}
use Rattle.lists.specs.Rising.{Rising, none, more}
use Rattle.lists.specs.Table.{table_from, table, up_to}
use Rattle.lists.proofs.Places.{same_places}
use Rattle.lists.proofs.Rising.{Rising-at}

module _ {A : Type 0} (f : ℕ → A) where
  from_out : (i n : ℕ) {z : A} → z ∈ table_from f i n → (k : ℕ) × (i ≤ k) × (k < i + n) × (z ≡ f k)
  unfolding table_from
  from_out i zero x = elim x [ ]
  from_out i (suc n) (here e) = (i, omega arith, omega arith, e)
  from_out i (suc n) (there h) = let (k, a, b, e) = from_out (suc i) n h in (k, omega arith, omega arith, e)

  from_into : (i n j : ℕ) → j < n → f (i + j) ∈ table_from f i n
  unfolding table_from
  from_into i zero j h = absurd (omega arith)
  from_into i (suc n) zero h = let e : i + 0 ≡ i = omega arith in here (ap f e)
  from_into i (suc n) (suc j) h =
      let e : i + suc j ≡ suc i + j = omega arith in
      there {xs = table_from f (suc i) n} (rw e (from_into (suc i) n j (omega arith)))

  from_Rising : {R : A → A → Type 0} (i n : ℕ) → ((j k : ℕ) → j < k → k < i + n → R (f j) (f k)) → Rising R (table_from f i n)
  unfolding table_from
  from_Rising i zero m = none
  from_Rising {R} i (suc n) m =
      more {x = f i}
      (λ y h. let (k, a, b, e) = from_out (suc i) n h in rw e (m i k (omega arith) (omega arith)))
      (from_Rising (suc i) n (λ j k h g. m j k h (omega arith)))

  from_length : (i n : ℕ) → length (table_from f i n) ≡ n
  unfolding table_from
  from_length i zero = refl
  from_length i (suc n) = ap suc (from_length (suc i) n)

  from_at : (i n k : ℕ) (d : A) → k < n → get_or (table_from f i n) k d ≡ f (i + k)
  unfolding table_from
  from_at i zero k d h = absurd (omega arith)
  from_at i (suc n) zero d h = let e : i ≡ i + 0 = omega arith in ap f e
  from_at i (suc n) (suc k) d h = let e : suc i + k ≡ i + suc k = omega arith in from_at (suc i) n k d (omega arith) ∙ ap f e

  from_last : (i n : ℕ) → table_from f i (suc n) ≡ table_from f i n ++ f (i + n) ∷ []
  unfolding table_from
  from_last i zero = let e : i ≡ i + 0 = omega arith in ap (λ k. f k ∷ []) e
  from_last i (suc n) = let e : suc i + n ≡ i + suc n = omega arith in ap (λ r. f i ∷ r) (from_last (suc i) n ∙ ap (λ k. table_from f (suc i) n ++ f k ∷ []) e)

  -- one member more
  pub table_next : (n : ℕ) → table f (n + 1) ≡ table f n ++ f n ∷ []
  unfolding table
  table_next n = ap (table_from f 0) (add-one n) ∙ from_last 0 n ∙ ap (λ k. table_from f 0 n ++ f k ∷ []) (zero-add n)

  pub in-table : (n : ℕ) (z : A) → z ∈ table f n ↔ ((k : ℕ) × (k < n) × (z ≡ f k))
  unfolding table
  in-table n z = (λ h. let (k, a, b, e) = from_out 0 n h in (k, omega arith, e), into)
    where
      into : (k : ℕ) × (k < n) × (z ≡ f k) → z ∈ table_from f 0 n
      into (k, h, e) = let z : k ≡ 0 + k = omega arith in rw (e, z) (from_into 0 n k h)

  pub Rising-table : {R : A → A → Type 0} (n : ℕ) → ((j k : ℕ) → j < k → k < n → R (f j) (f k)) → Rising R (table f n)
  unfolding table
  Rising-table n m = from_Rising 0 n (λ j k h g. m j k h (omega arith))

  pub length-table : (n : ℕ) → length (table f n) ≡ n
  unfolding table
  length-table n = from_length 0 n

  pub table_at : (n k : ℕ) (d : A) → k < n → get_or (table f n) k d ≡ f k
  unfolding table
  table_at n k d h = let e : 0 + k ≡ k = omega arith in from_at 0 n k d h ∙ ap f e

  -- a table that rises, by the places of it
  pub table_rises : {R : A → A → Type 0} (n : ℕ) → Rising R (table f n) → (i k : ℕ) → i < k → k < n → R (f i) (f k)
  table_rises {R} n r i k h l =
      let q : R (get_or (table f n) i (f 0)) (get_or (table f n) k (f 0)) = Rising-at r i k (f 0) h (omega (arith, length-table n)) in
      rw (table_at n i (f 0) (omega arith), table_at n k (f 0) l) at q

  -- a walk through the table: what is left of it at i, before its end and there
  pub from_next : (i n : ℕ) → i < n → table_from f i (n - i) ≡ f i ∷ table_from f (i + 1) (n - (i + 1))
  unfolding table_from
  from_next i n h = let q : n - i ≡ suc (n - (i + 1)) = omega arith in rw (q, add-one)

  pub from_end : (i n : ℕ) → n ≤ i → table_from f i (n - i) ≡ []
  unfolding table_from
  from_end i n h = let q : n - i ≡ 0 = omega arith in rw q

  pub from_start : (n : ℕ) → table f n ≡ table_from f 0 (n - 0)
  unfolding table
  from_start n = let q : n ≡ n - 0 = omega arith in ap (table_from f 0) q

pub in-up_to : (n k : ℕ) → k ∈ up_to n ↔ (k < n)
in-up_to n k = (λ h. let (i, l, e) = (in-table (λ i. i) n k).0 h in omega arith, λ h. (in-table (λ i. i) n k).1 (k, h, refl))

pub Rising-up_to : (n : ℕ) → Rising ◌<◌ (up_to n)
Rising-up_to n = Rising-table (λ i. i) n (λ j k h l. h)

pub length-up_to : (n : ℕ) → length (up_to n) ≡ n
length-up_to = length-table (λ i. i)

-- two tables with the same at each place
pub same_table : {A : Type 0} (d : A) (f g : ℕ → A) {m n : ℕ} → m ≡ n → ((i : ℕ) → i < m → f i ≡ g i) → table f m ≡ table g n
same_table d f g {m} {n} e same = same_places d (table f m) (table g n) (length-table f m ∙ e ∙ sym (length-table g n)) (λ i h. at i (omega (arith, h, length-table f m)))
  where
    at : (i : ℕ) → i < m → get_or (table f m) i d ≡ get_or (table g n) i d
    at i h = table_at f m i d h ∙ same i h ∙ sym (table_at g n i d (omega (arith, e, h)))
