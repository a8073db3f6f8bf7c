-- How many numbers below n pass a test, counted from 0 on: what is left to count.
use mathlib.Core.Path.{◌≡◌, refl, sym, ◌∙◌, ap}
use mathlib.Core.Bool.{Bool, true, false, cond}
use mathlib.Core.List.{◌∷◌}
use Prim.Native.Nat.{ℕ, suc, ◌+◌, ◌-◌, ◌≤◌, ◌<◌}
use lib.ListN.{length}
use Rattle.lists.specs.Keep.{keep}
use Rattle.lists.specs.Table.{table_from, up_to}
use Rattle.lists.proofs.Table.{from_next, from_end, from_start}

module _ (p : ℕ → Bool) (n : ℕ) where
  abbrev pub left : ℕ → ℕ
  left i = length (keep p (table_from (λ k. k) i (n - i)))

  pub left_all : left 0 ≡ length (keep p (up_to n))
  left_all = ap (λ xs. length (keep p xs)) (sym (from_start (λ k. k) n))

  left_next : (i : ℕ) → i < n → left i ≡ length (cond (p i) (i ∷ keep p (table_from (λ k. k) (i + 1) (n - (i + 1)))) (keep p (table_from (λ k. k) (i + 1) (n - (i + 1)))))
  unfolding keep
  left_next i h = ap (λ xs. length (keep p xs)) (from_next (λ k. k) i n h)

  pub left_yes : (i : ℕ) → i < n → p i ≡ true → left i ≡ suc (left (i + 1))
  left_yes i h t = left_next i h ∙ rw t refl

  pub left_no : (i : ℕ) → i < n → p i ≡ false → left i ≡ left (i + 1)
  left_no i h t = left_next i h ∙ rw t refl

  pub left_none : (i : ℕ) → n ≤ i → left i ≡ 0
  unfolding keep
  left_none i h = ap (λ xs. length (keep p xs)) (from_end (λ k. k) i n h)
