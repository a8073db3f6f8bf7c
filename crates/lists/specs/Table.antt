-- The list f 0, f 1, .., f (n − 1).
use Rattle.std.specs.Prelude.{◌≡◌, List, [], ◌∷◌, ℕ, zero, suc, ◌<◌, get_or}

-- n members, from f i on
unfoldable pub table_from : {A : Type 0} → (ℕ → A) → ℕ → ℕ → List A
table_from f i zero = []
table_from f i (suc n) = let rest = table_from f (suc i) n in f i ∷ rest

unfoldable pub table : {A : Type 0} → (ℕ → A) → ℕ → List A
unfolding table_from
table f n = table_from f 0 n

-- 0, 1, .., n − 1
abbrev pub up_to : ℕ → List ℕ
up_to n = table (λ i. i) n

-- a list, such as an array, that begins so: below n, place i has f i
pub record Tabulates {A : Type 0} (d : A) (f : ℕ → A) (n : ℕ) (xs : List A) : Type 0 where
  pub at : (i : ℕ) → i < n → get_or xs i d ≡ f i
