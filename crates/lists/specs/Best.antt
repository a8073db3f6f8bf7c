-- The best member of a list: of greatest value and, among equals, the first.
use Rattle.std.specs.Prelude.{◌≡◌, ◌⊎◌, cond, List, [], ◌∷◌, ℤ, ◌<ℤ◌}
use Rattle.std.specs.Int.Signed.{lt_z}
use Rattle.lists.specs.Members.{◌∈◌}

-- x beats y: more value, or equal value and earlier in the order R
pub data Beats {A : Type 0} (value : A → ℤ) (R : A → A → Type 0) (x y : A) : Type 0 where
  greater : value y <ℤ value x → Beats value R x y
  earlier : value x ≡ value y → R x y → Beats value R x y

-- x is a member and beats every other
pub record Best {A : Type 0} (value : A → ℤ) (R : A → A → Type 0) (xs : List A) (x : A) : Type 0 where
  pub member : x ∈ xs
  pub beats : (y : A) → y ∈ xs → (y ≡ x) ⊎ Beats value R x y

-- the first member that no other exceeds, of a best so far and those still to come
unfoldable pub first_best : {A : Type 0} → (A → ℤ) → A → List A → A
first_best value best [] = best
first_best value best (x ∷ xs) = first_best value (cond (lt_z (value best) (value x)) x best) xs

-- of a list; d where it is empty
unfoldable pub best_of : {A : Type 0} → (A → ℤ) → A → List A → A
unfolding first_best
best_of value d [] = d
best_of value d (x ∷ xs) = first_best value x xs
