-- A strictly rising list: each member stands in the relation R to every later one.
use Rattle.std.specs.Prelude.{List, [], ◌∷◌}
use Rattle.lists.specs.Members.{◌∈◌}

pub data Rising {A : Type 0} (R : A → A → Type 0) : List A → Type 0 where
  none : Rising R []
  more : {x : A} {xs : List A} → ((y : A) → y ∈ xs → R x y) → Rising R xs → Rising R (x ∷ xs)
