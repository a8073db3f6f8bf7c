-- Two rising lists with the same members begin with the same one, and go on with the same members.
use mathlib.Core.Path.{◌≡◌, sym, ◌∙◌}
use mathlib.Core.List.{List, ◌∷◌}
use Rattle.lists.specs.Members.{◌∈◌, here, there}

module _ {A : Type 0} {R : A → A → Type 0} (asym : (x y : A) → R x y → R y x → ⊥) where
  -- the heads of two rising lists with the same members
  pub head : {x y : A} {xs ys : List A} → ((z : A) → z ∈ xs → R x z) → ((z : A) → z ∈ ys → R y z) → x ∈ y ∷ ys → y ∈ x ∷ xs → x ≡ y
  head f g (here e) k = e
  head f g (there h) (here e) = sym e
  head {x} {y} f g (there h) (there k) = absurd (asym x y (f y k) (g x h))

  -- a member of the one tail is a member of the other
  pub tail : {x y z : A} {xs ys : List A} → ((z : A) → z ∈ xs → R x z) → x ≡ y → z ∈ xs → z ∈ y ∷ ys → z ∈ ys
  tail {x} {y} {z} f e h (here e') = let r : R x x = rw (e' ∙ sym e) at (f z h) in absurd (asym x x r r)
  tail f e h (there k) = k
