-- Two functions that map a list to one list give the same at each of its members: a computation over a whole table holds at
-- every entry. And two that agree on the members make one list of their parts.
use mathlib.Core.Path.{◌≡◌, refl, sym, ◌∙◌, ap, ap₂}
use mathlib.Core.List.{List, [], ◌∷◌, ◌++◌, map, flat_map, head-eq_of_cons-eq, tail-eq_of_cons-eq}
use Rattle.std.proofs.lemmas.Grind.{flat_map-append}
use Rattle.lists.specs.Members.{◌∈◌, here, there}

module _ {A B : Type 0} (f g : A → B) where
  pub same_values : {x : A} {xs : List A} → map f xs ≡ map g xs → x ∈ xs → f x ≡ g x
  same_values e (here h) = ap f h ∙ head-eq_of_cons-eq e ∙ sym (ap g h)
  same_values e (there h) = same_values (tail-eq_of_cons-eq e) h

pub flat_map_same : {A B : Type 0} (f g : A → List B) (xs : List A) → ((x : A) → x ∈ xs → f x ≡ g x) → flat_map f xs ≡ flat_map g xs
unfolding flat_map
flat_map_same f g [] e = refl
flat_map_same f g (x ∷ xs) e = ap₂ ◌++◌ (e x (here refl)) (flat_map_same f g xs (λ y m. e y (there m)))

pub flat_map_both : {A B : Type 0} (f : A → List B) (xs ys : List A) → flat_map f (xs ++ ys) ≡ flat_map f xs ++ flat_map f ys
unfolding flat_map
flat_map_both f xs ys = flat_map-append f xs ys
