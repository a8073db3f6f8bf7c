-- A test put to every member says the same in any order of the list.
use mathlib.Core.Path.{◌≡◌, refl, sym, ◌∙◌, ap}
use mathlib.Core.Bool.{Bool, true, ◌&&◌, Bool-set, and_assoc, and_comm}
use mathlib.Core.List.Perm
use mathlib.Core.List.{List, [], ◌∷◌, foldr}
use Rattle.lists.specs.Keep.{every}
use Rattle.lists.specs.Permutation.{Permutation}

either_first : (a b c : Bool) → a && (b && c) ≡ b && (a && c)
either_first a b c = sym (and_assoc a b c) ∙ ap (λ t. t && c) (and_comm a b) ∙ and_assoc b a c

module _ {A : Type 0} (p : A → Bool) where
  folded : (xs : List A) → every p xs ≡ foldr (λ x t. p x && t) true xs
  unfolding every
  folded [] = refl
  folded (x ∷ xs) = ap (λ t. p x && t) (folded xs)

  pub every_permuted : {xs ys : List A} → Permutation xs ys → every p xs ≡ every p ys
  every_permuted {xs} {ys} h = folded xs ∙ Perm.foldr-eq Bool-set (λ x t. p x && t) (λ x y t. either_first (p x) (p y) t) h true ∙ sym (folded ys)
