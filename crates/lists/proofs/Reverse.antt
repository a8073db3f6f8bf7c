-- A list from its last member to its first: it has the same members, and rises the other way.
use mathlib.Core.Path.{◌≡◌, sym, subst}
use mathlib.Core.Logic.{◌↔◌, ⊎_elim, inl, inr}
use mathlib.Core.List.Memᴰ
use mathlib.Core.List.{List, [], ◌∷◌, reverse, reverse-cons}
use Rattle.lists.specs.Members.{◌∈◌, here, there}
use Rattle.lists.specs.Rising.{Rising, none, more}
use Rattle.lists.proofs.Members.{in-append}
use Rattle.lists.proofs.Rising.{Rising-one, Rising-append}

module _ {A : Type 0} where
  the_one : {x z : A} → z ∈ x ∷ [] → z ≡ x
  the_one (here e) = e
  the_one (there h) = absurd (Memᴰ.not-nil h)

  reverse_out : (xs : List A) {z : A} → z ∈ reverse xs → z ∈ xs
  reverse_out [] h = h
  reverse_out (x ∷ xs) {z} h =
      ⊎_elim (λ k. there (reverse_out xs k)) (λ k. here (the_one k)) ((in-append (reverse xs) (x ∷ []) z).0 (subst (λ l. z ∈ l) (reverse-cons x xs) h))

  reverse_into : {z : A} {xs : List A} → z ∈ xs → z ∈ reverse xs
  reverse_into {z} (here {x} {xs} e) = rw (reverse-cons x xs) ((in-append (reverse xs) (x ∷ []) z).1 (inr (here e)))
  reverse_into {z} (there {x} {xs} h) = rw (reverse-cons x xs) ((in-append (reverse xs) (x ∷ []) z).1 (inl (reverse_into h)))

  pub in-reverse : (xs : List A) (z : A) → z ∈ reverse xs ↔ z ∈ xs
  in-reverse xs z = (reverse_out xs, reverse_into)

  pub Rising-reverse : {R : A → A → Type 0} {xs : List A} → Rising R xs → Rising (λ x y. R y x) (reverse xs)
  Rising-reverse none = none
  Rising-reverse {R} (more {x} {xs} f r) =
      rw (reverse-cons x xs) (Rising-append (Rising-reverse r) (Rising-one x) (λ y z h k. subst (λ v. R v y) (sym (the_one k)) (f y (reverse_out xs h))))
