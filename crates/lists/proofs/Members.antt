-- The members of a list by their places, and of lists made by ++, map and flat_map.
use mathlib.Core.Path.{◌≡◌, refl, sym, subst}
use mathlib.Core.Logic.{◌↔◌, ◌⊎◌, ⊎_elim}
use mathlib.Core.List.Memᴰ
use mathlib.Core.List.{List, [], ◌∷◌, ◌++◌, map, flat_map}
use Prim.Native.Nat.{ℕ, zero, suc, ◌<◌}
use native.Mathlib.Omega.{arith}
use lib.ListN.{length, get_or}
use Rattle.lists.specs.Members.{◌∈◌, here, there}

module _ {A : Type 0} where
  -- ---- by places
  pub member_at : (xs : List A) (k : ℕ) (d : A) → k < length xs → get_or xs k d ∈ xs
  member_at [] k d h = absurd (omega arith)
  member_at (x ∷ xs) zero d h = here refl
  member_at (x ∷ xs) (suc k) d h = there (member_at xs k d (omega arith))

  pub place_of : (xs : List A) (d : A) {z : A} → z ∈ xs → (k : ℕ) × (k < length xs) × (z ≡ get_or xs k d)
  place_of [] d x = elim x [ ]
  place_of (x ∷ xs) d (here e) = (0, omega arith, e)
  place_of (x ∷ xs) d (there h) = let (k, l, e) = place_of xs d h in (suc k, omega arith, e)

  -- what holds at every place holds of every member, and the other way
  pub each_iff : (P : A → Type 0) (xs : List A) (d : A) → ((k : ℕ) → k < length xs → P (get_or xs k d)) ↔ ((x : A) → x ∈ xs → P x)
  each_iff P xs d = (λ f x m. at f (place_of xs d m), λ f k h. f (get_or xs k d) (member_at xs k d h))
    where
      at : ((k : ℕ) → k < length xs → P (get_or xs k d)) → {x : A} → (k : ℕ) × (k < length xs) × (x ≡ get_or xs k d) → P x
      at f (k, h, e) = subst P (sym e) (f k h)

  pub no_members : (xs : List A) → (length xs ≡ 0) ↔ ((z : A) → ¬ (z ∈ xs))
  no_members [] = (λ e z h. Memᴰ.not-nil h, λ f. refl)
  no_members (x ∷ xs) = (λ e z h. omega arith, λ f. absurd (f x (here refl)))

  -- ---- one list behind another
  pub in-append : (xs ys : List A) (z : A) → z ∈ xs ++ ys ↔ ((z ∈ xs) ⊎ (z ∈ ys))
  in-append xs ys z = (Memᴰ.append_cases xs, ⊎_elim (Memᴰ.append_left ys) (Memᴰ.append_right xs))

  pub each_append : (P : A → Type 0) (xs ys : List A) → ((z : A) → z ∈ xs ++ ys → P z) ↔ (((z : A) → z ∈ xs → P z) × ((z : A) → z ∈ ys → P z))
  each_append P xs ys = (
    λ f. (λ z m. f z (Memᴰ.append_left ys m), λ z m. f z (Memᴰ.append_right xs m)),
    λ (f, g) z m. ⊎_elim (f z) (g z) ((in-append xs ys z).0 m),
  )

-- ---- a function put to each member, and a list in the place of each
module _ {A B : Type 0} where
  pub in-map : (f : A → B) (xs : List A) (z : B) → z ∈ map f xs ↔ ((x : A) × (x ∈ xs) × (z ≡ f x))
  in-map f xs z = (λ h. let (x, k, e) = Memᴰ.of_map f xs h in (x, k, sym e), λ (x, k, e). Memᴰ.cast e (Memᴰ.map f k))

  pub in-flat_map : (f : A → List B) (xs : List A) (z : B) → z ∈ flat_map f xs ↔ ((x : A) × (x ∈ xs) × (z ∈ f x))
  unfolding flat_map
  in-flat_map f xs z = (out xs, λ (x, h, k). into h k)
    where
      out : (xs : List A) → z ∈ flat_map f xs → (x : A) × (x ∈ xs) × (z ∈ f x)
      out [] h = absurd (Memᴰ.not-nil h)
      out (x ∷ xs) h = ⊎_elim (λ k. (x, here refl, k)) (λ k. let (y, l, m) = out xs k in (y, there l, m)) ((in-append (f x) (flat_map f xs) z).0 h)

      into : {x : A} {xs : List A} → x ∈ xs → z ∈ f x → z ∈ flat_map f xs
      into (here {x = y} {xs} e) k = Memᴰ.append_left (flat_map f xs) (rw e at k)
      into (there {x = y} h) k = Memᴰ.append_right (f y) (into h k)
