-- Rising lists: two with the same members are equal, which is the one lemma that later crates rest on; lists that rise by how
-- they are made; and lists without repetition, of which two with the same members are of one length.
use mathlib.Core.Path.{◌≡◌, refl, sym, ◌∙◌, ap, ap₂, subst}
use mathlib.Core.Logic.{◌↔◌, ◌≢◌, ⊎_elim}
use mathlib.Core.List.Memᴰ
use mathlib.Core.List.{List, [], ◌∷◌, ◌++◌, map, flat_map}
use Prim.Native.Nat.{ℕ, zero, suc, ◌≤◌, ◌<◌}
use native.Mathlib.Omega.{arith}
use lib.ListN.{length, get_or}
use Rattle.lists.specs.Members.{◌∈◌, here, there}
use Rattle.lists.specs.Rising.{Rising, none, more}
use Rattle.lists.proofs.Heads.{head, tail}
use Rattle.lists.proofs.Members.{member_at, in-append, in-map, in-flat_map}

module _ {A : Type 0} {R : A → A → Type 0} (asym : (x y : A) → R x y → R y x → ⊥) where
  pub same_members : {xs ys : List A} → Rising R xs → Rising R ys → ((z : A) → z ∈ xs ↔ z ∈ ys) → xs ≡ ys
  same_members none none m = refl
  same_members none (more {x = y} g s) m = absurd (Memᴰ.not-nil ((m y).1 (here refl)))
  same_members (more {x} f r) none m = absurd (Memᴰ.not-nil ((m x).0 (here refl)))
  same_members (more {x} {xs} f r) (more {x = y} {xs = ys} g s) m =
      ap₂ ◌∷◌ e (same_members r s λ z. (λ h. tail asym f e h ((m z).0 (there h)), λ h. tail asym g (sym e) h ((m z).1 (there h))))
    where
      e : x ≡ y
      e = head asym f g ((m x).0 (here refl)) ((m y).1 (here refl))

-- what stands at two places of a rising list
pub Rising-at : {A : Type 0} {R : A → A → Type 0} {xs : List A} → Rising R xs → (i k : ℕ) (d : A) → i < k → k < length xs → R (get_or xs i d) (get_or xs k d)
Rising-at none i k d h l = absurd (omega arith)
Rising-at (more {x} {xs} f r) i zero d h l = absurd (omega arith)
Rising-at (more {x} {xs} f r) zero (suc k) d h l = f (get_or xs k d) (member_at xs k d (omega arith))
Rising-at (more {x} {xs} f r) (suc i) (suc k) d h l = Rising-at r i k d (omega arith) (omega arith)

-- and behind a member
pub Rising-behind : {A : Type 0} {R : A → A → Type 0} (xs : List A) {x : A} {ys : List A} → Rising R (xs ++ x ∷ ys) → (y : A) → y ∈ ys → R x y
Rising-behind [] (more f r) = f
Rising-behind (z ∷ xs) (more f r) = Rising-behind xs r

-- ---- lists of one member, and made by ++, map and flat_map
pub Rising-one : {A : Type 0} {R : A → A → Type 0} (x : A) → Rising R (x ∷ [])
Rising-one x = more (λ y m. absurd (Memᴰ.not-nil m)) none

pub Rising-append : {A : Type 0} {R : A → A → Type 0} {xs ys : List A} → Rising R xs → Rising R ys →
    ((x y : A) → x ∈ xs → y ∈ ys → R x y) → Rising R (xs ++ ys)
Rising-append none s m = s
Rising-append {ys} (more {x} {xs} f r) s m =
    more (λ y h. ⊎_elim (f y) (m x y (here refl)) ((in-append xs ys y).0 h)) (Rising-append r s (λ z y h. m z y (there h)))

module _ {A B : Type 0} {R : A → A → Type 0} {S : B → B → Type 0} where
  pub Rising-map : (f : A → B) {xs : List A} → ((x y : A) → R x y → S (f x) (f y)) → Rising R xs → Rising S (map f xs)
  Rising-map f m none = none
  Rising-map f m (more {x} {xs} g r) = more {x = f x} (λ y h. let (z, k, e) = (in-map f xs y).0 h in rw e (m x z (g z k))) (Rising-map f m r)

  -- each part rises, and the part of an earlier member stands before that of a later one
  pub Rising-flat_map : (f : A → List B) {xs : List A} → ((x : A) → Rising S (f x)) →
      ((x y : A) → R x y → (u v : B) → u ∈ f x → v ∈ f y → S u v) → Rising R xs → Rising S (flat_map f xs)
  unfolding flat_map
  Rising-flat_map f each across none = none
  Rising-flat_map f each across (more {x} {xs} g r) =
      Rising-append (each x) (Rising-flat_map f each across r)
      (λ u v h k. let (y, l, m) = (in-flat_map f xs v).0 k in across x y (g y l) u v h m)

-- ---- lists without repetition: each member differs from every later one
abbrev pub Distinct : {A : Type 0} → List A → Type 0
Distinct = Rising ◌≢◌

pub Rising-Distinct : {A : Type 0} {R : A → A → Type 0} → ((x y : A) → R x y → R y x → ⊥) → {xs : List A} → Rising R xs → Distinct xs
Rising-Distinct asym none = none
Rising-Distinct {R} asym (more {x} f r) = more (λ y h e. let q : R x x = subst (R x) (sym e) (f y h) in asym x x q q) (Rising-Distinct asym r)

module _ {A : Type 0} where
  -- the list without one of its members
  without : {x : A} {ys : List A} → x ∈ ys → (zs : List A) × (length ys ≡ suc (length zs)) × ((z : A) → z ∈ ys → z ≢ x → z ∈ zs)
  without {x} (here {x = y} {xs = ys} e) = (ys, refl, others)
    where
      others : (z : A) → z ∈ y ∷ ys → z ≢ x → z ∈ ys
      others z (here d) n = absurd (n (d ∙ sym e))
      others z (there h) n = h
  without {x} (there {x = y} {xs = ys} h) = let (zs, l, f) = without h in (y ∷ zs, ap suc l, others zs f)
    where
      others : (zs : List A) → ((z : A) → z ∈ ys → z ≢ x → z ∈ zs) → (z : A) → z ∈ y ∷ ys → z ≢ x → z ∈ y ∷ zs
      others zs f z (here d) n = here d
      others zs f z (there h) n = there (f z h n)

  no_longer : {xs ys : List A} → Distinct xs → ((z : A) → z ∈ xs → z ∈ ys) → length xs ≤ length ys
  no_longer none f = omega arith
  no_longer (more {x} {xs} g r) f =
      let (zs, l, k) = without (f x (here refl)) in
      omega (arith, l, no_longer r (λ z h. k z (f z (there h)) (λ e. g z h (sym e))))

  pub same_length : {xs ys : List A} → Distinct xs → Distinct ys → ((z : A) → z ∈ xs ↔ z ∈ ys) → length xs ≡ length ys
  same_length r s m = let l = no_longer r (λ z. (m z).0) in let k = no_longer s (λ z. (m z).1) in omega arith
