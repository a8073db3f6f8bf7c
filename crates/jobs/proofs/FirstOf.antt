-- The first member of a list of which P holds.
use mathlib.Core.Path.{◌≡◌, refl, sym, ◌∙◌, ap, subst}
use mathlib.Core.Logic.{◌↔◌, ◌⊎◌, inl, inr, ⊎_elim, if_pos, if_neg}
use mathlib.Core.Option.{Option, none, some, none-ne-some, some-injective}
use mathlib.Core.List.Memᴰ
use mathlib.Core.List.{List, [], ◌∷◌, ◌++◌}
use Rattle.lists.specs.Members.{◌∈◌, here, there}
use Rattle.lists.specs.Rising.{Rising}
use Rattle.lists.proofs.Members.{in-append}
use Rattle.lists.proofs.Rising.{Rising-behind}
use Rattle.jobs.specs.ReasonTable.{First}
use Rattle.jobs.specs.Decide.{first_where}

module _ {A : Type 0} {P : A → Type 0} (d : (x : A) → Dec (P x)) where
  pub first_none : first_where d [] ≡ none
  unfolding first_where
  first_none = refl

  pub first_here : (x : A) (xs : List A) → P x → first_where d (x ∷ xs) ≡ some x
  unfolding first_where
  first_here x xs h = if_pos (d x) h (some x) (first_where d xs)

  pub first_later : (x : A) (xs : List A) → ¬ P x → first_where d (x ∷ xs) ≡ first_where d xs
  unfolding first_where
  first_later x xs h = if_neg (d x) h (some x) (first_where d xs)

  -- of two lists one after the other
  pub first_past : (xs ys : List A) → first_where d xs ≡ none → first_where d (xs ++ ys) ≡ first_where d ys
  first_past [] ys e = refl
  first_past (x ∷ xs) ys e = go (d x) (first_past xs ys)
    where
      go : Dec (P x) → (first_where d xs ≡ none → first_where d (xs ++ ys) ≡ first_where d ys) → first_where d (x ∷ (xs ++ ys)) ≡ first_where d ys
      go (yes h) f = absurd (none-ne-some x (sym e ∙ first_here x xs h))
      go (no h) f = first_later x (xs ++ ys) h ∙ f (sym (first_later x xs h) ∙ e)

  pub first_stays : (xs ys : List A) {z : A} → first_where d xs ≡ some z → first_where d (xs ++ ys) ≡ some z
  first_stays [] ys {z} e = absurd (none-ne-some z (sym first_none ∙ e))
  first_stays (x ∷ xs) ys {z} e = go (d x) (first_stays xs ys)
    where
      go : Dec (P x) → (first_where d xs ≡ some z → first_where d (xs ++ ys) ≡ some z) → first_where d (x ∷ (xs ++ ys)) ≡ some z
      go (yes h) f = first_here x (xs ++ ys) h ∙ sym (first_here x xs h) ∙ e
      go (no h) f = first_later x (xs ++ ys) h ∙ f (sym (first_later x xs h) ∙ e)

  -- where there is none, P holds of no member
  pub none_holds : (xs : List A) → first_where d xs ≡ none → (x : A) → x ∈ xs → ¬ P x
  none_holds [] e x m = elim m [ ]
  none_holds (y ∷ ys) e x m = go (d y) (none_holds ys) m
    where
      go : Dec (P y) → (first_where d ys ≡ none → (x : A) → x ∈ ys → ¬ P x) → x ∈ y ∷ ys → ¬ P x
      go (yes h) f k = absurd (none-ne-some y (sym e ∙ first_here y ys h))
      go (no h) f (here q) = λ p. h (subst P q p)
      go (no h) f (there k) = f (sym (first_later y ys h) ∙ e) x k

  pub holds_none : (xs : List A) → ((x : A) → x ∈ xs → ¬ P x) → first_where d xs ≡ none
  holds_none [] f = first_none
  holds_none (x ∷ xs) f = first_later x xs (f x (here refl)) ∙ holds_none xs (λ y m. f y (there m))

  -- members behind of which P does not hold change nothing
  pub first_before : (xs ys : List A) → first_where d ys ≡ none → first_where d (xs ++ ys) ≡ first_where d xs
  first_before xs ys h = go (first_where d xs) refl
    where
      go : (o : Option A) → first_where d xs ≡ o → first_where d (xs ++ ys) ≡ first_where d xs
      go none e = first_past xs ys e ∙ h ∙ sym e
      go (some z) e = first_stays xs ys e ∙ sym e

  -- nor do members in between
  pub first_drop : (xs ys zs : List A) → first_where d ys ≡ none → first_where d ((xs ++ ys) ++ zs) ≡ first_where d (xs ++ zs)
  first_drop [] ys zs h = first_past ys zs h
  first_drop (x ∷ xs) ys zs h = go (d x) (first_drop xs ys zs h)
    where
      go : Dec (P x) → first_where d ((xs ++ ys) ++ zs) ≡ first_where d (xs ++ zs) → first_where d (x ∷ ((xs ++ ys) ++ zs)) ≡ first_where d (x ∷ (xs ++ zs))
      go (yes p) e = first_here x ((xs ++ ys) ++ zs) p ∙ sym (first_here x (xs ++ zs) p)
      go (no n) e = first_later x ((xs ++ ys) ++ zs) n ∙ e ∙ sym (first_later x (xs ++ zs) n)

  -- what is found stands behind members of which P does not hold
  pub First-iff : (xs : List A) (x : A) → (first_where d xs ≡ some x) ↔ First P xs x
  First-iff xs x = (out xs, λ f. rw f.listed (first_past f.earlier (x ∷ f.later) (holds_none f.earlier f.none_before) ∙ first_here x f.later f.holds))
    where
      out : (xs : List A) → first_where d xs ≡ some x → First P xs x
      out [] e = absurd (none-ne-some x (sym first_none ∙ e))
      out (z ∷ zs) e = go (d z) (out zs)
        where
          more : ¬ P z → (f : First P zs x) (y : A) → y ∈ z ∷ f.earlier → ¬ P y
          more h f y (here q) p = h (subst P q p)
          more h f y (there m) p = f.none_before y m p

          go : Dec (P z) → (first_where d zs ≡ some x → First P zs x) → First P (z ∷ zs) x
          go (yes h) f =
              let q = some-injective z x (sym (first_here z zs h) ∙ e) in
              record { earlier = []; later = zs; listed = ap (λ y. y ∷ zs) q; none_before = λ y m. absurd (Memᴰ.not-nil m); holds = subst P q h }
          go (no h) f =
              let k = f (sym (first_later z zs h) ∙ e) in
              record { earlier = z ∷ k.earlier; later = k.later; listed = ap (λ l. z ∷ l) k.listed; none_before = more h k; holds = k.holds }

  -- in a rising list it is the member of which P holds, and of none that R puts before it
  module _ {R : A → A → Type 0} (asym : (x y : A) → R x y → R y x → ⊥) {xs : List A} (rising : Rising R xs) where
    -- where a member stands
    placed : {x : A} → First P xs x → {y : A} → y ∈ xs → P y → (y ≡ x) ⊎ R x y
    placed {x} f {y} m p = go ((in-append f.earlier (x ∷ f.later) y).0 (subst (λ l. y ∈ l) f.listed m))
      where
        go : (y ∈ f.earlier) ⊎ (y ∈ x ∷ f.later) → (y ≡ x) ⊎ R x y
        go (inl k) = absurd (f.none_before y k p)
        go (inr (here e)) = inl e
        go (inr (there k)) = inr (Rising-behind f.earlier (subst (Rising R) f.listed rising) y k)

    pub first_rising : (x : A) → (first_where d xs ≡ some x) ↔ ((x ∈ xs) × (P x × ((y : A) → y ∈ xs → R y x → ¬ P y)))
    first_rising x = (λ e. let f = (First-iff xs x).0 e in (inside f, (f.holds, λ y m r p. ⊎_elim (λ q. same q r) (λ l. asym x y l r) (placed f m p))), λ (m, (p, b)). into m p b (first_where d xs) refl)
      where
        inside : {x : A} → First P xs x → x ∈ xs
        inside {x} f = rw f.listed ((in-append f.earlier (x ∷ f.later) x).1 (inr (here refl)))

        same : {y : A} → y ≡ x → R y x → ⊥
        same q r = let s : R x x = rw q at r in asym x x s s

        into : x ∈ xs → P x → ((y : A) → y ∈ xs → R y x → ¬ P y) → (o : Option A) → first_where d xs ≡ o → o ≡ some x
        into m p b none e = absurd (none_holds xs e x m p)
        into m p b (some y) e = let f = (First-iff xs y).0 e in ⊎_elim (λ q. ap some (sym q)) (λ l. absurd (b y (inside f) l f.holds)) (placed f m p)

-- statements that agree on the members have the same first
pub first_same : {A : Type 0} {P Q : A → Type 0} (d : (x : A) → Dec (P x)) (e : (x : A) → Dec (Q x)) (xs : List A) → ((x : A) → x ∈ xs → P x ↔ Q x) → first_where d xs ≡ first_where e xs
first_same d e [] f = first_none d ∙ sym (first_none e)
first_same {P} d e (x ∷ xs) f = go (d x) (first_same d e xs (λ y m. f y (there m)))
  where
    go : Dec (P x) → first_where d xs ≡ first_where e xs → first_where d (x ∷ xs) ≡ first_where e (x ∷ xs)
    go (yes h) q = first_here d x xs h ∙ sym (first_here e x xs ((f x (here refl)).0 h))
    go (no h) q = first_later d x xs h ∙ q ∙ sym (first_later e x xs (λ k. h ((f x (here refl)).1 k)))
