-- The members of a kept list, that it rises with the list and is no longer, and how long it is where those below a member are
-- kept; what the tests of all members and of any say, and the place of the first that passes.
use mathlib.Core.Path.{◌≡◌, refl, sym, ◌∙◌, ap, ap₂}
use mathlib.Core.Logic.{◌↔◌, ◌⊎◌, inl, inr, ⊎_elim}
use mathlib.Core.Bool.{Bool, true, false, cond, ◌&&◌, ◌||◌, false≢true, and-eq-true_iff, and_assoc}
use mathlib.Core.List.{List, [], ◌∷◌, ◌++◌}
use Prim.Native.Nat.{ℕ, zero, suc, ◌≤◌, ◌<◌}
use native.Mathlib.Omega.{arith}
use lib.Dec.{ltb}
use lib.ListN.{length, get_or}
use borrow.Author.Tests.{lt-ltb, le-ltb}
use Rattle.lists.specs.Members.{◌∈◌, here, there}
use Rattle.lists.specs.Rising.{Rising, none, more}
use Rattle.lists.specs.Keep.{keep, every, any, place}
use Rattle.lists.proofs.Members.{member_at, place_of}

module _ {A : Type 0} (p : A → Bool) where
  -- ---- keep: one member more, which passes or does not
  cond_out : (b : Bool) {x z : A} {ks : List A} → p x ≡ b → z ∈ cond b (x ∷ ks) ks → ((z ≡ x) × (p z ≡ true)) ⊎ (z ∈ ks)
  cond_out true e (here e') = inl (e', ap p e' ∙ e)
  cond_out true e (there h) = inr h
  cond_out false e h = inr h

  cond_here : (b : Bool) {x z : A} (ks : List A) → p x ≡ b → p z ≡ true → z ≡ x → z ∈ cond b (x ∷ ks) ks
  cond_here true ks e t e' = here e'
  cond_here false ks e t e' = absurd (false≢true (sym e ∙ sym (ap p e') ∙ t))

  cond_there : (b : Bool) (x : A) {z : A} {ks : List A} → z ∈ ks → z ∈ cond b (x ∷ ks) ks
  cond_there true x h = there h
  cond_there false x h = h

  cond_Rising : (b : Bool) {R : A → A → Type 0} (x : A) {ks : List A} → ((y : A) → y ∈ ks → R x y) → Rising R ks → Rising R (cond b (x ∷ ks) ks)
  cond_Rising true x f r = more f r
  cond_Rising false x f r = r

  keep_out : (xs : List A) {z : A} → z ∈ keep p xs → (z ∈ xs) × (p z ≡ true)
  unfolding keep
  keep_out [] h = elim h [ ]
  keep_out (x ∷ xs) h = ⊎_elim (λ k. (here k.0, k.1)) (λ k. let (m, t) = keep_out xs k in (there m, t)) (cond_out (p x) refl h)

  keep_into : {z : A} {xs : List A} → z ∈ xs → p z ≡ true → z ∈ keep p xs
  unfolding keep
  keep_into (here {x} {xs} e) t = cond_here (p x) (keep p xs) refl t e
  keep_into (there {x} h) t = cond_there (p x) x (keep_into h t)

  pub in-keep : (xs : List A) (z : A) → z ∈ keep p xs ↔ ((z ∈ xs) × (p z ≡ true))
  in-keep xs z = (keep_out xs, λ h. keep_into h.0 h.1)

  pub Rising-keep : {R : A → A → Type 0} {xs : List A} → Rising R xs → Rising R (keep p xs)
  unfolding keep
  Rising-keep none = none
  Rising-keep (more {x} {xs} f r) = cond_Rising (p x) x (λ y h. f y (keep_out xs h).0) (Rising-keep r)

  cond_length : (b : Bool) (x : A) (ks : List A) {n : ℕ} → length ks ≤ n → length (cond b (x ∷ ks) ks) ≤ suc n
  cond_length true x ks h = omega arith
  cond_length false x ks h = omega arith

  pub length-keep : (xs : List A) → length (keep p xs) ≤ length xs
  unfolding keep
  length-keep [] = omega arith
  length-keep (x ∷ xs) = cond_length (p x) x (keep p xs) (length-keep xs)

  pub keep_none : (xs : List A) → ((z : A) → z ∈ xs → p z ≡ false) → keep p xs ≡ []
  unfolding keep
  keep_none [] f = refl
  keep_none (x ∷ xs) f = rw (f x (here refl)) (keep_none xs (λ z h. f z (there h)))

  pub keep_all : (xs : List A) → ((z : A) → z ∈ xs → p z ≡ true) → keep p xs ≡ xs
  unfolding keep
  keep_all [] f = refl
  keep_all (x ∷ xs) f = rw (f x (here refl)) (ap (λ r. x ∷ r) (keep_all xs (λ z h. f z (there h))))

  -- of two lists, one behind the other
  pub keep_both : (xs ys : List A) → keep p (xs ++ ys) ≡ keep p xs ++ keep p ys
  unfolding keep
  keep_both [] ys = refl
  keep_both (x ∷ xs) ys = go (p x) (keep_both xs ys)
    where
      go : (b : Bool) → keep p (xs ++ ys) ≡ keep p xs ++ keep p ys → cond b (x ∷ keep p (xs ++ ys)) (keep p (xs ++ ys)) ≡ cond b (x ∷ keep p xs) (keep p xs) ++ keep p ys
      go true e = ap (λ r. x ∷ r) e
      go false e = e

  -- ---- every
  every_out : {z : A} {xs : List A} → every p xs ≡ true → z ∈ xs → p z ≡ true
  unfolding every
  every_out t (here {x} {xs} e) = ap p e ∙ ((and-eq-true_iff (p x) (every p xs)).0 t).0
  every_out t (there {x} {xs} h) = every_out ((and-eq-true_iff (p x) (every p xs)).0 t).1 h

  every_into : (xs : List A) → ((z : A) → z ∈ xs → p z ≡ true) → every p xs ≡ true
  unfolding every
  every_into [] f = refl
  every_into (x ∷ xs) f = (and-eq-true_iff (p x) (every p xs)).1 (f x (here refl), every_into xs (λ z h. f z (there h)))

  pub every_iff : (xs : List A) → (every p xs ≡ true) ↔ ((z : A) → z ∈ xs → p z ≡ true)
  every_iff xs = (λ t z h. every_out t h, every_into xs)

  pub every-append : (xs ys : List A) → every p (xs ++ ys) ≡ every p xs && every p ys
  unfolding every
  every-append [] ys = refl
  every-append (x ∷ xs) ys = ap (λ t. p x && t) (every-append xs ys) ∙ sym (and_assoc (p x) (every p xs) (every p ys))

  -- the same by places
  pub every_at : (xs : List A) (d : A) → (every p xs ≡ true) ↔ ((k : ℕ) → k < length xs → p (get_or xs k d) ≡ true)
  every_at xs d = (
    λ t k h. every_out t (member_at xs k d h),
    λ f. every_into xs (λ z h. let (k, l, e) = place_of xs d h in ap p e ∙ f k l),
  )

  -- ---- any
  or_out : (a b : Bool) → (a || b) ≡ true → (a ≡ true) ⊎ (b ≡ true)
  or_out true b e = inl e
  or_out false b e = inr e

  or_right : (a b : Bool) → b ≡ true → (a || b) ≡ true
  or_right true b e = refl
  or_right false b e = e

  any_out : (xs : List A) → any p xs ≡ true → (z : A) × (z ∈ xs) × (p z ≡ true)
  unfolding any
  any_out [] t = absurd (false≢true t)
  any_out (x ∷ xs) t = ⊎_elim (λ e. (x, here refl, e)) (λ e. let (z, h, q) = any_out xs e in (z, there h, q)) (or_out (p x) (any p xs) t)

  any_into : {z : A} {xs : List A} → z ∈ xs → p z ≡ true → any p xs ≡ true
  unfolding any
  any_into (here {x} {xs} e) t = rw (sym (ap p e) ∙ t)
  any_into (there {x} {xs} h) t = or_right (p x) (any p xs) (any_into h t)

  pub any_iff : (xs : List A) → (any p xs ≡ true) ↔ ((z : A) × (z ∈ xs) × (p z ≡ true))
  any_iff xs = (any_out xs, λ h. any_into h.1 h.2)

  -- ---- place: the first member that passes
  pub place_at : (xs : List A) (k : ℕ) (d : A) → k < length xs → p (get_or xs k d) ≡ true → ((i : ℕ) → i < k → p (get_or xs i d) ≡ false) → place p xs ≡ k
  unfolding place
  place_at [] k d h t f = absurd (omega arith)
  place_at (x ∷ xs) zero d h t f = rw t
  place_at (x ∷ xs) (suc k) d h t f = rw (f 0 (omega arith)) (ap suc (place_at xs k d (omega arith) t (λ i l. f (suc i) (omega arith))))

-- tests that agree on the members keep the same
pub keep_same : {A : Type 0} (p q : A → Bool) (xs : List A) → ((z : A) → z ∈ xs → p z ≡ q z) → keep p xs ≡ keep q xs
unfolding keep
keep_same p q [] f = refl
keep_same p q (x ∷ xs) f = ap₂ (λ b ks. cond b (x ∷ ks) ks) (f x (here refl)) (keep_same p q xs (λ z h. f z (there h)))

-- in a rising list of naturals, as many members are lower than a member as stand before it
pub rank_at : {xs : List ℕ} → Rising ◌<◌ xs → (k : ℕ) → k < length xs → length (keep (λ x. ltb x (get_or xs k 0)) xs) ≡ k
unfolding keep
rank_at none k h = absurd (omega arith)
rank_at (more {x} {xs} f r) zero h =
    rw (le-ltb x x (omega arith)) (ap length (keep_none (λ y. ltb y x) xs (λ y k. le-ltb y x (omega (arith, f y k)))))
rank_at (more {x} {xs} f r) (suc k) h =
    rw (lt-ltb x (get_or xs k 0) (f (get_or xs k 0) (member_at xs k 0 (omega arith)))) (ap suc (rank_at r k (omega arith)))
