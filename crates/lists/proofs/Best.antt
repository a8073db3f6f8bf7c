-- The first best of a rising list is the best: it is a member, beats every other, and no other member does.
use mathlib.Core.Path.{◌≡◌, refl, sym, ◌∙◌, ap}
use mathlib.Core.Logic.{◌⊎◌, inl, inr, ◌↔◌}
use mathlib.Core.Bool.{Bool, true, false, cond}
use mathlib.Core.List.Memᴰ
use lib.Signed.{<ℤ-≤ℤ_trans}
use Rattle.ints.proofs.{ℤ, ◌≤ℤ◌, ◌<ℤ◌, lt_z, List, [], ◌∷◌, arith, facts, lin, le_or_lt}
use Rattle.ints.proofs.Order.{lt_asym, lt_ne, lt_trans, lt_true, lt_false, le_antisym, le-lt_trans}
use Rattle.lists.specs.Members.{◌∈◌, here, there}
use Rattle.lists.specs.Rising.{Rising, none, more}
use Rattle.lists.specs.Best.{Beats, greater, earlier, Best, first_best, best_of}

module _ {A : Type 0} (value : A → ℤ) {R : A → A → Type 0} where
  -- what the best is or beats is worth no more
  pub at_most : {m x : A} → (x ≡ m) ⊎ Beats value R m x → value x ≤ℤ value m
  at_most {m} {x} (inl e) = lin (value x ∷ value m ∷ []) (ap value e) (search facts depth 20) (omega arith)
  at_most {m} {x} (inr (greater h)) = lin (value x ∷ value m ∷ []) h (search facts depth 20) (omega arith)
  at_most {m} {x} (inr (earlier e r)) = lin (value x ∷ value m ∷ []) e (search facts depth 20) (omega arith)

  -- and where it is worth as much, the order decides
  pub among_equals : {m x : A} → value x ≡ value m → (x ≡ m) ⊎ Beats value R m x → (x ≡ m) ⊎ R m x
  among_equals q (inl e) = inl e
  among_equals {m} {x} q (inr (greater h)) = absurd (lt_ne (value x) (value m) h q)
  among_equals q (inr (earlier e r)) = inr r

  module _ (trans : (x y z : A) → R x y → R y z → R x z) where
    -- a member x behind b that is worth no more than b
    behind : {m b x : A} → value x ≤ℤ value b → R b x → (b ≡ m) ⊎ Beats value R m b → Beats value R m x
    behind {m} {b} {x} h r k = go (le_or_lt (value m) (value x)) k
      where
        go : (value m ≤ℤ value x) ⊎ (value x <ℤ value m) → (b ≡ m) ⊎ Beats value R m b → Beats value R m x
        go (inr l) k = greater l
        go (inl l) (inl e) = earlier (le_antisym (value m) (value x) l (rw e at h)) (rw e at r)
        go (inl l) (inr (greater g)) = greater (le-lt_trans (value x) (value b) (value m) h g)
        go (inl l) (inr (earlier e g)) = earlier (le_antisym (value m) (value x) l (rw (sym e) at h)) (trans m b x g r)

    -- the best of b, x, xs is that of x, xs where x is worth more than b, and else that of b, xs
    pass : {b x m : A} {xs : List A} → value b <ℤ value x → Best value R (x ∷ xs) m → Best value R (b ∷ x ∷ xs) m
    pass {b} {x} {m} {xs} l p = record { member = there p.member; beats = beats' }
      where
        beats' : (y : A) → y ∈ b ∷ x ∷ xs → (y ≡ m) ⊎ Beats value R m y
        beats' y (here e) = inr (greater (rw e (<ℤ-≤ℤ_trans l (at_most (p.beats x (here refl))))))
        beats' y (there h) = p.beats y h

    stay : {b x m : A} {xs : List A} → value x ≤ℤ value b → R b x → Best value R (b ∷ xs) m → Best value R (b ∷ x ∷ xs) m
    stay {b} {x} {m} {xs} l r p = record { member = member' p.member; beats = beats' }
      where
        member' : m ∈ b ∷ xs → m ∈ b ∷ x ∷ xs
        member' (here e) = here e
        member' (there h) = there (there h)

        beats' : (y : A) → y ∈ b ∷ x ∷ xs → (y ≡ m) ⊎ Beats value R m y
        beats' y (here e) = p.beats y (here e)
        beats' y (there (here e)) = inr (rw e (behind l r (p.beats b (here refl))))
        beats' y (there (there h)) = p.beats y (there h)

    choose : (t : Bool) {b x : A} {xs : List A} → lt_z (value b) (value x) ≡ t → R b x →
        Best value R (x ∷ xs) (first_best value x xs) → Best value R (b ∷ xs) (first_best value b xs) →
        Best value R (b ∷ x ∷ xs) (first_best value (cond t x b) xs)
    choose true {b} {x} e r p q = pass ((lt_true (value b) (value x)).0 e) p
    choose false {b} {x} e r p q = stay ((lt_false (value b) (value x)).0 e) r q

    -- it is one
    pub first_best_lem : (b : A) (xs : List A) → Rising R (b ∷ xs) → Best value R (b ∷ xs) (first_best value b xs)
    unfolding first_best
    first_best_lem b [] r = record { member = here refl; beats = only }
      where
        only : (y : A) → y ∈ b ∷ [] → (y ≡ b) ⊎ Beats value R b y
        only y (here e) = inl e
        only y (there h) = absurd (Memᴰ.not-nil h)
    first_best_lem b (x ∷ xs) (more g (more h r)) =
        choose (lt_z (value b) (value x)) refl (g x (here refl))
        (first_best_lem x xs (more h r))
        (first_best_lem b xs (more (λ y k. g y (there k)) r))

    -- so what `best_of` finds of a list with a member is the best of it
    pub best_of-Best : (d : A) {xs : List A} {x : A} → Rising R xs → x ∈ xs → Best value R xs (best_of value d xs)
    unfolding best_of
    best_of-Best d {xs = []} r h = absurd (Memᴰ.not-nil h)
    best_of-Best d {xs = y ∷ ys} r h = first_best_lem y ys r

    -- ---- `Beats` is a strict total order where R is one
    pub Beats-trans : {x y z : A} → Beats value R x y → Beats value R y z → Beats value R x z
    Beats-trans {x} {y} {z} (greater h) (greater k) = greater (lt_trans (value z) (value y) (value x) k h)
    Beats-trans {x} {y} {z} (greater h) (earlier e k) = greater (rw e at h)
    Beats-trans {x} {y} {z} (earlier e h) (greater k) = greater (rw (sym e) at k)
    Beats-trans {x} {y} {z} (earlier e h) (earlier e' k) = earlier (e ∙ e') (trans x y z h k)

  pub Beats-compared : {x y : A} → (x ≡ y) ⊎ (R x y ⊎ R y x) → (x ≡ y) ⊎ (Beats value R x y ⊎ Beats value R y x)
  Beats-compared {x} {y} c = go (le_or_lt (value y) (value x)) (le_or_lt (value x) (value y)) c
    where
      go : (value y ≤ℤ value x) ⊎ (value x <ℤ value y) → (value x ≤ℤ value y) ⊎ (value y <ℤ value x) → (x ≡ y) ⊎ (R x y ⊎ R y x) →
          (x ≡ y) ⊎ (Beats value R x y ⊎ Beats value R y x)
      go (inr h) k c = inr (inr (greater h))
      go (inl h) (inr k) c = inr (inl (greater k))
      go (inl h) (inl k) (inl e) = inl e
      go (inl h) (inl k) (inr (inl r)) = inr (inl (earlier (le_antisym (value x) (value y) k h) r))
      go (inl h) (inl k) (inr (inr r)) = inr (inr (earlier (le_antisym (value y) (value x) h k) r))

  -- there is only one
  module _ (asym : (x y : A) → R x y → R y x → ⊥) where
    pub Beats-asym : {x y : A} → Beats value R x y → Beats value R y x → ⊥
    Beats-asym {x} {y} (greater h) (greater k) = lt_asym (value x) (value y) k h
    Beats-asym {x} {y} (greater h) (earlier e r) = lt_ne (value y) (value x) h e
    Beats-asym {x} {y} (earlier e r) (greater k) = lt_ne (value x) (value y) k e
    Beats-asym {x} {y} (earlier e r) (earlier e' r') = asym x y r r'

    pub Best-unique : {xs : List A} {x y : A} → Best value R xs x → Best value R xs y → x ≡ y
    Best-unique {xs} {x} {y} p q = go (q.beats x p.member) (p.beats y q.member)
      where
        go : (x ≡ y) ⊎ Beats value R y x → (y ≡ x) ⊎ Beats value R x y → x ≡ y
        go (inl e) k = e
        go (inr h) (inl e) = sym e
        go (inr h) (inr k) = absurd (Beats-asym k h)

    -- so whatever is the best of a rising list is what `best_of` finds
    pub is_best_of : (trans : (x y z : A) → R x y → R y z → R x z) (d : A) {xs : List A} {x : A} → Rising R xs → Best value R xs x → x ≡ best_of value d xs
    unfolding best_of
    is_best_of trans d {xs = []} r p = absurd (Memᴰ.not-nil p.member)
    is_best_of trans d {xs = y ∷ ys} r p = Best-unique p (first_best_lem trans y ys r)

-- ---- in any order of the list the best is of one value
module _ {A : Type 0} (value : A → ℤ) where
  -- every list rises in the order in which anything comes before anything
  abbrev Anywhere : A → A → Type 0
  Anywhere x y = Unit {0}

  anyhow : (xs : List A) → Rising Anywhere xs
  anyhow [] = none
  anyhow (x ∷ xs) = more (λ y h. tt) (anyhow xs)

  Best-anyhow : (d : A) {xs : List A} {x : A} → x ∈ xs → Best value Anywhere xs (best_of value d xs)
  Best-anyhow d {xs} = best_of-Best value (λ x y z r s. tt) d (anyhow xs)

  pub best_of_member : (d : A) {xs : List A} {x : A} → x ∈ xs → best_of value d xs ∈ xs
  best_of_member d h = (Best-anyhow d h).member

  no_less : (d : A) {xs ys : List A} {x : A} → ((z : A) → z ∈ xs → z ∈ ys) → x ∈ xs → value (best_of value d xs) ≤ℤ value (best_of value d ys)
  no_less d {xs} m h = at_most value ((Best-anyhow d (m _ h)).beats (best_of value d xs) (m _ (best_of_member d h)))

  pub same_value : (d : A) {xs ys : List A} → ((z : A) → z ∈ xs ↔ z ∈ ys) → value (best_of value d xs) ≡ value (best_of value d ys)
  same_value d {xs = []} {ys = []} m = refl
  same_value d {xs = []} {ys = y ∷ ys} m = absurd (Memᴰ.not-nil ((m y).1 (here refl)))
  same_value d {xs = x ∷ xs} {ys} m =
      le_antisym (value (best_of value d (x ∷ xs))) (value (best_of value d ys))
      (no_less d (λ z. (m z).0) (here refl)) (no_less d (λ z. (m z).1) ((m x).0 (here refl)))
