-- Decisions: a proof of a statement, or a proof that it does not hold. Their types say all that there is to believe of them.
use Rattle.std.specs.Prelude.{◌≡◌, refl, ◌⊎◌, ◌↔◌, Bool, true, false, List, [], ◌∷◌, ℕ, zero, suc, ◌<◌, ◌≤◌, ltb, leb, eqb, ℤ, get_or, length, drop}
use Rattle.std.proofs.Common.{ap, ap₂, subst, inl, inr, ⊎_elim, arith, ltb-true, lt-ltb, leb-true, le-leb, eqb-true, eq-eqb}
use Rattle.std.proofs.Math.Logic.{ite}
use Rattle.std.proofs.lemmas.Bool.{false≢true}
use Rattle.std.proofs.Math.Option.{Option, none, some}
use Rattle.std.proofs.Math.Decide.{ℕ_discrete}
use Rattle.ints.specs.Within.{Within, is_within}
use Rattle.ints.proofs.Within.{Within-true}

-- by a test
abbrev pub tested : {P : Type 0} (t : Bool) → (t ≡ true) ↔ P → Dec P
tested true h = yes (h.0 refl)
tested false h = no (λ p. false≢true (h.1 p))

abbrev pub below? : (m n : ℕ) → Dec (m < n)
below? m n = tested (ltb m n) (ltb-true m n, lt-ltb m n)

abbrev pub at_most? : (m n : ℕ) → Dec (m ≤ n)
at_most? m n = tested (leb m n) (leb-true m n, le-leb m n)

abbrev pub equal? : (m n : ℕ) → Dec (m ≡ n)
equal? m n = tested (eqb m n) (eqb-true m n, eq-eqb m n)

abbrev pub within? : (n : ℕ) (x : ℤ) → Dec (Within n x)
within? n x = tested (is_within n x) (Within-true n x)

-- by others
abbrev pub by : {P Q : Type 0} → P ↔ Q → Dec P → Dec Q
by h (yes p) = yes (h.0 p)
by h (no n) = no (λ q. n (h.1 q))

abbrev pub both : {P Q : Type 0} → Dec P → Dec Q → Dec (P × Q)
both (yes p) (yes q) = yes (p, q)
both (yes p) (no n) = no (λ h. n h.1)
both (no n) d = no (λ h. n h.0)

abbrev pub either : {P Q : Type 0} → Dec P → Dec Q → Dec (P ⊎ Q)
either (yes p) d = yes (inl p)
either (no n) (yes q) = yes (inr q)
either (no n) (no m) = no (λ h. ⊎_elim n m h)

abbrev pub not? : {P : Type 0} → Dec P → Dec (¬ P)
not? (yes p) = no (λ n. n p)
not? (no n) = yes n

abbrev pub list? : (xs ys : List ℕ) → Dec (xs ≡ ys)
list? [] [] = yes refl
list? [] (y ∷ ys) = no (λ e. let l : 0 ≡ suc (length ys) = ap length e in omega arith)
list? (x ∷ xs) [] = no (λ e. let l : suc (length xs) ≡ 0 = ap length e in omega arith)
list? (x ∷ xs) (y ∷ ys) = by (λ h. ap₂ ◌∷◌ h.0 h.1, λ e. (ap (λ l. get_or l 0 0) e, ap (drop 1) e)) (both (equal? x y) (list? xs ys))

-- for some number below n
pub below_next : {P : ℕ → Type 0} (n : ℕ) → (P n ⊎ ((u : ℕ) × ((u < n) × P u))) ↔ ((u : ℕ) × ((u < suc n) × P u))
below_next {P} n = (λ h. ⊎_elim (λ p. (n, (omega arith, p))) (λ (u, k). (u, (omega (arith, k.0), k.1))) h, λ (u, k). go u (ℕ_discrete u n) k.0 k.1)
  where
    go : (u : ℕ) → Dec (u ≡ n) → u < suc n → P u → P n ⊎ ((u : ℕ) × ((u < n) × P u))
    go u (yes e) h p = inl (subst P e p)
    go u (no e) h p = inr (u, (omega (arith, e, h), p))

abbrev pub some? : {P : ℕ → Type 0} → ((u : ℕ) → Dec (P u)) → (n : ℕ) → Dec ((u : ℕ) × ((u < n) × P u))
some? d zero = no (λ (u, h). omega (arith, h.0))
some? d (suc n) = by (below_next n) (either (d n) (some? d n))

-- the first member of which P holds
unfoldable pub first_where : {A : Type 0} {P : A → Type 0} → ((x : A) → Dec (P x)) → List A → Option A
first_where d [] = none
first_where d (x ∷ xs) = ite (d x) (some x) (first_where d xs)
