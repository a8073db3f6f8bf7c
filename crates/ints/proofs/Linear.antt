-- The linear solver: `lin` proves what follows by linear arithmetic over the whole numbers.
--
--     lin (x ∷ y ∷ z ∷ []) (h & k) (search facts depth 20) (omega arith)
--
-- The list holds the atoms, as in Ring.antt; products of atoms count as unknowns of their own. After it come the facts
-- to go by, joined by `&`; `lin₀` takes none. `search facts` turns facts and goal into a statement over ℕ, after ring
-- normalisation, and `omega` proves that. An atom `pos k` is read as the natural k, so what is known of k serves too.
--
-- Read and proved: `≤ℤ`, `<ℤ`, `≡`, `Within`, the tests `le_z` and `lt_z` as definitions and branches have them, `≤`, `<`
-- and `≡` of naturals, and `⊥`, `→`, `×` (so `≢`, `¬` and `↔`) of these; a fact may not be an `↔`, of which a half is
-- handed over. A step that is not linear is handed over as a fact too: see Products.antt.
use mathlib.Core.Path.{◌≡◌, refl, sym, ◌∙◌, ap, ap₂}
use mathlib.Core.Logic.Iff
use mathlib.Core.Logic.{◌↔◌}
use mathlib.Core.Bool.{true, false}
use mathlib.Core.List.{List, [], ◌∷◌}
use Prim.Native.Nat.{ℕ, zero, suc, ◌+◌, ◌*◌, ◌≤◌, ◌<◌}
use native.Mathlib.Omega.{arith}
use lib.IntN.{ℤ, pos, negsuc, ◌+ℤ◌, ◌-ℤ◌, ◌*ℤ◌, +ℤ_idl, +ℤ_idr, zero-*ℤ}
use lib.Signed.{◌≤ℤ◌, ◌<ℤ◌, le_z, lt_z}
use Rattle.ints.specs.Within.{Within}
use Rattle.ints.proofs.Difference.{pos_part, neg_part, ◌⊖◌, differences, ⊖-add, parts, for2}
use Rattle.ints.proofs.Order.{lt_true, lt_false, le_true, le_false}
use Rattle.ints.proofs.RingLaws.{*ℤ_idr}
use Rattle.ints.proofs.Polynomial.{con, nth, product, Poly, none, term, total, difference, difference_sound}
use Rattle.ints.proofs.Ring.{Denotes, terms}

-- ---- a polynomial as a difference of two naturals: what is added, and what is taken away
-- a product with no factor 1 behind it, so that an atom is shown as it is
abbrev pub monomial : List ℕ → List ℤ → ℤ
monomial [] ρ = pos 1
monomial (i ∷ []) ρ = nth ρ i
monomial (i ∷ j ∷ m) ρ = nth ρ i *ℤ monomial (j ∷ m) ρ

-- a term that cancelled leaves no trace
abbrev pub added : Poly → List ℤ → ℕ
added none ρ = 0
added (term (pos zero) m p) ρ = added p ρ
added (term (pos (suc n)) m p) ρ = suc n * pos_part (monomial m ρ) + added p ρ
added (term (negsuc n) m p) ρ = suc n * neg_part (monomial m ρ) + added p ρ

abbrev pub taken : Poly → List ℤ → ℕ
taken none ρ = 0
taken (term (pos zero) m p) ρ = taken p ρ
taken (term (pos (suc n)) m p) ρ = suc n * neg_part (monomial m ρ) + taken p ρ
taken (term (negsuc n) m p) ρ = suc n * pos_part (monomial m ρ) + taken p ρ

monomial_is : (m : List ℕ) (ρ : List ℤ) → product m ρ ≡ monomial m ρ
monomial_is [] ρ = refl
monomial_is (i ∷ []) ρ = *ℤ_idr (nth ρ i)
monomial_is (i ∷ j ∷ m) ρ = ap (λ t. nth ρ i *ℤ t) (monomial_is (j ∷ m) ρ)

-- one term more
one_more : (c : ℤ) (m : List ℕ) (p : Poly) (ρ : List ℤ) (a b : ℕ) →
    c *ℤ (pos_part (monomial m ρ) ⊖ neg_part (monomial m ρ)) ≡ a ⊖ b → total p ρ ≡ added p ρ ⊖ taken p ρ →
    total (term c m p) ρ ≡ (a + added p ρ) ⊖ (b + taken p ρ)
one_more c m p ρ a b e f =
    ap₂ (λ s t. c *ℤ s +ℤ t) (monomial_is m ρ ∙ parts (monomial m ρ)) f
    ∙ ap (λ s. s +ℤ (added p ρ ⊖ taken p ρ)) e
    ∙ ⊖-add a b (added p ρ) (taken p ρ)

total_is : (p : Poly) (ρ : List ℤ) → total p ρ ≡ added p ρ ⊖ taken p ρ
total_is none ρ = simp differences (omega arith)
total_is (term (pos zero) m p) ρ = ap (λ t. t +ℤ total p ρ) (zero-*ℤ (product m ρ)) ∙ +ℤ_idl (total p ρ) ∙ total_is p ρ
total_is (term (pos (suc n)) m p) ρ = one_more (pos (suc n)) m p ρ _ _ (simp differences (omega arith)) (total_is p ρ)
total_is (term (negsuc n) m p) ρ = one_more (negsuc n) m p ρ _ _ (simp differences (omega arith)) (total_is p ρ)

-- ---- a statement, and what it is over ℕ
pub record Reading (ρ : List ℤ) (A : Type 0) : Type 1 where
  pub over_ℕ : Type 0
  pub to : A → over_ℕ
  pub from : over_ℕ → A

abbrev pub exactly : (ρ : List ℤ) {A S : Type 0} → A ↔ S → Reading ρ A
exactly ρ {S} e = record { over_ℕ = S; to = e.0; from = e.1 }

-- the same statement in other words
abbrev pub via : (ρ : List ℤ) {A B : Type 0} → A ↔ B → Reading ρ B → Reading ρ A
via ρ e r = record { over_ℕ = r.over_ℕ; to = λ a. r.to (e.0 a); from = λ s. e.1 (r.from s) }

-- ---- comparisons
pub le_iff : (x y : ℤ) (a b : ℕ) → y -ℤ x ≡ a ⊖ b → (x ≤ℤ y) ↔ (b ≤ a)
le_iff = for2 _ (λ c d e f a b. simp differences (omega arith))

pub lt_iff : (x y : ℤ) (a b : ℕ) → y -ℤ x ≡ a ⊖ b → (x <ℤ y) ↔ (b < a)
lt_iff = for2 _ (λ c d e f a b. simp differences (omega arith))

pub eq_iff : (x y : ℤ) (a b : ℕ) → y -ℤ x ≡ a ⊖ b → (x ≡ y) ↔ (b ≡ a)
eq_iff = for2 _ (λ c d e f a b. simp differences (omega arith))

pub Within-iff : (n : ℕ) (x : ℤ) (a b : ℕ) → x ≡ a ⊖ b → Within n x ↔ ((b ≤ a + n) × (a ≤ b + n))
Within-iff n (pos c) a b e = let e' : c + b ≡ a + 0 = simp differences at e in (λ h. omega (arith, h.size), λ h. record { size = omega arith })
Within-iff n (negsuc c) a b e = let e' : 0 + b ≡ a + suc c = simp differences at e in (λ h. omega (arith, h.size), λ h. record { size = omega arith })

module _ (ρ : List ℤ) (x y : ℤ) (l : Denotes ρ x) (r : Denotes ρ y) where
  abbrev pub gap : Poly
  gap = difference l.expr r.expr

  pub gap_is : y -ℤ x ≡ added gap ρ ⊖ taken gap ρ
  gap_is = sym (ap₂ ◌-ℤ◌ r.is l.is) ∙ difference_sound l.expr r.expr ρ ∙ total_is gap ρ

  abbrev pub reads_≤ : Reading ρ (x ≤ℤ y)
  reads_≤ = exactly ρ (le_iff x y (added gap ρ) (taken gap ρ) gap_is)

  abbrev pub reads_< : Reading ρ (x <ℤ y)
  reads_< = exactly ρ (lt_iff x y (added gap ρ) (taken gap ρ) gap_is)

  abbrev pub reads_≡ : Reading ρ (x ≡ y)
  reads_≡ = exactly ρ (eq_iff x y (added gap ρ) (taken gap ρ) gap_is)

-- ---- sizes
module _ (ρ : List ℤ) (x : ℤ) (l : Denotes ρ x) where
  abbrev pub value : Poly
  value = difference (con (pos 0)) l.expr

  pub value_is : x ≡ added value ρ ⊖ taken value ρ
  value_is = sym (+ℤ_idr x) ∙ gap_is ρ (pos 0) x (record { expr = con (pos 0); is = refl }) l

  abbrev pub reads_within : (n : ℕ) → Reading ρ (Within n x)
  reads_within n = exactly ρ (Within-iff n x (added value ρ) (taken value ρ) value_is)

-- ---- statements about naturals stand as they are
abbrev pub reads_nat_≤ : (ρ : List ℤ) (m n : ℕ) → Reading ρ (m ≤ n)
reads_nat_≤ ρ m n = exactly ρ Iff.rfl

abbrev pub reads_nat_≡ : (ρ : List ℤ) (m n : ℕ) → Reading ρ (m ≡ n)
reads_nat_≡ ρ m n = exactly ρ Iff.rfl

-- ---- connectives
abbrev pub reads_⊥ : (ρ : List ℤ) → Reading ρ ⊥
reads_⊥ ρ = record { over_ℕ = ⊥; to = λ x. x; from = λ x. x }

abbrev pub reads_× : (ρ : List ℤ) (A B : Type 0) → Reading ρ A → Reading ρ B → Reading ρ (A × B)
reads_× ρ A B a b = record { over_ℕ = a.over_ℕ × b.over_ℕ; to = λ p. (a.to p.0, b.to p.1); from = λ p. (a.from p.0, b.from p.1) }

-- an assumption: what it puts before a goal over ℕ. Facts joined by `&` come one after the other
pub record Given (ρ : List ℤ) (A : Type 0) : Type 1 where
  pub before : Type 0 → Type 0
  pub take : (X : Type 0) → (A → X) → before X
  pub give : (X : Type 0) → before X → A → X

abbrev pub given : (ρ : List ℤ) (A : Type 0) → Reading ρ A → Given ρ A
given ρ A a = record { before = λ X. a.over_ℕ → X; take = λ X f s. f (a.from s); give = λ X g x. g (a.to x) }

abbrev pub given_& : (ρ : List ℤ) (A B : Type 0) → Given ρ A → Given ρ B → Given ρ (A × B)
given_& ρ A B a b = record {
  before = λ X. a.before (b.before X);
  take = λ X f. a.take (b.before X) (λ x. b.take X (λ y. f (x, y)));
  give = λ X g p. b.give X (a.give (b.before X) g p.0) p.1;
}

abbrev pub reads_→ : (ρ : List ℤ) (A B : Type 0) → Given ρ A → Reading ρ B → Reading ρ (A → B)
reads_→ ρ A B a b = record {
  over_ℕ = a.before b.over_ℕ;
  to = λ f. a.take b.over_ℕ (λ x. b.to (f x));
  from = λ g x. b.from (a.give b.over_ℕ g x);
}

-- ---- tests
abbrev pub reads_lt_true : (ρ : List ℤ) (x y : ℤ) → Reading ρ (x <ℤ y) → Reading ρ (lt_z x y ≡ true)
reads_lt_true ρ x y r = via ρ (lt_true x y) r

abbrev pub reads_lt_false : (ρ : List ℤ) (x y : ℤ) → Reading ρ (y ≤ℤ x) → Reading ρ (lt_z x y ≡ false)
reads_lt_false ρ x y r = via ρ (lt_false x y) r

abbrev pub reads_le_true : (ρ : List ℤ) (x y : ℤ) → Reading ρ (x ≤ℤ y) → Reading ρ (le_z x y ≡ true)
reads_le_true ρ x y r = via ρ (le_true x y) r

abbrev pub reads_le_false : (ρ : List ℤ) (x y : ℤ) → Reading ρ (y <ℤ x) → Reading ρ (le_z x y ≡ false)
reads_le_false ρ x y r = via ρ (le_false x y) r

pub ruleset tests = (reads_lt_true, reads_lt_false, reads_le_true, reads_le_false)

pub ruleset connectives = (reads_⊥, reads_×, reads_→, given_&, given)

pub ruleset facts = (tests, terms, reads_≤, reads_<, reads_≡, reads_within, reads_nat_≤, reads_nat_≡, connectives)

-- ---- the tool
infixl 4 ◌&◌
pub ◌&◌ : {A B : Type 0} → A → B → A × B
a & b = (a, b)

pub lin₀ : (ρ : List ℤ) {G : Type 0} (r : Reading ρ G) → r.over_ℕ → G
lin₀ ρ r s = r.from s

pub lin : (ρ : List ℤ) {A G : Type 0} → A → (r : Reading ρ (A → G)) → r.over_ℕ → G
lin ρ a r s = r.from s a
