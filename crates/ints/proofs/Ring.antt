-- The ring solver: `ring` proves an equation that holds in every commutative ring.
--
--     ring (x ∷ y ∷ []) (search terms depth 20) (search terms depth 20) tt
--
-- The list holds the atoms, any terms at all. `search terms` reads each side of the goal as an expression over them:
-- sums, products, differences and negations are taken apart, a numeral is a constant, and anything else is looked up
-- in the list. `tt` is accepted when the two normal forms are the same.
use mathlib.Core.Path.{◌≡◌, refl, sym, ◌∙◌, ap, ap₂}
use mathlib.Core.Bool.{true}
use mathlib.Core.List.{List, ◌∷◌}
use Prim.Native.Nat.{ℕ, suc}
use lib.Dec.{T, eqb}
use lib.IntN.{ℤ, pos, negsuc, neg_ℤ, ◌+ℤ◌, ◌*ℤ◌}
use Rattle.ints.proofs.Polynomial.{Expr, var, con, ◌⊞◌, ◌⊠◌, neg, nth, eval, difference, vanishes, equal}

-- x is the expression, read over the atoms ρ
pub record Denotes (ρ : List ℤ) (x : ℤ) : Type 0 where
  pub expr : Expr
  pub is : eval expr ρ ≡ x

-- x is an atom
pub record Atom (ρ : List ℤ) (x : ℤ) : Type 0 where
  pub place : ℕ
  pub is : nth ρ place ≡ x

-- four places at a time: `search` counts its steps, and a longer list takes more of them
abbrev pub at0 : (x : ℤ) (ρ : List ℤ) → Atom (x ∷ ρ) x
at0 x ρ = record { place = 0; is = refl }

abbrev pub at1 : (a x : ℤ) (ρ : List ℤ) → Atom (a ∷ x ∷ ρ) x
at1 a x ρ = record { place = 1; is = refl }

abbrev pub at2 : (a b x : ℤ) (ρ : List ℤ) → Atom (a ∷ b ∷ x ∷ ρ) x
at2 a b x ρ = record { place = 2; is = refl }

abbrev pub at3 : (a b c x : ℤ) (ρ : List ℤ) → Atom (a ∷ b ∷ c ∷ x ∷ ρ) x
at3 a b c x ρ = record { place = 3; is = refl }

abbrev pub past4 : (a b c d x : ℤ) (ρ : List ℤ) → Atom ρ x → Atom (a ∷ b ∷ c ∷ d ∷ ρ) x
past4 a b c d x ρ p = record { place = suc (suc (suc (suc p.place))); is = p.is }

abbrev pub atom : (ρ : List ℤ) (x : ℤ) → Atom ρ x → Denotes ρ x
atom ρ x p = record { expr = var p.place; is = p.is }

-- only a numeral n passes `eqb n n ≡ true` by computing: `pos k` of a variable k is an atom
abbrev pub literal : (ρ : List ℤ) (n : ℕ) → eqb n n ≡ true → Denotes ρ (pos n)
literal ρ n t = record { expr = con (pos n); is = refl }

abbrev pub neg_literal : (ρ : List ℤ) (n : ℕ) → eqb n n ≡ true → Denotes ρ (negsuc n)
neg_literal ρ n t = record { expr = con (negsuc n); is = refl }

abbrev pub plus : (ρ : List ℤ) (x y : ℤ) → Denotes ρ x → Denotes ρ y → Denotes ρ (x +ℤ y)
plus ρ x y l r = record { expr = l.expr ⊞ r.expr; is = ap₂ ◌+ℤ◌ l.is r.is }

abbrev pub times : (ρ : List ℤ) (x y : ℤ) → Denotes ρ x → Denotes ρ y → Denotes ρ (x *ℤ y)
times ρ x y l r = record { expr = l.expr ⊠ r.expr; is = ap₂ ◌*ℤ◌ l.is r.is }

abbrev pub negation : (ρ : List ℤ) (x : ℤ) → Denotes ρ x → Denotes ρ (neg_ℤ x)
negation ρ x l = record { expr = neg l.expr; is = ap neg_ℤ l.is }

pub ruleset terms = (at0, at1, at2, at3, past4, plus, times, negation, atom, literal, neg_literal)

pub ring : (ρ : List ℤ) {x y : ℤ} (l : Denotes ρ x) (r : Denotes ρ y) → T (vanishes (difference l.expr r.expr)) → x ≡ y
ring ρ l r t = sym l.is ∙ equal l.expr r.expr ρ t ∙ r.is
