-- Polynomials over ℤ as data: expressions, their normal form, and that an expression and its normal form are one number.
-- Variables are places in a list of numbers, `ρ`.
use mathlib.Core.Path.{◌≡◌, refl, sym, ◌∙◌, ap, ap₂}
use mathlib.Core.Bool.{Bool, true, false, ◌&&◌}
use mathlib.Core.List.{List, [], ◌∷◌}
use Prim.Native.Nat.{ℕ, zero, suc, compare, Ordering}
use lib.Dec.{T, eqb, eqb→eq}
use lib.IntN.{ℤ, pos, negsuc, neg_ℤ, ◌+ℤ◌, ◌-ℤ◌, ◌*ℤ◌, +ℤ_idl, +ℤ_idr, +ℤ_assoc, zero-*ℤ, *ℤ-zero}
use Rattle.ints.proofs.RingLaws.{*ℤ_assoc, *ℤ_distribr, *ℤ_idl, *ℤ_idr, +ℤ_swap, *ℤ_swap, merge, regroup, factor, minus_one, sub_zero}

-- ---- expressions
infixl 6 ◌⊞◌
infixl 7 ◌⊠◌
pub data Expr : Type 0 where
  var : ℕ → Expr
  con : ℤ → Expr
  ◌⊞◌ : Expr → Expr → Expr
  ◌⊠◌ : Expr → Expr → Expr
  neg : Expr → Expr

abbrev pub nth : List ℤ → ℕ → ℤ
nth [] i = pos 0
nth (x ∷ ρ) zero = x
nth (x ∷ ρ) (suc i) = nth ρ i

abbrev pub eval : Expr → List ℤ → ℤ
eval (var i) ρ = nth ρ i
eval (con c) ρ = c
eval (a ⊞ b) ρ = eval a ρ +ℤ eval b ρ
eval (a ⊠ b) ρ = eval a ρ *ℤ eval b ρ
eval (neg a) ρ = neg_ℤ (eval a ρ)

-- ---- monomials: sorted lists of places
abbrev pub product : List ℕ → List ℤ → ℤ
product [] ρ = pos 1
product (i ∷ m) ρ = nth ρ i *ℤ product m ρ

abbrev pub first : Ordering → List ℕ → List ℕ → List ℕ
first Ordering.lt x y = x
first Ordering.eq x y = x
first Ordering.gt x y = y

abbrev pub insert : ℕ → List ℕ → List ℕ
insert i [] = i ∷ []
insert i (j ∷ m) = first (compare i j) (i ∷ j ∷ m) (j ∷ insert i m)

abbrev pub times : List ℕ → List ℕ → List ℕ
times [] n = n
times (i ∷ m) n = insert i (times m n)

abbrev pub same : List ℕ → List ℕ → Bool
same [] [] = true
same [] (j ∷ n) = false
same (i ∷ m) [] = false
same (i ∷ m) (j ∷ n) = eqb i j && same m n

-- ---- polynomials: coefficients with their monomials
pub data Poly : Type 0 where
  none : Poly
  term : ℤ → List ℕ → Poly → Poly

abbrev pub total : Poly → List ℤ → ℤ
total none ρ = pos 0
total (term c m p) ρ = c *ℤ product m ρ +ℤ total p ρ

abbrev pub either : Bool → Poly → Poly → Poly
either true p q = p
either false p q = q

abbrev pub add_term : ℤ → List ℕ → Poly → Poly
add_term c m none = term c m none
add_term c m (term d n p) = either (same m n) (term (c +ℤ d) n p) (term d n (add_term c m p))

abbrev pub add : Poly → Poly → Poly
add none q = q
add (term c m p) q = add_term c m (add p q)

-- c·m·p + q
abbrev pub scale_onto : ℤ → List ℕ → Poly → Poly → Poly
scale_onto c m none q = q
scale_onto c m (term d n p) q = add_term (c *ℤ d) (times m n) (scale_onto c m p q)

abbrev pub multiply : Poly → Poly → Poly
multiply none q = none
multiply (term c m p) q = scale_onto c m q (multiply p q)

abbrev pub normal : Expr → Poly
normal (var i) = term (pos 1) (i ∷ []) none
normal (con c) = term c [] none
normal (a ⊞ b) = add (normal a) (normal b)
normal (a ⊠ b) = multiply (normal a) (normal b)
normal (neg a) = scale_onto (negsuc 0) [] (normal a) none

-- the normal form of b − a
abbrev pub difference : Expr → Expr → Poly
difference a b = scale_onto (negsuc 0) [] (normal a) (normal b)

-- ---- each operation means what it should
and_l : (a b : Bool) → T (a && b) → T a
and_l true b t = tt
and_l false b t = t

and_r : (a b : Bool) → T (a && b) → T b
and_r true b t = t
and_r false b t = absurd t

same_sound : (m n : List ℕ) → T (same m n) → m ≡ n
same_sound [] [] t = refl
same_sound [] (j ∷ n) t = absurd t
same_sound (i ∷ m) [] t = absurd t
same_sound (i ∷ m) (j ∷ n) t = ap₂ ◌∷◌ (eqb→eq i j (and_l (eqb i j) (same m n) t)) (same_sound m n (and_r (eqb i j) (same m n) t))

first_sound : (o : Ordering) (x y : List ℕ) (ρ : List ℤ) (v : ℤ) → product x ρ ≡ v → product y ρ ≡ v → product (first o x y) ρ ≡ v
first_sound Ordering.lt x y ρ v p q = p
first_sound Ordering.eq x y ρ v p q = p
first_sound Ordering.gt x y ρ v p q = q

insert_sound : (i : ℕ) (m : List ℕ) (ρ : List ℤ) → product (insert i m) ρ ≡ nth ρ i *ℤ product m ρ
insert_sound i [] ρ = refl
insert_sound i (j ∷ m) ρ =
    first_sound (compare i j) (i ∷ j ∷ m) (j ∷ insert i m) ρ (nth ρ i *ℤ (nth ρ j *ℤ product m ρ)) refl
    (ap (λ t. nth ρ j *ℤ t) (insert_sound i m ρ) ∙ *ℤ_swap (nth ρ j) (nth ρ i) (product m ρ))

times_sound : (m n : List ℕ) (ρ : List ℤ) → product (times m n) ρ ≡ product m ρ *ℤ product n ρ
times_sound [] n ρ = sym (*ℤ_idl (product n ρ))
times_sound (i ∷ m) n ρ =
    insert_sound i (times m n) ρ ∙ ap (λ t. nth ρ i *ℤ t) (times_sound m n ρ) ∙ sym (*ℤ_assoc (nth ρ i) (product m ρ) (product n ρ))

either_sound : (b : Bool) (c d : ℤ) (m n : List ℕ) (p r : Poly) (ρ : List ℤ) → (T b → m ≡ n) → total r ρ ≡ c *ℤ product m ρ +ℤ total p ρ →
    total (either b (term (c +ℤ d) n p) (term d n r)) ρ ≡ c *ℤ product m ρ +ℤ (d *ℤ product n ρ +ℤ total p ρ)
either_sound true c d m n p r ρ f e = merge c d (product n ρ) (total p ρ) ∙ ap (λ k. c *ℤ product k ρ +ℤ (d *ℤ product n ρ +ℤ total p ρ)) (sym (f tt))
either_sound false c d m n p r ρ f e = ap (λ t. d *ℤ product n ρ +ℤ t) e ∙ +ℤ_swap (d *ℤ product n ρ) (c *ℤ product m ρ) (total p ρ)

add_term_sound : (c : ℤ) (m : List ℕ) (p : Poly) (ρ : List ℤ) → total (add_term c m p) ρ ≡ c *ℤ product m ρ +ℤ total p ρ
add_term_sound c m none ρ = refl
add_term_sound c m (term d n p) ρ = either_sound (same m n) c d m n p (add_term c m p) ρ (same_sound m n) (add_term_sound c m p ρ)

add_sound : (p q : Poly) (ρ : List ℤ) → total (add p q) ρ ≡ total p ρ +ℤ total q ρ
add_sound none q ρ = sym (+ℤ_idl (total q ρ))
add_sound (term c m p) q ρ =
    add_term_sound c m (add p q) ρ
    ∙ ap (λ t. c *ℤ product m ρ +ℤ t) (add_sound p q ρ)
    ∙ sym (+ℤ_assoc (c *ℤ product m ρ) (total p ρ) (total q ρ))

scale_sound : (c : ℤ) (m : List ℕ) (p q : Poly) (ρ : List ℤ) → total (scale_onto c m p q) ρ ≡ c *ℤ product m ρ *ℤ total p ρ +ℤ total q ρ
scale_sound c m none q ρ = sym (ap (λ t. t +ℤ total q ρ) (*ℤ-zero (c *ℤ product m ρ)) ∙ +ℤ_idl (total q ρ))
scale_sound c m (term d n p) q ρ =
    add_term_sound (c *ℤ d) (times m n) (scale_onto c m p q) ρ
    ∙ ap₂ (λ s t. c *ℤ d *ℤ s +ℤ t) (times_sound m n ρ) (scale_sound c m p q ρ)
    ∙ ap (λ t. t +ℤ (c *ℤ product m ρ *ℤ total p ρ +ℤ total q ρ)) (regroup c d (product m ρ) (product n ρ))
    ∙ factor (c *ℤ product m ρ) (d *ℤ product n ρ) (total p ρ) (total q ρ)

multiply_sound : (p q : Poly) (ρ : List ℤ) → total (multiply p q) ρ ≡ total p ρ *ℤ total q ρ
multiply_sound none q ρ = sym (zero-*ℤ (total q ρ))
multiply_sound (term c m p) q ρ =
    scale_sound c m q (multiply p q) ρ
    ∙ ap (λ t. c *ℤ product m ρ *ℤ total q ρ +ℤ t) (multiply_sound p q ρ)
    ∙ sym (*ℤ_distribr (c *ℤ product m ρ) (total p ρ) (total q ρ))

normal_sound : (e : Expr) (ρ : List ℤ) → eval e ρ ≡ total (normal e) ρ
normal_sound (var i) ρ = sym (+ℤ_idr (pos 1 *ℤ (nth ρ i *ℤ pos 1)) ∙ *ℤ_idl (nth ρ i *ℤ pos 1) ∙ *ℤ_idr (nth ρ i))
normal_sound (con c) ρ = sym (+ℤ_idr (c *ℤ pos 1) ∙ *ℤ_idr c)
normal_sound (a ⊞ b) ρ = ap₂ ◌+ℤ◌ (normal_sound a ρ) (normal_sound b ρ) ∙ sym (add_sound (normal a) (normal b) ρ)
normal_sound (a ⊠ b) ρ = ap₂ ◌*ℤ◌ (normal_sound a ρ) (normal_sound b ρ) ∙ sym (multiply_sound (normal a) (normal b) ρ)
normal_sound (neg a) ρ =
    ap neg_ℤ (normal_sound a ρ)
    ∙ sym (scale_sound (negsuc 0) [] (normal a) none ρ ∙ minus_one (pos 0) (total (normal a) ρ) ∙ +ℤ_idl (neg_ℤ (total (normal a) ρ)))

pub difference_sound : (a b : Expr) (ρ : List ℤ) → eval b ρ -ℤ eval a ρ ≡ total (difference a b) ρ
difference_sound a b ρ =
    ap₂ ◌-ℤ◌ (normal_sound b ρ) (normal_sound a ρ)
    ∙ sym (scale_sound (negsuc 0) [] (normal a) (normal b) ρ ∙ minus_one (total (normal b) ρ) (total (normal a) ρ))

-- ---- a polynomial whose coefficients are all 0 is 0
abbrev pub is_zero : ℤ → Bool
is_zero (pos n) = eqb n 0
is_zero (negsuc n) = false

abbrev pub vanishes : Poly → Bool
vanishes none = true
vanishes (term c m p) = is_zero c && vanishes p

is_zero_sound : (c : ℤ) → T (is_zero c) → c ≡ pos 0
is_zero_sound (pos n) t = ap pos (eqb→eq n 0 t)
is_zero_sound (negsuc n) t = absurd t

vanishes_sound : (p : Poly) (ρ : List ℤ) → T (vanishes p) → total p ρ ≡ pos 0
vanishes_sound none ρ t = refl
vanishes_sound (term c m p) ρ t =
    ap₂ (λ u v. u *ℤ product m ρ +ℤ v) (is_zero_sound c (and_l (is_zero c) (vanishes p) t)) (vanishes_sound p ρ (and_r (is_zero c) (vanishes p) t))
    ∙ +ℤ_idr (pos 0 *ℤ product m ρ)
    ∙ zero-*ℤ (product m ρ)

pub equal : (a b : Expr) (ρ : List ℤ) → T (vanishes (difference a b)) → eval a ρ ≡ eval b ρ
equal a b ρ t = sym (sub_zero (eval b ρ) (eval a ρ) (difference_sound a b ρ ∙ vanishes_sound (difference a b) ρ t))
