-- What is not linear: products of facts, the size of a product, cancelling a factor.
-- `lin` takes a product as one unknown; the fact that a proof needs of it comes from here.
use mathlib.Core.Path.{◌≡◌, refl}
use mathlib.Core.Logic.{◌↔◌, ◌⊎◌, inl, inr, ◌≢◌}
use mathlib.Core.List.{[], ◌∷◌}
use Prim.Native.Nat.{ℕ, zero, suc, ◌*◌}
use native.Mathlib.Nat.{mul-le-mul}
use native.Mathlib.Omega.{arith}
use lib.IntN.{ℤ, pos, negsuc, neg_ℤ, nat_abs, ◌+ℤ◌, ◌-ℤ◌, ◌*ℤ◌}
use lib.Signed.{◌≤ℤ◌, ◌<ℤ◌}
use Rattle.ints.specs.Within.{Within}
use Rattle.ints.proofs.Difference.{le_parts}
use Rattle.ints.proofs.Order.{le_or_lt, below_or_above}
use Rattle.ints.proofs.Linear.{facts, lin, ◌&◌}

pub mul_nonneg : {x y : ℤ} → pos 0 ≤ℤ x → pos 0 ≤ℤ y → pos 0 ≤ℤ (x *ℤ y)
mul_nonneg {x = pos a} {y = pos b} h k = (le_parts (pos 0) (pos (a * b))).1 (omega arith)
mul_nonneg {x = pos a} {y = negsuc b} h k = absurd k.le
mul_nonneg {x = negsuc a} {y} h k = absurd h.le

-- two facts multiplied, for `lin`: it often wants the two facts themselves too
pub prod : {a b c d : ℤ} → a ≤ℤ b → c ≤ℤ d → pos 0 ≤ℤ ((b -ℤ a) *ℤ (d -ℤ c))
prod {a} {b} {c} {d} h k =
    mul_nonneg {x = b -ℤ a} {y = d -ℤ c}
    (lin (a ∷ b ∷ []) h (search facts depth 20) (omega arith))
    (lin (c ∷ d ∷ []) k (search facts depth 20) (omega arith))

-- ---- sizes
pub abs-neg : (n : ℕ) → nat_abs (neg_ℤ (pos n)) ≡ n
abs-neg zero = refl
abs-neg (suc n) = refl

pub abs_opposite : (x : ℤ) → nat_abs (neg_ℤ x) ≡ nat_abs x
abs_opposite (pos n) = abs-neg n
abs_opposite (negsuc n) = refl

abs-mul : (x y : ℤ) → nat_abs (x *ℤ y) ≡ nat_abs x * nat_abs y
abs-mul (pos a) (pos b) = refl
abs-mul (pos a) (negsuc b) = abs-neg (a * suc b)
abs-mul (negsuc a) (pos b) = abs-neg (suc a * b)
abs-mul (negsuc a) (negsuc b) = refl

pub Within-mul : {x y : ℤ} {A B : ℕ} → Within A x → Within B y → Within (A * B) (x *ℤ y)
Within-mul {x} {y} h k = record { size = rw (abs-mul x y) (mul-le-mul h.size k.size) }

-- ---- a positive factor keeps the order, and a factor that is not 0 can be cancelled
pub mul-le : (d x y : ℤ) → pos 0 <ℤ d → x ≤ℤ y → (d *ℤ x) ≤ℤ (d *ℤ y)
mul-le d x y h k =
    let low : pos 0 ≤ℤ d = lin (d ∷ []) h (search facts depth 20) (omega arith) in
    lin (d ∷ x ∷ y ∷ []) (prod low k) (search facts depth 20) (omega arith)

pub cancel_lt : (d x y : ℤ) → pos 0 <ℤ d → (d *ℤ x) <ℤ (d *ℤ y) → x <ℤ y
cancel_lt d x y h k = go (le_or_lt y x)
  where
    go : (y ≤ℤ x) ⊎ (x <ℤ y) → x <ℤ y
    go (inl l) = absurd (lin (d ∷ x ∷ y ∷ []) (mul-le d y x h l & k) (search facts depth 20) (omega arith))
    go (inr l) = l

cancel_pos : (d x y : ℤ) → pos 0 <ℤ d → d *ℤ x ≡ d *ℤ y → x ≡ y
cancel_pos d x y h e =
    let below : x <ℤ (y +ℤ pos 1) = cancel_lt d x (y +ℤ pos 1) h (lin (d ∷ x ∷ y ∷ []) (e & h) (search facts depth 20) (omega arith)) in
    let above : y <ℤ (x +ℤ pos 1) = cancel_lt d y (x +ℤ pos 1) h (lin (d ∷ x ∷ y ∷ []) (e & h) (search facts depth 20) (omega arith)) in
    lin (x ∷ y ∷ []) (below & above) (search facts depth 20) (omega arith)

pub cancel : (d x y : ℤ) → d ≢ pos 0 → d *ℤ x ≡ d *ℤ y → x ≡ y
cancel d x y h e = go (below_or_above d h)
  where
    go : (d <ℤ pos 0) ⊎ (pos 0 <ℤ d) → x ≡ y
    go (inl l) =
        cancel_pos (neg_ℤ d) x y
        (lin (d ∷ []) l (search facts depth 20) (omega arith))
        (lin (d ∷ x ∷ y ∷ []) e (search facts depth 20) (omega arith))
    go (inr l) = cancel_pos d x y l e

-- a factor above 0 keeps the order both ways, and one below 0 turns it round
pub mul-le_iff : (d x y : ℤ) → pos 0 <ℤ d → (x ≤ℤ y) ↔ ((d *ℤ x) ≤ℤ (d *ℤ y))
mul-le_iff d x y h = (mul-le d x y h, from)
  where
    from : (d *ℤ x) ≤ℤ (d *ℤ y) → x ≤ℤ y
    from k =
        let below : x <ℤ (y +ℤ pos 1) = cancel_lt d x (y +ℤ pos 1) h (lin (d ∷ x ∷ y ∷ []) (k & h) (search facts depth 20) (omega arith)) in
        lin (x ∷ y ∷ []) below (search facts depth 20) (omega arith)

pub mul-le_iff_neg : (d x y : ℤ) → d <ℤ pos 0 → (x ≤ℤ y) ↔ ((d *ℤ y) ≤ℤ (d *ℤ x))
mul-le_iff_neg d x y h =
    let (to, from) = mul-le_iff (neg_ℤ d) x y (lin (d ∷ []) h (search facts depth 20) (omega arith)) in
    (λ k. lin (d ∷ x ∷ y ∷ []) (to k) (search facts depth 20) (omega arith), λ k. from (lin (d ∷ x ∷ y ∷ []) k (search facts depth 20) (omega arith)))
