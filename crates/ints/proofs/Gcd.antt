-- The greatest common divisor, with Bézout's identity.
use mathlib.Core.Path.{◌≡◌, ◌∙◌, ap}
use mathlib.Core.List.{[], ◌∷◌}
use mathlib.Core.Logic.{◌≢◌}
use Prim.Native.Nat.{ℕ, zero, suc, ◌/◌, ◌%◌, ◌≤◌}
use native.Mathlib.Nat.{div-add-mod, mod-lt, zero-lt-suc}
use native.Mathlib.Omega.{arith}
use lib.IntN.{ℤ, pos, negsuc, neg_ℤ, nat_abs, ◌+ℤ◌, ◌-ℤ◌, ◌*ℤ◌, zero-*ℤ}
use lib.Signed.{◌≤ℤ◌, ◌<ℤ◌}
use Rattle.ints.specs.Divides.{◌∣ℤ◌, IsGcd}
use Rattle.ints.proofs.Order.{nat_nonneg, le_antisym}
use Rattle.ints.proofs.Linear.{facts, lin, lin₀, ◌&◌}
use Rattle.ints.proofs.Products.{cancel}
use Rattle.ints.proofs.Divides.{divides-add, divides-mul, divides_by, divisor_range}

-- Euclid's algorithm; `turns` bounds the recursion, and b of them are enough
unfoldable pub euclid : ℕ → ℕ → ℕ → ℕ
euclid zero a b = a
euclid (suc turns) a zero = a
euclid (suc turns) a (suc b) = euclid turns (suc b) (a % suc b)

unfoldable pub gcd : ℤ → ℤ → ℤ
unfolding euclid
gcd a b = pos (euclid (nat_abs b) (nat_abs a) (nat_abs b))

-- g divides a and b, and is a·x + b·y
pub record Bezout (a b g : ℤ) : Type 0 where
  pub x : ℤ
  pub y : ℤ
  pub identity : a *ℤ x +ℤ b *ℤ y ≡ g
  pub left : g ∣ℤ a
  pub right : g ∣ℤ b

-- ---- a turn of the algorithm, and its end
at_end : (a : ℤ) → Bezout a (pos 0) a
at_end a = record {
  x = pos 1;
  y = pos 0;
  identity = lin₀ (a ∷ []) (search facts depth 20) (omega arith);
  left = record { factor = pos 1; exact = lin₀ (a ∷ []) (search facts depth 20) (omega arith) };
  right = record { factor = pos 0; exact = lin₀ (a ∷ []) (search facts depth 20) (omega arith) };
}

turn : {g : ℤ} (a b q r : ℤ) → b *ℤ q +ℤ r ≡ a → Bezout b r g → Bezout a b g
turn {g} a b q r e s = record {
  x = s.y;
  y = s.x -ℤ q *ℤ s.y;
  identity = lin (a ∷ b ∷ q ∷ r ∷ g ∷ s.x ∷ s.y ∷ []) (ap (λ t. s.y *ℤ t) e & s.identity) (search facts depth 20) (omega arith);
  left = divides_by e (divides-add (divides-mul q s.left) s.right);
  right = s.left;
}

natural : (turns a b : ℕ) → b ≤ turns → Bezout (pos a) (pos b) (pos (euclid turns a b))
unfolding euclid
natural zero a b h = let z : b ≡ 0 = omega arith in rw z (at_end (pos a))
natural (suc turns) a zero h = at_end (pos a)
natural (suc turns) a (suc b) h =
    turn (pos a) (pos (suc b)) (pos (a / suc b)) (pos (a % suc b)) (ap pos (div-add-mod a (suc b)))
    (natural turns (suc b) (a % suc b) (omega (arith, mod-lt a (zero-lt-suc b))))

-- ---- either sign
turn_left : {g : ℤ} (a b : ℤ) → Bezout a b g → Bezout (neg_ℤ a) b g
turn_left {g} a b s = record {
  x = neg_ℤ s.x;
  y = s.y;
  identity = lin (a ∷ b ∷ g ∷ s.x ∷ s.y ∷ []) s.identity (search facts depth 20) (omega arith);
  left = divides_by (lin₀ (a ∷ []) (search facts depth 20) (omega arith)) (divides-mul (negsuc 0) s.left);
  right = s.right;
}

swap : {g : ℤ} (a b : ℤ) → Bezout a b g → Bezout b a g
swap {g} a b s = record {
  x = s.y;
  y = s.x;
  identity = lin (a ∷ b ∷ g ∷ s.x ∷ s.y ∷ []) s.identity (search facts depth 20) (omega arith);
  left = s.right;
  right = s.left;
}

signed_left : {g : ℤ} (a b : ℤ) → Bezout (pos (nat_abs a)) b g → Bezout a b g
signed_left (pos a) b s = s
signed_left (negsuc a) b s = turn_left (pos (suc a)) b s

pub bezout : (a b : ℤ) → Bezout a b (gcd a b)
unfolding gcd
bezout a b =
    let s : Bezout (pos (nat_abs a)) (pos (nat_abs b)) (gcd a b) = natural (nat_abs b) (nat_abs a) (nat_abs b) (omega arith) in
    signed_left a b (swap b (pos (nat_abs a)) (signed_left b (pos (nat_abs a)) (swap (pos (nat_abs a)) (pos (nat_abs b)) s)))

gcd_nonneg : (a b : ℤ) → pos 0 ≤ℤ gcd a b
unfolding gcd
gcd_nonneg a b = nat_nonneg (euclid (nat_abs b) (nat_abs a) (nat_abs b))

pub gcd_is : (a b : ℤ) → IsGcd a b (gcd a b)
gcd_is a b = record {
  not_negative = gcd_nonneg a b;
  left = (bezout a b).left;
  right = (bezout a b).right;
  greatest = λ d h k. divides_by (bezout a b).identity (divides-add (divides-mul (bezout a b).x h) (divides-mul (bezout a b).y k));
}

-- it is 0 only where both are
pub gcd_nonzero : (a b : ℤ) → b ≢ pos 0 → gcd a b ≢ pos 0
gcd_nonzero a b nz e = nz ((bezout a b).right.exact ∙ ap (λ t. t *ℤ (bezout a b).right.factor) e ∙ zero-*ℤ (bezout a b).right.factor)

-- there is no other
pub gcd_only : (a b g : ℤ) → b ≢ pos 0 → IsGcd a b g → g ≡ gcd a b
gcd_only a b g nz s =
    let h = gcd_is a b in
    let above : pos 0 <ℤ gcd a b = lin (gcd a b ∷ []) (h.not_negative & gcd_nonzero a b nz) (search facts depth 20) (omega arith) in
    let (some, low) = divisor_range s.not_negative (h.greatest g s.left s.right) above in
    le_antisym g (gcd a b) low (divisor_range h.not_negative (s.greatest (gcd a b) h.left h.right) some).1

-- with it divided out, a and b are prime to each other
pub coprime : {a b g : ℤ} (s : Bezout a b g) → g ≢ pos 0 → s.left.factor *ℤ s.x +ℤ s.right.factor *ℤ s.y ≡ pos 1
coprime {a} {b} {g} s nz = cancel g (s.left.factor *ℤ s.x +ℤ s.right.factor *ℤ s.y) (pos 1) nz
    (lin (a ∷ b ∷ g ∷ s.x ∷ s.y ∷ s.left.factor ∷ s.right.factor ∷ [])
    (s.identity & ap (λ t. t *ℤ s.x) s.left.exact & ap (λ t. t *ℤ s.y) s.right.exact)
    (search facts depth 20) (omega arith))
