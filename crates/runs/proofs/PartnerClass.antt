-- The p with a partner at the places of a class: the first of them, and the step from one to the next.
use mathlib.Core.Path.{◌≡◌, refl, ap}
use mathlib.Core.Logic.{◌↔◌, ◌≢◌}
use mathlib.Core.List.{[], ◌∷◌}
use Prim.Native.Nat.{suc, ◌*◌}
use Rattle.ints.specs.Floor.{floor_div}
use Rattle.ints.proofs.{ℤ, pos, negsuc, neg_ℤ, nat_abs, ◌+ℤ◌, ◌-ℤ◌, ◌*ℤ◌, ◌≤ℤ◌, ◌<ℤ◌, arith, lin, lin₀, ◌&◌, facts, prod}
use Rattle.ints.proofs.Difference.{lt_parts}
use Rattle.ints.proofs.Order.{abs_zero, nat_not_below}
use Rattle.ints.proofs.Products.{cancel, cancel_lt}
use Rattle.ints.proofs.Divides.{floor_exact}
use Rattle.runs.specs.Run.{Run}
use Rattle.runs.specs.Workings.{Equation}
use Rattle.runs.specs.Method.{Class, Carriable, AllSolutions, stride, places_with_partner}
use Rattle.runs.proofs.ClassOfRun.{stride_above}
use Rattle.runs.proofs.SolutionPeriod.{period_above, at_first, modulus_divides, period_divides}

-- the sign of a number: its size is sign times it
pub record Sign (b : ℤ) : Type 0 where
  pub σ : ℤ
  pub unit : σ *ℤ σ ≡ pos 1
  pub size : pos (nat_abs b) ≡ σ *ℤ b
  pub above : pos 0 <ℤ b → σ ≡ pos 1
  pub below : b <ℤ pos 0 → σ ≡ negsuc 0

sign_of : (b : ℤ) → Sign b
sign_of (pos n) = record { σ = pos 1; unit = refl; size = lin₀ (pos n ∷ []) (search facts depth 20) (omega arith); above = λ h. refl; below = λ h. nat_not_below n h }
sign_of (negsuc n) = let once : suc n ≡ 1 * suc n = omega arith in record { σ = negsuc 0; unit = refl; size = ap pos once; above = λ h. absurd (omega (arith, (lt_parts (pos 0) (negsuc n)).0 h)); below = λ h. refl }

module _ {e : Equation} {q : Run} (k : Carriable e q) {j : Class} (E : AllSolutions (places_with_partner e q) j) where
  abbrev a : ℤ
  a = e.a

  abbrev b : ℤ
  b = e.b

  abbrev c : ℤ
  c = e.c

  abbrev f : ℤ
  f = q.first

  abbrev t : ℤ
  t = stride q

  abbrev q₀ : ℤ
  q₀ = f +ℤ t *ℤ j.first

  abbrev p₀ : ℤ
  p₀ = floor_div (c -ℤ b *ℤ q₀) a

  abbrev G : ℤ
  G = floor_div a j.step

  abbrev T : ℤ
  T = floor_div (pos (nat_abs b) *ℤ t) G

  pub b_sign : Sign b
  b_sign = sign_of b

  exact₀ : a *ℤ p₀ ≡ c -ℤ b *ℤ q₀
  exact₀ = floor_exact (c -ℤ b *ℤ q₀) a (λ z. lin (a ∷ []) (z & k.above) (search facts depth 20) (omega arith)) record {
    factor = neg_ℤ (at_first E).factor;
    exact = lin (a ∷ b ∷ c ∷ f ∷ t ∷ j.first ∷ (at_first E).factor ∷ []) (at_first E).exact (search facts depth 20) (omega arith);
  }

  G_is : j.step *ℤ G ≡ a
  G_is = floor_exact a j.step (λ z. lin (j.step ∷ []) (z & period_above E) (search facts depth 20) (omega arith)) (period_divides E)

  pub G_above : pos 0 <ℤ G
  G_above = cancel_lt j.step (pos 0) G (period_above E) (lin (a ∷ j.step ∷ G ∷ []) (G_is & k.above) (search facts depth 20) (omega arith))

  -- G divides b·t
  b_is : b *ℤ t ≡ G *ℤ (modulus_divides E).factor
  b_is = cancel j.step (b *ℤ t) (G *ℤ (modulus_divides E).factor) (λ z. lin (j.step ∷ []) (z & period_above E) (search facts depth 20) (omega arith))
      (lin (a ∷ b ∷ t ∷ j.step ∷ G ∷ (modulus_divides E).factor ∷ []) ((modulus_divides E).exact & ap (λ x. x *ℤ (modulus_divides E).factor) G_is) (search facts depth 20) (omega arith))

  T_is : G *ℤ T ≡ pos (nat_abs b) *ℤ t
  T_is = floor_exact (pos (nat_abs b) *ℤ t) G (λ z. lin (G ∷ []) (z & G_above) (search facts depth 20) (omega arith)) record {
    factor = b_sign.σ *ℤ (modulus_divides E).factor;
    exact = lin (pos (nat_abs b) ∷ b ∷ t ∷ b_sign.σ ∷ G ∷ (modulus_divides E).factor ∷ []) (ap (λ x. x *ℤ t) b_sign.size & ap (λ x. b_sign.σ *ℤ x) b_is) (search facts depth 20) (omega arith);
  }

  -- a step of p is worth a period of places
  a_step : a *ℤ T ≡ b_sign.σ *ℤ (b *ℤ (t *ℤ j.step))
  a_step = lin (a ∷ b ∷ t ∷ T ∷ G ∷ b_sign.σ ∷ j.step ∷ pos (nat_abs b) ∷ []) (ap (λ x. x *ℤ T) G_is & ap (λ x. j.step *ℤ x) T_is & ap (λ x. x *ℤ t *ℤ j.step) b_sign.size) (search facts depth 20) (omega arith)

  pub T_above : pos 0 <ℤ T
  T_above = cancel_lt G (pos 0) T G_above (lin (G ∷ T ∷ pos (nat_abs b) ∷ t ∷ []) (T_is & prod b_one t_one & b_one & t_one) (search facts depth 20) (omega arith))
    where
      b_one : pos 1 ≤ℤ pos (nat_abs b)
      b_one = let some : nat_abs b ≢ 0 = λ z. k.limits.right_not_zero (abs_zero b z) in lin (pos (nat_abs b) ∷ []) some (search facts depth 20) (omega arith)

      t_one : pos 1 ≤ℤ t
      t_one = lin (t ∷ []) (stride_above k.form k.some) (search facts depth 20) (omega arith)

  -- the partner of the number that is m periods after the first place
  pub partner_at : (p m : ℤ) → (a *ℤ p +ℤ b *ℤ (f +ℤ t *ℤ (j.first +ℤ j.step *ℤ m)) ≡ c) ↔ (p ≡ p₀ -ℤ b_sign.σ *ℤ (T *ℤ m))
  partner_at p m = (to, from)
    where
      -- b·t·step·m in the terms of a
      moved : b *ℤ (t *ℤ j.step) *ℤ m ≡ a *ℤ T *ℤ b_sign.σ *ℤ m
      moved = lin (a ∷ b ∷ t ∷ T ∷ b_sign.σ ∷ j.step ∷ m ∷ [])
          (ap (λ x. x *ℤ b_sign.σ *ℤ m) a_step & ap (λ x. x *ℤ b *ℤ t *ℤ j.step *ℤ m) b_sign.unit) (search facts depth 20) (omega arith)

      to : a *ℤ p +ℤ b *ℤ (f +ℤ t *ℤ (j.first +ℤ j.step *ℤ m)) ≡ c → p ≡ p₀ -ℤ b_sign.σ *ℤ (T *ℤ m)
      to h = cancel a p (p₀ -ℤ b_sign.σ *ℤ (T *ℤ m)) (λ z. lin (a ∷ []) (z & k.above) (search facts depth 20) (omega arith))
          (lin (a ∷ b ∷ c ∷ f ∷ t ∷ p ∷ p₀ ∷ T ∷ b_sign.σ ∷ j.first ∷ j.step ∷ m ∷ []) (h & exact₀ & moved) (search facts depth 20 fits 5000) (omega arith))

      from : p ≡ p₀ -ℤ b_sign.σ *ℤ (T *ℤ m) → a *ℤ p +ℤ b *ℤ (f +ℤ t *ℤ (j.first +ℤ j.step *ℤ m)) ≡ c
      from e = lin (a ∷ b ∷ c ∷ f ∷ t ∷ p ∷ p₀ ∷ T ∷ b_sign.σ ∷ j.first ∷ j.step ∷ m ∷ []) (ap (λ x. a *ℤ x) e & exact₀ & moved) (search facts depth 20 fits 5000) (omega arith)
