-- The laws of divisibility.
use mathlib.Core.Path.{◌≡◌, sym, ◌∙◌, ap}
use mathlib.Core.Logic.{◌↔◌, ◌⊎◌, inl, inr, ◌≢◌}
use mathlib.Core.List.{[], ◌∷◌}
use native.Mathlib.Omega.{arith}
use lib.IntN.{ℤ, pos, ◌+ℤ◌, ◌*ℤ◌}
use lib.Signed.{◌≤ℤ◌, ◌<ℤ◌, ≤ℤ_refl}
use Rattle.ints.specs.Floor.{floor_div, floor_mod}
use Rattle.ints.specs.Divides.{◌∣ℤ◌, Congruent}
use Rattle.ints.proofs.Order.{le_antisym, le_or_lt, below_or_above}
use Rattle.ints.proofs.Products.{prod, cancel_lt}
use Rattle.ints.proofs.Linear.{facts, lin, ◌&◌}
use Rattle.ints.proofs.Floor.{div_mod, div_mod_unique, div_mod_unique_neg}

pub divides-add : {d m n : ℤ} → d ∣ℤ m → d ∣ℤ n → d ∣ℤ (m +ℤ n)
divides-add {d} {m} {n} h k = record {
  factor = h.factor +ℤ k.factor;
  exact = lin (d ∷ m ∷ n ∷ h.factor ∷ k.factor ∷ []) (h.exact & k.exact) (search facts depth 20) (omega arith);
}

pub divides-mul : {d m : ℤ} (k : ℤ) → d ∣ℤ m → d ∣ℤ (m *ℤ k)
divides-mul {d} {m} k h = record {
  factor = h.factor *ℤ k;
  exact = lin (d ∷ m ∷ k ∷ h.factor ∷ []) (ap (λ t. t *ℤ k) h.exact) (search facts depth 20) (omega arith);
}

-- what divides is the same number in other words
pub divides_by : {d m n : ℤ} → m ≡ n → d ∣ℤ m → d ∣ℤ n
divides_by e h = record { factor = h.factor; exact = sym e ∙ h.exact }

-- Gauss: d divides a·b and is prime to a
pub gauss : (d a b x y : ℤ) → d *ℤ x +ℤ a *ℤ y ≡ pos 1 → d ∣ℤ (a *ℤ b) → d ∣ℤ b
gauss d a b x y e h = record {
  factor = x *ℤ b +ℤ y *ℤ h.factor;
  exact = lin (d ∷ a ∷ b ∷ x ∷ y ∷ h.factor ∷ []) (ap (λ t. t *ℤ b) e & ap (λ t. y *ℤ t) h.exact) (search facts depth 20) (omega arith);
}

-- a divisor of a number above 0 lies from 1 to it
pub divisor_range : {g b : ℤ} → pos 0 ≤ℤ g → g ∣ℤ b → pos 0 <ℤ b → (pos 0 <ℤ g) × (g ≤ℤ b)
divisor_range {g} {b} low h above = go (le_or_lt g (pos 0))
  where
    go : (g ≤ℤ pos 0) ⊎ (pos 0 <ℤ g) → (pos 0 <ℤ g) × (g ≤ℤ b)
    go (inl l) =
        absurd (lin (g ∷ b ∷ h.factor ∷ []) (h.exact & above & ap (λ t. t *ℤ h.factor) (le_antisym g (pos 0) l low)) (search facts depth 20) (omega arith))
    go (inr l) =
        let some : pos 0 <ℤ h.factor = cancel_lt g (pos 0) h.factor l (lin (g ∷ b ∷ h.factor ∷ []) (h.exact & above) (search facts depth 20) (omega arith)) in
        let one : pos 1 ≤ℤ h.factor = lin (h.factor ∷ []) some (search facts depth 20) (omega arith) in
        (l, lin (g ∷ b ∷ h.factor ∷ []) (h.exact & prod low one) (search facts depth 20) (omega arith))

-- ---- an exact quotient
pub floor_exact : (n d : ℤ) → d ≢ pos 0 → d ∣ℤ n → d *ℤ floor_div n d ≡ n
floor_exact n d nz h = ap (λ t. d *ℤ t) (sym (is (below_or_above d nz))) ∙ sym h.exact
  where
    whole : d *ℤ h.factor +ℤ pos 0 ≡ n
    whole = lin (n ∷ d ∷ h.factor ∷ []) h.exact (search facts depth 20) (omega arith)

    is : (d <ℤ pos 0) ⊎ (pos 0 <ℤ d) → h.factor ≡ floor_div n d
    is (inl l) = (div_mod_unique_neg n d h.factor (pos 0) l whole l (≤ℤ_refl (pos 0))).0
    is (inr l) = (div_mod_unique n d h.factor (pos 0) l whole (≤ℤ_refl (pos 0)) l).0

pub divides_iff : (n d : ℤ) → d ≢ pos 0 → (d ∣ℤ n) ↔ (floor_mod n d ≡ pos 0)
divides_iff n d nz = (to, from)
  where
    to : d ∣ℤ n → floor_mod n d ≡ pos 0
    to h = lin (n ∷ d ∷ floor_div n d ∷ floor_mod n d ∷ []) (floor_exact n d nz h & div_mod n d) (search facts depth 20) (omega arith)

    from : floor_mod n d ≡ pos 0 → d ∣ℤ n
    from e = record {
      factor = floor_div n d;
      exact = lin (n ∷ d ∷ floor_div n d ∷ floor_mod n d ∷ []) (e & div_mod n d) (search facts depth 20) (omega arith);
    }

-- ---- one class modulo d has one member from 0 to d − 1
pub mod-Congruent : (n d : ℤ) → Congruent d n (floor_mod n d)
mod-Congruent n d = record {
  factor = floor_div n d;
  exact = lin (n ∷ d ∷ floor_div n d ∷ floor_mod n d ∷ []) (div_mod n d) (search facts depth 20) (omega arith);
}

pub mod_least : (n d x : ℤ) → pos 0 ≤ℤ x → x <ℤ d → Congruent d n x → x ≡ floor_mod n d
mod_least n d x a b h =
    let above : pos 0 <ℤ d = lin (d ∷ x ∷ []) (a & b) (search facts depth 20) (omega arith) in
    let sum : d *ℤ h.factor +ℤ x ≡ n = lin (n ∷ d ∷ x ∷ h.factor ∷ []) h.exact (search facts depth 20) (omega arith) in
    (div_mod_unique n d h.factor x above sum a b).1
