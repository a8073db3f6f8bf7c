-- Euclid's algorithm, with the cofactor of the first number only: the invariant of its loop. r0 and r1 are the last two
-- remainders, a·s0 ≡ r0 and a·s1 ≡ r1 (mod b).
use mathlib.Core.Path.{◌≡◌, refl, ap}
use mathlib.Core.Logic.{◌⊎◌, inl, inr}
use lib.Signed.{≤ℤ_refl}
use Rattle.ints.specs.Within.{Within}
use Rattle.ints.specs.Divides.{◌∣ℤ◌, Congruent, IsGcd}
use Rattle.ints.proofs.{ℤ, pos, negsuc, neg_ℤ, nat_abs, ◌+ℤ◌, ◌-ℤ◌, ◌*ℤ◌, ◌≤ℤ◌, ◌<ℤ◌, quot_z, rem_z, List, [], ◌∷◌, arith, lin, lin₀, ◌&◌, facts, prod}
use Rattle.ints.proofs.Order.{nat_nonneg, abs_nonneg}
use Rattle.ints.proofs.Products.{mul_nonneg}
use Rattle.ints.proofs.Divides.{divides-add, divides-mul, divides_by, divisor_range}
use Rattle.ints.proofs.Truncated.{quot-rem, rem_range, quot_nonneg, rem_nonneg, Within-rem}
use Rattle.euclid.specs.Factor.{IsFactor}

-- s0 and s1 have opposite signs, so by `spread` the next one is no larger than b either
pub record Inv (a b r0 r1 s0 s1 : ℤ) : Type 0 where
  pub low0 : pos 0 ≤ℤ r0
  pub low1 : pos 0 ≤ℤ r1
  pub high0 : Within 1000000000000000000 r0
  pub high1 : Within 1000000000000000000 r1
  pub cofactor0 : Congruent b (a *ℤ s0) r0
  pub cofactor1 : Congruent b (a *ℤ s1) r1
  pub common : (g : ℤ) → g ∣ℤ r0 → g ∣ℤ r1 → (g ∣ℤ a) × (g ∣ℤ b)
  pub sign : ℤ
  pub unit : (sign ≡ pos 1) ⊎ (sign ≡ negsuc 0)
  pub sign0 : pos 0 ≤ℤ (sign *ℤ s0)
  pub sign1 : (sign *ℤ s1) ≤ℤ pos 0
  pub small0 : (sign *ℤ s0) ≤ℤ b
  pub small1 : neg_ℤ (sign *ℤ s1) ≤ℤ b
  pub spread : sign *ℤ (s0 *ℤ r1 -ℤ s1 *ℤ r0) ≡ b

pub start : (a b : ℤ) → pos 0 ≤ℤ a → Within 1000000000000000000 a → pos 0 <ℤ b → b ≤ℤ pos 2000000000 → Inv a b a b (pos 1) (pos 0)
start a b low high above most = record {
  low0 = low;
  low1 = lin (b ∷ []) above (search facts depth 20) (omega arith);
  high0 = high;
  high1 = lin (b ∷ []) (above & most) (search facts depth 20) (omega arith);
  cofactor0 = record { factor = pos 0; exact = lin₀ (a ∷ b ∷ []) (search facts depth 20) (omega arith) };
  cofactor1 = record { factor = negsuc 0; exact = lin₀ (a ∷ b ∷ []) (search facts depth 20) (omega arith) };
  common = λ g h k. (h, k);
  sign = pos 1;
  unit = inl refl;
  sign0 = nat_nonneg 1;
  sign1 = ≤ℤ_refl (pos 0);
  small0 = lin (b ∷ []) above (search facts depth 20) (omega arith);
  small1 = lin (b ∷ []) above (search facts depth 20) (omega arith);
  spread = lin₀ (a ∷ b ∷ []) (search facts depth 20) (omega arith);
}

module _ {a b r0 r1 s0 s1 : ℤ} (i : Inv a b r0 r1 s0 s1) where
  -- a number that is, but for its sign, from 0 to b
  within : (s : ℤ) → pos 0 ≤ℤ (i.sign *ℤ s) → (i.sign *ℤ s) ≤ℤ b → (neg_ℤ b ≤ℤ s) × (s ≤ℤ b)
  within s h k = go i.unit
    where
      go : (i.sign ≡ pos 1) ⊎ (i.sign ≡ negsuc 0) → (neg_ℤ b ≤ℤ s) × (s ≤ℤ b)
      go (inl e) = lin (s ∷ b ∷ i.sign ∷ []) (h & k & ap (λ t. t *ℤ s) e) (search facts depth 20) (omega arith)
      go (inr e) = lin (s ∷ b ∷ i.sign ∷ []) (h & k & ap (λ t. t *ℤ s) e) (search facts depth 20) (omega arith)

  -- ---- a turn
  module _ (some : pos 0 <ℤ r1) where
    abbrev q : ℤ
    q = quot_z r0 r1

    abbrev r2 : ℤ
    r2 = rem_z r0 r1

    abbrev s2 : ℤ
    s2 = s0 -ℤ q *ℤ s1

    abbrev ρ : List ℤ
    ρ = b ∷ r0 ∷ r1 ∷ r2 ∷ s0 ∷ s1 ∷ q ∷ i.sign ∷ []

    r2_low : pos 0 ≤ℤ r2
    r2_low = rem_nonneg r0 r1 i.low0

    -- what is taken from s0 has the other sign
    apart : pos 0 ≤ℤ (q *ℤ neg_ℤ (i.sign *ℤ s1))
    apart = mul_nonneg (quot_nonneg r0 r1 i.low0 i.low1) (lin ρ i.sign1 (search facts depth 20) (omega arith))

    s2_sign : pos 0 ≤ℤ (i.sign *ℤ s2)
    s2_sign = lin ρ (apart & i.sign0) (search facts depth 20) (omega arith)

    spread' : neg_ℤ i.sign *ℤ (s1 *ℤ r2 -ℤ s2 *ℤ r1) ≡ b
    spread' = lin ρ (i.spread & ap (λ t. i.sign *ℤ s1 *ℤ t) (quot-rem r0 r1)) (search facts depth 20) (omega arith)

    s2_small : (i.sign *ℤ s2) ≤ℤ b
    s2_small =
        let one : pos 1 ≤ℤ r1 = lin ρ some (search facts depth 20) (omega arith) in
        lin ρ (spread' & prod i.sign1 r2_low & prod s2_sign one) (search facts depth 20) (omega arith)

    pub product_range : (neg_ℤ b ≤ℤ (q *ℤ s1)) × ((q *ℤ s1) ≤ℤ b)
    product_range =
        let other : (neg_ℤ b ≤ℤ neg_ℤ (q *ℤ s1)) × (neg_ℤ (q *ℤ s1) ≤ℤ b) =
        within (neg_ℤ (q *ℤ s1)) (lin ρ apart (search facts depth 20) (omega arith)) (lin ρ (s2_small & i.sign0) (search facts depth 20) (omega arith)) in
        lin ρ other (search facts depth 20) (omega arith)

    pub s2_range : (neg_ℤ b ≤ℤ s2) × (s2 ≤ℤ b)
    s2_range = within s2 s2_sign s2_small

    common' : (g : ℤ) → g ∣ℤ r1 → g ∣ℤ r2 → (g ∣ℤ a) × (g ∣ℤ b)
    common' g h k = i.common g (divides_by (quot-rem r0 r1) (divides-add (divides-mul q h) k)) h

    cofactor2 : Congruent b (a *ℤ s2) r2
    cofactor2 = record {
      factor = i.cofactor0.factor -ℤ q *ℤ i.cofactor1.factor;
      exact = lin (a ∷ i.cofactor0.factor ∷ i.cofactor1.factor ∷ ρ)
          (i.cofactor0.exact & ap (λ t. q *ℤ t) i.cofactor1.exact & quot-rem r0 r1)
          (search facts depth 20) (omega arith);
    }

    other_unit : (e : ℤ) → (e ≡ pos 1) ⊎ (e ≡ negsuc 0) → (neg_ℤ e ≡ pos 1) ⊎ (neg_ℤ e ≡ negsuc 0)
    other_unit e (inl h) = inr (ap neg_ℤ h)
    other_unit e (inr h) = inl (ap neg_ℤ h)

    pub step : Inv a b r1 r2 s1 s2
    step = record {
      low0 = i.low1;
      low1 = r2_low;
      high0 = i.high1;
      high1 = Within-rem r1 i.high0;
      cofactor0 = i.cofactor1;
      cofactor1 = cofactor2;
      common = common';
      sign = neg_ℤ i.sign;
      unit = other_unit i.sign i.unit;
      sign0 = lin ρ i.sign1 (search facts depth 20) (omega arith);
      sign1 = lin ρ s2_sign (search facts depth 20) (omega arith);
      small0 = lin ρ i.small1 (search facts depth 20) (omega arith);
      small1 = lin ρ s2_small (search facts depth 20) (omega arith);
      spread = spread';
    }

  -- ---- the end
  pub done : pos 0 <ℤ b → r1 ≤ℤ pos 0 → IsFactor a b r0 s0
  done above h = record { gcd = gcd_is; cofactor = i.cofactor0; small = small }
    where
      zero_divides : r0 ∣ℤ r1
      zero_divides = record { factor = pos 0; exact = lin (r0 ∷ r1 ∷ []) (h & i.low1) (search facts depth 20) (omega arith) }

      itself : r0 ∣ℤ r0
      itself = record { factor = pos 1; exact = lin₀ (r0 ∷ []) (search facts depth 20) (omega arith) }

      back : a *ℤ s0 +ℤ b *ℤ neg_ℤ i.cofactor0.factor ≡ r0
      back = lin (a ∷ b ∷ s0 ∷ r0 ∷ i.cofactor0.factor ∷ []) i.cofactor0.exact (search facts depth 20) (omega arith)

      gcd_is : IsGcd a b r0
      gcd_is = record {
        not_negative = i.low0;
        left = (i.common r0 itself zero_divides).0;
        right = (i.common r0 itself zero_divides).1;
        greatest = λ d k l. divides_by back (divides-add (divides-mul s0 k) (divides-mul (neg_ℤ i.cofactor0.factor) l));
      }

      small : Within (nat_abs b) s0
      small =
          let size : b ≡ pos (nat_abs b) = abs_nonneg b (lin (b ∷ []) above (search facts depth 20) (omega arith)) in
          lin (b ∷ s0 ∷ pos (nat_abs b) ∷ []) (size & within s0 i.sign0 i.small0) (search facts depth 20) (omega arith)

-- a turn that leaves 1: the next would leave 0, and find that 1
module _ {a b r0 r1 s0 s1 : ℤ} (i : Inv a b r0 r1 s0 s1) (some : pos 0 <ℤ r1) where
  pub done_at_one : pos 0 <ℤ b → rem_z r0 r1 ≡ pos 1 → IsFactor a b (rem_z r0 r1) (s0 -ℤ quot_z r0 r1 *ℤ s1)
  done_at_one above one =
      let more : pos 0 <ℤ rem_z r0 r1 = lin (rem_z r0 r1 ∷ []) one (search facts depth 20) (omega arith) in
      let none : rem_z r1 (rem_z r0 r1) ≤ℤ pos 0 =
      lin (rem_z r0 r1 ∷ rem_z r1 (rem_z r0 r1) ∷ []) (one & (rem_range r1 (rem_z r0 r1) more).1) (search facts depth 20) (omega arith) in
      done (step (step i some) more) above none

-- ---- a negative number: turn its sign, and that of the cofactor
pub turned : {a b g x : ℤ} → IsFactor (pos 0 -ℤ a) b g x → IsFactor a b g (pos 0 -ℤ x)
turned {a} {b} {g} {x} f = record {
  gcd = record {
    not_negative = f.gcd.not_negative;
    left = turn {n = a} f.gcd.left;
    right = f.gcd.right;
    greatest = λ d h k. f.gcd.greatest d (divides_by (lin₀ (a ∷ []) (search facts depth 20) (omega arith)) (divides-mul (negsuc 0) h)) k;
  };
  cofactor = divides_by (lin₀ (a ∷ x ∷ g ∷ []) (search facts depth 20) (omega arith)) f.cofactor;
  small = lin (x ∷ pos (nat_abs b) ∷ []) f.small (search facts depth 20) (omega arith);
}
  where
    turn : {g n : ℤ} → g ∣ℤ (pos 0 -ℤ n) → g ∣ℤ n
    turn {n} h = divides_by (lin₀ (n ∷ []) (search facts depth 20) (omega arith)) (divides-mul (negsuc 0) h)

-- ---- what callers go by
module _ {a b g x : ℤ} (f : IsFactor a b g x) (above : pos 0 <ℤ b) where
  pub gcd_range : (pos 0 <ℤ g) × (g ≤ℤ b)
  gcd_range = divisor_range f.gcd.not_negative f.gcd.right above

  pub cofactor_range : (neg_ℤ b ≤ℤ x) × (x ≤ℤ b)
  cofactor_range =
      let size : b ≡ pos (nat_abs b) = abs_nonneg b (lin (b ∷ []) above (search facts depth 20) (omega arith)) in
      lin (b ∷ x ∷ pos (nat_abs b) ∷ []) (size & f.small) (search facts depth 20) (omega arith)
