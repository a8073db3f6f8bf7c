-- The laws of division rounded down. Callers go by these and never by the text of specs/Floor.antt.
use mathlib.Core.Path.{◌≡◌, refl, sym, ◌∙◌, ap}
use mathlib.Core.Logic.Iff
use mathlib.Core.Logic.{◌↔◌, ◌⊎◌, inl, inr, ◌≢◌}
use mathlib.Core.List.{List, [], ◌∷◌}
use Prim.Native.Nat.{ℕ, suc, ◌+◌, ◌*◌, ◌/◌, ◌<◌}
use native.Mathlib.Nat.{div-add-mod, mod-lt}
use native.Mathlib.Omega.{arith}
use lib.IntN.{ℤ, pos, negsuc, neg_ℤ, ◌+ℤ◌, ◌*ℤ◌}
use lib.Signed.{◌≤ℤ◌, ◌<ℤ◌, shr_z}
use Rattle.ints.specs.Within.{Within}
use Rattle.ints.specs.Floor.{floor_div, floor_mod, ceil_div}
use Rattle.ints.proofs.Difference.{le_parts, lt_parts}
use Rattle.ints.proofs.Order.{le_trans, le_or_lt, nat_not_below, below_or_above}
use Rattle.ints.proofs.Linear.{facts, lin, lin₀, ◌&◌}
use Rattle.ints.proofs.Products.{prod, mul-le, cancel_lt}

-- ---- a natural divisor
shr_range : (n : ℤ) (m : ℕ) → 0 < m → ((pos m *ℤ shr_z n m) ≤ℤ n) × (n <ℤ (pos m *ℤ shr_z n m +ℤ pos m))
shr_range (pos a) m h = (
  (le_parts (pos (m * (a / m))) (pos a)).1 (omega (arith, div-add-mod a m)),
  (lt_parts (pos a) (pos (m * (a / m) + m))).1 (omega (arith, div-add-mod a m, mod-lt a h)),
)
shr_range (negsuc a) m h =
    turn (pos (suc a)) (pos (suc (a / m))) (pos m)
    ((le_parts (pos (suc a)) (pos (m * suc (a / m)))).1 (omega (arith, div-add-mod a m, mod-lt a h)))
    ((lt_parts (pos (m * suc (a / m))) (pos (suc a + m))).1 (omega (arith, div-add-mod a m)))
  where
    turn : (n q m : ℤ) → n ≤ℤ (m *ℤ q) → (m *ℤ q) <ℤ (n +ℤ m) → ((m *ℤ neg_ℤ q) ≤ℤ neg_ℤ n) × (neg_ℤ n <ℤ (m *ℤ neg_ℤ q +ℤ m))
    turn n q m h k = lin (n ∷ q ∷ m ∷ []) (h & k) (search facts depth 20) (omega arith)

-- ---- where the quotient lies
pub floor_range : (n d : ℤ) → pos 0 <ℤ d → ((d *ℤ floor_div n d) ≤ℤ n) × (n <ℤ (d *ℤ floor_div n d +ℤ d))
unfolding floor_div
floor_range n (pos d) h = shr_range n d (omega (arith, (lt_parts (pos 0) (pos d)).0 h))
floor_range n (negsuc d) h = absurd h.lt

-- a negative divisor: turn both signs. Each twin below rests on this line
pub floor_turned : (n d : ℤ) → d <ℤ pos 0 → floor_div n d ≡ floor_div (neg_ℤ n) (neg_ℤ d)
unfolding floor_div
floor_turned n (pos d) h = nat_not_below d h
floor_turned n (negsuc d) h = refl

turned : (d : ℤ) → d <ℤ pos 0 → pos 0 <ℤ neg_ℤ d
turned d h = lin (d ∷ []) h (search facts depth 20) (omega arith)

pub floor_range_neg : (n d : ℤ) → d <ℤ pos 0 → (n ≤ℤ (d *ℤ floor_div n d)) × ((d *ℤ floor_div n d +ℤ d) <ℤ n)
floor_range_neg n d h =
    let ρ : List ℤ = n ∷ d ∷ floor_div (neg_ℤ n) (neg_ℤ d) ∷ [] in
    rw (floor_turned n d h) (lin ρ (floor_range (neg_ℤ n) (neg_ℤ d) (turned d h)) (search facts depth 20) (omega arith))

-- ---- quotient and remainder
pub div_mod : (n d : ℤ) → d *ℤ floor_div n d +ℤ floor_mod n d ≡ n
unfolding floor_mod
div_mod n d = lin₀ (n ∷ d ∷ floor_div n d ∷ []) (search facts depth 20) (omega arith)

pub mod_range : (n d : ℤ) → pos 0 <ℤ d → (pos 0 ≤ℤ floor_mod n d) × (floor_mod n d <ℤ d)
mod_range n d h = lin (n ∷ d ∷ floor_div n d ∷ floor_mod n d ∷ []) (floor_range n d h & div_mod n d) (search facts depth 20) (omega arith)

pub mod_range_neg : (n d : ℤ) → d <ℤ pos 0 → (d <ℤ floor_mod n d) × (floor_mod n d ≤ℤ pos 0)
mod_range_neg n d h = lin (n ∷ d ∷ floor_div n d ∷ floor_mod n d ∷ []) (floor_range_neg n d h & div_mod n d) (search facts depth 20) (omega arith)

-- ---- rounding a bound to a multiple of d, down or up; k is any whole number
pub floor_iff : (n d k : ℤ) → pos 0 <ℤ d → ((d *ℤ k) ≤ℤ n) ↔ (k ≤ℤ floor_div n d)
floor_iff n d k h = (to, from)
  where
    to : (d *ℤ k) ≤ℤ n → k ≤ℤ floor_div n d
    to l =
        let ρ : List ℤ = n ∷ d ∷ k ∷ floor_div n d ∷ [] in
        let less : (d *ℤ k) <ℤ (d *ℤ (floor_div n d +ℤ pos 1)) = lin ρ (floor_range n d h & l) (search facts depth 20) (omega arith) in
        lin (k ∷ floor_div n d ∷ []) (cancel_lt d k (floor_div n d +ℤ pos 1) h less) (search facts depth 20) (omega arith)

    from : k ≤ℤ floor_div n d → (d *ℤ k) ≤ℤ n
    from l = lin (n ∷ d ∷ k ∷ floor_div n d ∷ []) (floor_range n d h & mul-le d k (floor_div n d) h l) (search facts depth 20) (omega arith)

-- its twins, by turning the signs of n and k, or of n and d
pub ceil_iff : (n d k : ℤ) → pos 0 <ℤ d → (n ≤ℤ (d *ℤ k)) ↔ (ceil_div n d ≤ℤ k)
unfolding ceil_div
ceil_iff n d k h =
    let ρ : List ℤ = n ∷ d ∷ k ∷ floor_div (neg_ℤ n) d ∷ [] in
    Iff.trans (lin₀ ρ (search facts depth 20) (omega arith)) (Iff.trans (floor_iff (neg_ℤ n) d (neg_ℤ k) h) (lin₀ ρ (search facts depth 20) (omega arith)))

pub floor_iff_neg : (n d k : ℤ) → d <ℤ pos 0 → (n ≤ℤ (d *ℤ k)) ↔ (k ≤ℤ floor_div n d)
floor_iff_neg n d k h =
    rw (floor_turned n d h) (Iff.trans (lin₀ (n ∷ d ∷ k ∷ []) (search facts depth 20) (omega arith)) (floor_iff (neg_ℤ n) (neg_ℤ d) k (turned d h)))

pub ceil_iff_neg : (n d k : ℤ) → d <ℤ pos 0 → ((d *ℤ k) ≤ℤ n) ↔ (ceil_div n d ≤ℤ k)
unfolding ceil_div
ceil_iff_neg n d k h =
    let ρ : List ℤ = n ∷ d ∷ k ∷ floor_div (neg_ℤ n) d ∷ [] in
    Iff.trans (lin₀ ρ (search facts depth 20) (omega arith)) (Iff.trans (floor_iff_neg (neg_ℤ n) d (neg_ℤ k) h) (lin₀ ρ (search facts depth 20) (omega arith)))

-- ---- no other quotient and remainder will do
-- a quotient between the two ends of its range
squeezed : (n d q : ℤ) → pos 0 <ℤ d → (d *ℤ q) ≤ℤ n → n <ℤ (d *ℤ q +ℤ d) → q ≡ floor_div n d
squeezed n d q h a b =
    let ρ : List ℤ = n ∷ d ∷ q ∷ floor_div n d ∷ [] in
    let less : (d *ℤ floor_div n d) <ℤ (d *ℤ (q +ℤ pos 1)) = lin ρ (floor_range n d h & b) (search facts depth 20) (omega arith) in
    lin (q ∷ floor_div n d ∷ []) ((floor_iff n d q h).0 a & cancel_lt d (floor_div n d) (q +ℤ pos 1) h less) (search facts depth 20) (omega arith)

-- the quotient decides the remainder
rest : (n d q r : ℤ) → d *ℤ q +ℤ r ≡ n → q ≡ floor_div n d → (q ≡ floor_div n d) × (r ≡ floor_mod n d)
rest n d q r e f = (
  f,
  lin (n ∷ d ∷ q ∷ r ∷ floor_div n d ∷ floor_mod n d ∷ []) (e & ap (λ t. d *ℤ t) f & div_mod n d) (search facts depth 20) (omega arith),
)

pub div_mod_unique : (n d q r : ℤ) → pos 0 <ℤ d → d *ℤ q +ℤ r ≡ n → pos 0 ≤ℤ r → r <ℤ d → (q ≡ floor_div n d) × (r ≡ floor_mod n d)
div_mod_unique n d q r h e a b =
    let ρ : List ℤ = n ∷ d ∷ q ∷ r ∷ [] in
    let is : q ≡ floor_div n d =
    squeezed n d q h (lin ρ (e & a) (search facts depth 20) (omega arith)) (lin ρ (e & b) (search facts depth 20) (omega arith)) in
    rest n d q r e is

pub div_mod_unique_neg : (n d q r : ℤ) → d <ℤ pos 0 → d *ℤ q +ℤ r ≡ n → d <ℤ r → r ≤ℤ pos 0 → (q ≡ floor_div n d) × (r ≡ floor_mod n d)
div_mod_unique_neg n d q r h e a b =
    let ρ : List ℤ = n ∷ d ∷ q ∷ r ∷ [] in
    let is : q ≡ floor_div (neg_ℤ n) (neg_ℤ d) =
    squeezed (neg_ℤ n) (neg_ℤ d) q (turned d h)
    (lin ρ (e & b) (search facts depth 20) (omega arith))
    (lin ρ (e & a) (search facts depth 20) (omega arith)) in
    rest n d q r e (is ∙ sym (floor_turned n d h))

pub floor_by_one : (n : ℤ) → n ≡ floor_div n (pos 1)
floor_by_one n =
    let whole : pos 1 *ℤ n +ℤ pos 0 ≡ n = lin₀ (n ∷ []) (search facts depth 20) (omega arith) in
    let above : pos 0 <ℤ pos 1 = lin₀ [] (search facts depth 20) (omega arith) in
    let low : pos 0 ≤ℤ pos 0 = lin₀ [] (search facts depth 20) (omega arith) in
    (div_mod_unique n (pos 1) n (pos 0) above whole low above).0

-- ---- in the dividend the quotient rises, or falls for a negative divisor
pub floor_mono : (n m d : ℤ) → pos 0 <ℤ d → n ≤ℤ m → floor_div n d ≤ℤ floor_div m d
floor_mono n m d h l = (floor_iff m d (floor_div n d) h).0 (le_trans (d *ℤ floor_div n d) n m (floor_range n d h).0 l)

pub floor_mono_neg : (n m d : ℤ) → d <ℤ pos 0 → n ≤ℤ m → floor_div m d ≤ℤ floor_div n d
floor_mono_neg n m d h l = (floor_iff_neg n d (floor_div m d) h).0 (le_trans n m (d *ℤ floor_div m d) l (floor_range_neg m d h).0)

-- ---- the quotient is no larger than the dividend
Within-pos : {A : ℕ} (n d : ℤ) → pos 0 <ℤ d → Within A n → Within A (floor_div n d)
Within-pos {A} n d h w = go (le_or_lt (pos 0) (floor_div n d))
  where
    one : pos 1 ≤ℤ d
    one = lin (d ∷ []) h (search facts depth 20) (omega arith)

    go : (pos 0 ≤ℤ floor_div n d) ⊎ (floor_div n d <ℤ pos 0) → Within A (floor_div n d)
    go (inl l) = lin (n ∷ d ∷ floor_div n d ∷ []) (floor_range n d h & w & prod one l & l) (search facts depth 20) (omega arith)
    go (inr l) =
        let down : floor_div n d ≤ℤ negsuc 0 = lin (floor_div n d ∷ []) l (search facts depth 20) (omega arith) in
        lin (n ∷ d ∷ floor_div n d ∷ []) (floor_range n d h & w & prod one down & l) (search facts depth 20) (omega arith)

pub floor-Within : {A : ℕ} (n d : ℤ) → d ≢ pos 0 → Within A n → Within A (floor_div n d)
floor-Within {A} n d nz w = go (below_or_above d nz)
  where
    go : (d <ℤ pos 0) ⊎ (pos 0 <ℤ d) → Within A (floor_div n d)
    go (inl neg) =
        let w' : Within A (neg_ℤ n) = lin (n ∷ []) w (search facts depth 20) (omega arith) in
        rw (floor_turned n d neg) (Within-pos (neg_ℤ n) (neg_ℤ d) (turned d neg) w')
    go (inr l) = Within-pos n d l w

pub ceil-Within : {A : ℕ} (n d : ℤ) → d ≢ pos 0 → Within A n → Within A (ceil_div n d)
unfolding ceil_div
ceil-Within {A} n d nz w =
    let w' : Within A (neg_ℤ n) = lin (n ∷ []) w (search facts depth 20) (omega arith) in
    lin (floor_div (neg_ℤ n) d ∷ []) (floor-Within (neg_ℤ n) d nz w') (search facts depth 20) (omega arith)

-- ---- the remainder is no larger than the divisor
pub mod-Within : {A : ℕ} (n d : ℤ) → d ≢ pos 0 → Within A d → Within A (floor_mod n d)
mod-Within {A} n d nz w = go (below_or_above d nz)
  where
    go : (d <ℤ pos 0) ⊎ (pos 0 <ℤ d) → Within A (floor_mod n d)
    go (inl h) = lin (d ∷ floor_mod n d ∷ []) (mod_range_neg n d h & w) (search facts depth 20) (omega arith)
    go (inr h) = lin (d ∷ floor_mod n d ∷ []) (mod_range n d h & w) (search facts depth 20) (omega arith)
