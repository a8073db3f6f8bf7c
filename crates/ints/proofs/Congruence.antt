-- The solutions of u·x ≡ v (mod d): none, or one class modulo d / gcd(u, d).
use mathlib.Core.Path.{◌≡◌, sym, ◌∙◌, ap}
use mathlib.Core.Logic.{◌↔◌, ◌≢◌}
use mathlib.Core.List.{[], ◌∷◌}
use native.Mathlib.Omega.{arith}
use lib.IntN.{ℤ, ℤ_discrete, pos, neg_ℤ, ◌+ℤ◌, ◌-ℤ◌, ◌*ℤ◌}
use Rattle.ints.specs.Floor.{floor_div, floor_mod}
use Rattle.ints.specs.Divides.{◌∣ℤ◌, Congruent}
use Rattle.ints.proofs.Linear.{facts, lin, ◌&◌}
use Rattle.ints.proofs.Products.{cancel}
use Rattle.ints.proofs.Divides.{divides-add, divides-mul, divides_by, divides_iff, floor_exact, gauss}
use Rattle.ints.proofs.Gcd.{gcd, Bezout, bezout, gcd_nonzero, coprime}

-- ---- from cofactors: u·x + d·y ≡ g, where g divides u and d, and is not 0
module _ {u d g : ℤ} (s : Bezout u d g) (nz : g ≢ pos 0) where
  -- v has to be divisible by g
  pub solvable : (v x : ℤ) → Congruent d (u *ℤ x) v → g ∣ℤ v
  solvable v x h =
      let e : u *ℤ x +ℤ d *ℤ neg_ℤ h.factor ≡ v = lin (u ∷ d ∷ v ∷ x ∷ h.factor ∷ []) h.exact (search facts depth 20) (omega arith) in
      divides_by e (divides-add (divides-mul x s.left) (divides-mul (neg_ℤ h.factor) s.right))

  -- and then there is a solution
  pub solution : (v : ℤ) (h : g ∣ℤ v) → Congruent d (u *ℤ (s.x *ℤ h.factor)) v
  solution v h = record {
    factor = neg_ℤ (s.y *ℤ h.factor);
    exact = lin (u ∷ d ∷ g ∷ v ∷ s.x ∷ s.y ∷ h.factor ∷ []) (ap (λ t. t *ℤ h.factor) s.identity & h.exact) (search facts depth 20) (omega arith);
  }

  -- two solutions differ by a multiple of d / g, and what differs so from a solution is one
  module _ (v x₀ x : ℤ) (h₀ : Congruent d (u *ℤ x₀) v) where
    abbrev d' : ℤ
    d' = s.right.factor

    abbrev u' : ℤ
    u' = s.left.factor

    apart : Congruent d (u *ℤ x) v → d' ∣ℤ (u' *ℤ (x -ℤ x₀))
    apart h = record {
      factor = h.factor -ℤ h₀.factor;
      exact = cancel g (u' *ℤ (x -ℤ x₀)) (d' *ℤ (h.factor -ℤ h₀.factor)) nz
          (lin (u ∷ d ∷ g ∷ v ∷ x ∷ x₀ ∷ u' ∷ d' ∷ h.factor ∷ h₀.factor ∷ [])
          (h.exact & h₀.exact & ap (λ t. t *ℤ (x -ℤ x₀)) s.left.exact & ap (λ t. t *ℤ (h.factor -ℤ h₀.factor)) s.right.exact)
          (search facts depth 20) (omega arith));
    }

    prime : d' *ℤ s.y +ℤ u' *ℤ s.x ≡ pos 1
    prime = lin (d' ∷ u' ∷ s.x ∷ s.y ∷ []) (coprime s nz) (search facts depth 20) (omega arith)

    beside : Congruent d' x x₀ → Congruent d (u *ℤ x) v
    beside h = record {
      factor = h₀.factor +ℤ u' *ℤ h.factor;
      exact = lin (u ∷ d ∷ g ∷ v ∷ x ∷ x₀ ∷ u' ∷ d' ∷ h.factor ∷ h₀.factor ∷ [])
          (h₀.exact & ap (λ t. u *ℤ t) h.exact & ap (λ t. t *ℤ (d' *ℤ h.factor)) s.left.exact & ap (λ t. t *ℤ (u' *ℤ h.factor)) s.right.exact)
          (search facts depth 20) (omega arith);
    }

    pub one_class : Congruent d (u *ℤ x) v ↔ Congruent d' x x₀
    one_class = (λ h. gauss d' u' (x -ℤ x₀) s.y s.x prime (apart h), beside)

-- ---- the theorem
-- d / gcd(u, d)
unfoldable pub period : ℤ → ℤ → ℤ
period u d = floor_div d (gcd u d)

period_is : (u d : ℤ) → d ≢ pos 0 → (bezout u d).right.factor ≡ period u d
unfolding period
period_is u d nz =
    let g≢0 : gcd u d ≢ pos 0 = gcd_nonzero u d nz in
    cancel (gcd u d) (bezout u d).right.factor (floor_div d (gcd u d)) g≢0
    (sym (bezout u d).right.exact ∙ sym (floor_exact d (gcd u d) g≢0 (bezout u d).right))

-- with one solution x₀ the others are those of its class
pub class : (u v d x₀ : ℤ) → d ≢ pos 0 → Congruent d (u *ℤ x₀) v → (x : ℤ) → Congruent d (u *ℤ x) v ↔ Congruent (period u d) x x₀
class u v d x₀ nz h x = rw (sym (period_is u d nz)) (one_class (bezout u d) (gcd_nonzero u d nz) v x₀ x h)

pub data Solutions (u v d : ℤ) : Type 0 where
  none : ((x : ℤ) → Congruent d (u *ℤ x) v → ⊥) → Solutions u v d
  class_of : (x₀ : ℤ) → ((x : ℤ) → Congruent d (u *ℤ x) v ↔ Congruent (period u d) x x₀) → Solutions u v d

pub solutions : (u v d : ℤ) → d ≢ pos 0 → Solutions u v d
solutions u v d nz = go (ℤ_discrete (floor_mod v (gcd u d)) (pos 0))
  where
    g≢0 : gcd u d ≢ pos 0
    g≢0 = gcd_nonzero u d nz

    go : Dec (floor_mod v (gcd u d) ≡ pos 0) → Solutions u v d
    go (no e) = none (λ x h. e ((divides_iff v (gcd u d) g≢0).0 (solvable (bezout u d) g≢0 v x h)))
    go (yes e) =
        let h : gcd u d ∣ℤ v = (divides_iff v (gcd u d) g≢0).1 e in
        let x₀ : ℤ = (bezout u d).x *ℤ h.factor in
        class_of x₀ (class u v d x₀ nz (solution (bezout u d) g≢0 v h))
