-- A run in its one form is the part of a residue class from its first to its last number; and how large it is.
use mathlib.Core.Path.{◌≡◌, refl, sym, ap, subst}
use mathlib.Core.Logic.Iff
use mathlib.Core.Logic.{◌↔◌}
use mathlib.Core.List.{List, [], ◌∷◌}
use Prim.Native.Nat.{ℕ, zero, suc, ◌≤◌}
use Rattle.ints.specs.Within.{Within}
use Rattle.ints.specs.Divides.{Congruent}
use Rattle.ints.proofs.{ℤ, pos, ◌+ℤ◌, ◌-ℤ◌, ◌*ℤ◌, ◌≤ℤ◌, ◌<ℤ◌, arith, lin, lin₀, ◌&◌, facts, prod}
use lib.Signed.{≤ℤ_refl}
use Rattle.runs.specs.Run.{Run, InRun, OneForm, bound}
use Rattle.runs.specs.Method.{InInterval, stride_of, stride, span}
use Rattle.runs.proofs.Progressions.{Along, Along-iff, alone, in_Along}

-- the numbers of a run: a class, from the first to the last
pub stride_above : {r : Run} → OneForm r → 1 ≤ r.many → pos 0 <ℤ stride r
stride_above {r} o h = go r.many o.rises h
  where
    go : (n : ℕ) → (2 ≤ n → pos 1 ≤ℤ r.step) → 1 ≤ n → pos 0 <ℤ stride_of r.step n
    go zero u h = absurd (omega arith)
    go (suc zero) u h = lin₀ [] (search facts depth 20) (omega arith)
    go (suc (suc n)) u h = lin (r.step ∷ []) (u (omega arith)) (search facts depth 20) (omega arith)

-- with the stride in the step's place
Along-stride : (f s x : ℤ) (n : ℕ) → (n ≡ 1 → s ≡ pos 0) → 1 ≤ n → Along f s (pos n -ℤ pos 1) x ↔ Along f (stride_of s n) (pos n -ℤ pos 1) x
Along-stride f s x zero e h = absurd (omega arith)
Along-stride f s x (suc zero) e h = (alone f s (pos 1) x, alone f (pos 1) s x)
Along-stride f s x (suc (suc n)) e h = (λ a. a, λ a. a)

last_stride : (f s : ℤ) (n : ℕ) → 1 ≤ n → f +ℤ stride_of s n *ℤ (pos n -ℤ pos 1) ≡ f +ℤ s *ℤ (pos n -ℤ pos 1)
last_stride f s zero h = absurd (omega arith)
last_stride f s (suc zero) h = lin₀ (f ∷ s ∷ []) (search facts depth 20) (omega arith)
last_stride f s (suc (suc n)) h = refl

-- by the places, with the stride in the step's place
pub in_places : {r : Run} → OneForm r → 1 ≤ r.many → (x : ℤ) → InRun r x ↔ Along r.first (stride r) (pos r.many -ℤ pos 1) x
in_places {r} o h x = Iff.trans (in_Along r x) (Along-stride r.first r.step x r.many o.one h)

pub in_span : {r : Run} → OneForm r → 1 ≤ r.many → (x : ℤ) → InRun r x ↔ (Congruent (stride r) x r.first × InInterval (span r) x)
in_span {r} o h x = Iff.trans (in_places o h x) (Iff.trans (Along-iff r.first (stride r) (pos r.many -ℤ pos 1) x (stride_above o h)) (to, from))
  where
    e : r.first +ℤ stride r *ℤ (pos r.many -ℤ pos 1) ≡ (span r).high
    e = last_stride r.first r.step r.many h

    to : Congruent (stride r) x r.first × (r.first ≤ℤ x) × (x ≤ℤ (r.first +ℤ stride r *ℤ (pos r.many -ℤ pos 1))) → Congruent (stride r) x r.first × InInterval (span r) x
    to (c, a, b) = (c, record { low = a; high = subst (λ t. x ≤ℤ t) e b })

    from : Congruent (stride r) x r.first × InInterval (span r) x → Congruent (stride r) x r.first × (r.first ≤ℤ x) × (x ≤ℤ (r.first +ℤ stride r *ℤ (pos r.many -ℤ pos 1)))
    from (c, i) = (c, i.low, subst (λ t. x ≤ℤ t) (sym e) i.high)

-- ---- how large a run's ends, its step and its length are
pub record Sizes (r : Run) : Type 0 where
  pub step : (pos 0 ≤ℤ r.step) × (r.step ≤ℤ pos 2000000000)
  pub many : pos r.many ≤ℤ pos 2000000001
  pub reach : (pos 0 ≤ℤ (r.step *ℤ (pos r.many -ℤ pos 1))) × ((r.step *ℤ (pos r.many -ℤ pos 1)) ≤ℤ pos 2000000000)

module _ {r : Run} (o : OneForm r) (h : 1 ≤ r.many) where
  pub first_in : InRun r r.first
  first_in = record { place = 0; below = h; is = lin₀ (r.first ∷ r.step ∷ []) (search facts depth 20) (omega arith) }

  pub last_in : InRun r (span r).high
  last_in = (in_Along r (span r).high).1 record {
    k = pos r.many -ℤ pos 1;
    low = lin (pos r.many ∷ []) h (search facts depth 20) (omega arith);
    high = ≤ℤ_refl (pos r.many -ℤ pos 1);
    is = refl;
  }

  pub first-Within : Within bound r.first
  first-Within = o.inside r.first first_in

  pub last_Within : Within bound (span r).high
  last_Within = o.inside (span r).high last_in

  pub sizes : Sizes r
  sizes = go r.many refl
    where
      ρ : List ℤ
      ρ = r.first ∷ r.step ∷ pos r.many ∷ []

      rising : 2 ≤ r.many → Sizes r
      rising k =
          let up : pos 1 ≤ℤ r.step = o.rises k in
          let more : pos 1 ≤ℤ (pos r.many -ℤ pos 1) = lin ρ k (search facts depth 20) (omega arith) in
          record {
            step = lin ρ (first-Within & last_Within & prod up more & up & more) (search facts depth 20) (omega arith);
            many = lin ρ (first-Within & last_Within & prod up more & up & more) (search facts depth 20) (omega arith);
            reach = lin ρ (first-Within & last_Within & prod up more & up & more) (search facts depth 20) (omega arith);
          }

      go : (n : ℕ) → r.many ≡ n → Sizes r
      go zero e = absurd (omega (arith, h, e))
      go (suc zero) e =
          let still : r.step ≡ pos 0 = o.one e in
          record {
            step = lin ρ still (search facts depth 20) (omega arith);
            many = lin ρ e (search facts depth 20) (omega arith);
            reach = lin ρ (ap (λ t. t *ℤ (pos r.many -ℤ pos 1)) still) (search facts depth 20) (omega arith);
          }
      go (suc (suc n)) e = rising (omega (arith, e))

  pub stride_within : stride r ≤ℤ pos 2000000000
  stride_within = go r.many sizes.step.1
    where
      go : (n : ℕ) → r.step ≤ℤ pos 2000000000 → stride_of r.step n ≤ℤ pos 2000000000
      go zero k = k
      go (suc zero) k = lin₀ [] (search facts depth 20) (omega arith)
      go (suc (suc n)) k = k

  pub stride_small : Within 2000000000 (stride r)
  stride_small = lin (stride r ∷ []) (stride_above o h & stride_within) (search facts depth 20) (omega arith)
