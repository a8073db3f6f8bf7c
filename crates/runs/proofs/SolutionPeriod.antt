-- What every solution of a congruence says of the period: it divides the modulus, and the modulus divides u times it.
use mathlib.Core.List.{[], ◌∷◌}
use Rattle.ints.specs.Divides.{◌∣ℤ◌, Congruent}
use Rattle.ints.proofs.{ℤ, pos, ◌+ℤ◌, ◌-ℤ◌, ◌*ℤ◌, ◌≤ℤ◌, ◌<ℤ◌, arith, lin, lin₀, ◌&◌, facts, prod}
use Rattle.ints.proofs.Products.{cancel_lt}
use Rattle.ints.proofs.Divides.{divisor_range}
use Rattle.runs.specs.Method.{Class, Congruence, AllSolutions}

module _ {s : Congruence} {c : Class} (e : AllSolutions s c) where
  pub period_above : pos 0 <ℤ c.step
  period_above = lin (c.first ∷ c.step ∷ []) (e.low & e.high) (search facts depth 20) (omega arith)

  -- the first number is a solution
  pub at_first : Congruent s.d (s.u *ℤ c.first) s.v
  at_first = (e.all c.first).1 record { factor = pos 0; exact = lin₀ (c.first ∷ c.step ∷ []) (search facts depth 20) (omega arith) }

  pub modulus_divides : s.d ∣ℤ (s.u *ℤ c.step)
  modulus_divides = record {
    factor = next.factor -ℤ at_first.factor;
    exact = lin (s.d ∷ s.u ∷ s.v ∷ c.first ∷ c.step ∷ next.factor ∷ at_first.factor ∷ []) (next.exact & at_first.exact) (search facts depth 20) (omega arith);
  }
    where
      next : Congruent s.d (s.u *ℤ (c.first +ℤ c.step)) s.v
      next = (e.all (c.first +ℤ c.step)).1 record { factor = pos 1; exact = lin₀ (c.first ∷ c.step ∷ []) (search facts depth 20) (omega arith) }

  pub period_divides : c.step ∣ℤ s.d
  period_divides = record {
    factor = far.factor;
    exact = lin (s.d ∷ c.first ∷ c.step ∷ far.factor ∷ []) far.exact (search facts depth 20) (omega arith);
  }
    where
      far : Congruent c.step (c.first +ℤ s.d) c.first
      far = (e.all (c.first +ℤ s.d)).0 record {
        factor = at_first.factor +ℤ s.u;
        exact = lin (s.d ∷ s.u ∷ s.v ∷ c.first ∷ at_first.factor ∷ []) at_first.exact (search facts depth 20) (omega arith);
      }

  pub period_within : pos 0 <ℤ s.d → c.step ≤ℤ s.d
  period_within h = (divisor_range (lin (c.step ∷ []) period_above (search facts depth 20) (omega arith)) period_divides h).1

  -- no solution from 0 on is before the first one
  pub not_before : (k : ℤ) → pos 0 ≤ℤ k → Congruent c.step k c.first → c.first ≤ℤ k
  not_before k h m =
      let step : pos 0 ≤ℤ c.step = lin (c.step ∷ []) period_above (search facts depth 20) (omega arith) in
      let up : (pos 0 -ℤ pos 1) <ℤ m.factor = cancel_lt c.step (pos 0 -ℤ pos 1) m.factor period_above (lin (k ∷ c.first ∷ c.step ∷ m.factor ∷ []) (m.exact & h & e.high) (search facts depth 20) (omega arith)) in
      let whole : pos 0 ≤ℤ m.factor = lin (m.factor ∷ []) up (search facts depth 20) (omega arith) in
      lin (k ∷ c.first ∷ c.step ∷ m.factor ∷ []) (m.exact & prod step whole) (search facts depth 20) (omega arith)
