-- Arithmetic progressions over ℤ: the part of a residue class from a first number on, and the numbers of a run.
use mathlib.Core.Path.{◌≡◌, ◌∙◌, ap}
use mathlib.Core.Logic.{◌↔◌}
use mathlib.Core.List.{[], ◌∷◌}
use Rattle.ints.specs.Divides.{Congruent}
use Rattle.ints.proofs.{ℤ, pos, nat_abs, ◌+ℤ◌, ◌-ℤ◌, ◌*ℤ◌, ◌≤ℤ◌, ◌<ℤ◌, arith, lin, ◌&◌, facts, prod}
use Rattle.ints.proofs.Order.{abs_nonneg, nat_nonneg}
use Rattle.ints.proofs.Products.{cancel_lt}
use Rattle.runs.specs.Run.{Run, InRun}

-- ---- a progression: f + s·k, k from 0 to n
pub record Along (f s n x : ℤ) : Type 0 where
  pub k : ℤ
  pub low : pos 0 ≤ℤ k
  pub high : k ≤ℤ n
  pub is : x ≡ f +ℤ s *ℤ k

-- it is the part of the class of f modulo s from f to f + s·n
pub Along-iff : (f s n x : ℤ) → pos 0 <ℤ s → Along f s n x ↔ (Congruent s x f × (f ≤ℤ x) × (x ≤ℤ (f +ℤ s *ℤ n)))
Along-iff f s n x h = (to, from)
  where
    low : pos 0 ≤ℤ s
    low = lin (s ∷ []) h (search facts depth 20) (omega arith)

    to : Along f s n x → Congruent s x f × (f ≤ℤ x) × (x ≤ℤ (f +ℤ s *ℤ n))
    to a = (
      record { factor = a.k; exact = lin (f ∷ s ∷ x ∷ a.k ∷ []) a.is (search facts depth 20) (omega arith) },
      lin (f ∷ s ∷ x ∷ a.k ∷ []) (a.is & prod low a.low) (search facts depth 20) (omega arith),
      lin (f ∷ s ∷ x ∷ n ∷ a.k ∷ []) (a.is & prod low a.high) (search facts depth 20) (omega arith),
    )

    from : Congruent s x f × (f ≤ℤ x) × (x ≤ℤ (f +ℤ s *ℤ n)) → Along f s n x
    from (c, a, b) = record {
      k = c.factor;
      low = lin (c.factor ∷ []) below (search facts depth 20) (omega arith);
      high = lin (n ∷ c.factor ∷ []) above (search facts depth 20) (omega arith);
      is = lin (f ∷ s ∷ x ∷ c.factor ∷ []) c.exact (search facts depth 20) (omega arith);
    }
      where
        below : (pos 0 -ℤ pos 1) <ℤ c.factor
        below = cancel_lt s (pos 0 -ℤ pos 1) c.factor h (lin (f ∷ s ∷ x ∷ c.factor ∷ []) (c.exact & a & h) (search facts depth 20) (omega arith))

        above : c.factor <ℤ (n +ℤ pos 1)
        above = cancel_lt s c.factor (n +ℤ pos 1) h (lin (f ∷ s ∷ x ∷ n ∷ c.factor ∷ []) (c.exact & b & h) (search facts depth 20) (omega arith))

-- with one number only, any step will do
pub alone : (f s s' x : ℤ) → Along f s (pos 0) x → Along f s' (pos 0) x
alone f s s' x a =
    let z : a.k ≡ pos 0 = lin (a.k ∷ []) (a.low & a.high) (search facts depth 20) (omega arith) in
    record {
      k = pos 0;
      low = nat_nonneg 0;
      high = nat_nonneg 0;
      is = lin (f ∷ s ∷ s' ∷ x ∷ a.k ∷ []) (a.is & ap (λ t. s *ℤ t) z) (search facts depth 20) (omega arith);
    }

-- ---- the numbers of a run
-- its places are those of a progression
pub in_Along : (r : Run) (x : ℤ) → InRun r x ↔ Along r.first r.step (pos r.many -ℤ pos 1) x
in_Along r x = (to, from)
  where
    to : InRun r x → Along r.first r.step (pos r.many -ℤ pos 1) x
    to h = record {
      k = pos h.place;
      low = nat_nonneg h.place;
      high = lin (pos h.place ∷ pos r.many ∷ []) h.below (search facts depth 20) (omega arith);
      is = h.is;
    }

    from : Along r.first r.step (pos r.many -ℤ pos 1) x → InRun r x
    from a =
        let e : a.k ≡ pos (nat_abs a.k) = abs_nonneg a.k a.low in
        record {
          place = nat_abs a.k;
          below = lin (a.k ∷ pos (nat_abs a.k) ∷ pos r.many ∷ []) (a.high & e) (search facts depth 20) (omega arith);
          is = a.is ∙ ap (λ t. r.first +ℤ r.step *ℤ t) e;
        }
