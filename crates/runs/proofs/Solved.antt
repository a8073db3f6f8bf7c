-- What a value of `Partners` carries: all solutions are in a truncated fact, which has one proof at most, since the modulus is above 0.
use mathlib.Core.Path.{◌≡◌, sym, ◌∙◌}
use mathlib.Core.List.{[], ◌∷◌}
use mathlib.Core.HLevel.{is_prop→PathP}
use denote.Struct.Props as logic
use Rattle.std.proofs.Math.IntN.{ℤ_set}
use Rattle.std.proofs.Math.Logic.{∥∥₁_elim}
use Rattle.ints.specs.Divides.{◌∣ℤ◌}
use Rattle.ints.proofs.{ℤ, pos, ◌*ℤ◌, ◌≤ℤ◌, ◌<ℤ◌, arith, lin, ◌&◌, facts}
use Rattle.ints.proofs.Products.{cancel}
use Rattle.runs.specs.Method.{Class, Congruence, Carriable, AllSolutions, places_with_partner}
use Rattle.runs.specs.declared.partners.Partners.{Partners}
use Rattle.runs.proofs.SolutionPeriod.{period_above}

factor_once : {d n : ℤ} → pos 0 <ℤ d → (a b : d ∣ℤ n) → a ≡ b
factor_once {d} {n} above a b = λ i. record { factor = same i; exact = is_prop→PathP (λ i. n ≡ d *ℤ same i) (λ i. ℤ_set n (d *ℤ same i)) a.exact b.exact i }
  where
    same : a.factor ≡ b.factor
    same = cancel d a.factor b.factor (λ z. lin (d ∷ []) (z & above) (search facts depth 20) (omega arith)) (sym a.exact ∙ b.exact)

solutions_once : {s : Congruence} {c : Class} → pos 0 <ℤ s.d → (a b : AllSolutions s c) → a ≡ b
solutions_once {s} {c} above a b =
    let low : IsProp (pos 0 ≤ℤ c.first) = Prim.hlevel logic.props in
    let high : IsProp (c.first <ℤ c.step) = Prim.hlevel logic.props in
    λ i. record {
      low = low a.low b.low i;
      high = high a.high b.high i;
      all = λ x. (λ h. factor_once (period_above a) ((a.all x).0 h) ((b.all x).0 h) i, λ h. factor_once above ((a.all x).1 h) ((b.all x).1 h) i);
    }

pub known : (s : Partners) → Carriable s.e s.q × AllSolutions (places_with_partner s.e s.q) s.j
known s = (s.carriable, ∥∥₁_elim s.solved (solutions_once s.carriable.above) (λ e. e))
