-- `worth` meets its contract: term for term.
use mathlib.Core.Path.{◌≡◌, refl, sym, ◌∙◌}
use mathlib.Core.List.{List}
use Prim.Native.Nat.{ℕ, ◌+◌, ◌<◌}
use mir.Syntax.{w64}
use mir.Val.{SFits}
use Rattle.ints.specs.Within.{Within}
use Rattle.ints.proofs.{ℤ, pos, ◌+ℤ◌, ◌*ℤ◌, arith}
use Rattle.ints.proofs.Signed.{held}
use Rattle.lists.specs.Sums.{sum}
use Rattle.lists.proofs.Sums.{sum_next}
use Rattle.jobs.specs.Solution.{number}
use Rattle.solver.proofs.In64Bits.{held-Within}
use Rattle.planner.specs.Choice.{AllWithin, objective_in}
use Rattle.planner.specs.declared.choose.Families.{Families}
use Rattle.planner.proofs.WeightedSums.{fits_product, fits_total, total_is, total_Within}
use Rattle.planner.proofs.choose.Families.worth.Goals as goal

none : (weights numbers : List ℤ) → objective_in weights numbers 0 ≡ pos 0
unfolding objective_in sum
none weights numbers = refl

next : (weights numbers : List ℤ) (i : ℕ) → objective_in weights numbers i +ℤ number weights i *ℤ number numbers i ≡ objective_in weights numbers (i + 1)
unfolding objective_in
next weights numbers i = sym (sum_next i (λ k. number weights k *ℤ number numbers k))

-- at variable i
module _ (f : Families) (numbers : List ℤ) (small : AllWithin 1000000000 numbers f.variables) (i : ℕ) (below : i < f.variables) where
  weight : held (number f.weights.now i) ≡ number f.weights.now i
  weight = held-Within (omega arith) (f.weights_small.at i below)

  value_small : (k : ℕ) → k < f.variables → Within 2000000000 (number numbers k)
  value_small k h = record { size = omega (arith, (small.at k h).size) }

  value : held (number numbers i) ≡ number numbers i
  value = held-Within (omega arith) (value_small i below)

  sum_small : Within 600000000000000000 (objective_in f.weights.now numbers i)
  unfolding objective_in
  sum_small = total_Within f.few (number f.weights.now) (number numbers) f.weights_small.at value_small i (omega arith)

  module _ {sum : ℤ} (before : sum ≡ objective_in f.weights.now numbers i) where
    product_fits : SFits w64 (held (number f.weights.now i) *ℤ held (number numbers i))
    product_fits = fits_product before weight value (f.weights_small.at i below) (value_small i below) sum_small

    sum_fits : SFits w64 (sum +ℤ held (held (number f.weights.now i) *ℤ held (number numbers i)))
    sum_fits = fits_total before weight value (f.weights_small.at i below) (value_small i below) sum_small

    after : held (sum +ℤ held (held (number f.weights.now i) *ℤ held (number numbers i))) ≡ objective_in f.weights.now numbers (i + 1)
    after = total_is before weight value (f.weights_small.at i below) (value_small i below) sum_small ∙ next f.weights.now numbers i

pub loop-i-init : goal.loop-i-init
loop-i-init c = sym (none c.args.self.weights.now c.args.numbers.now)

pub overflow_mul-worth : goal.overflow_mul-worth
overflow_mul-worth c = product_fits c.args.self c.args.numbers.now c.requires c.loop-i.i (omega arith) c.loop-i.invariant

pub overflow_add-worth : goal.overflow_add-worth
overflow_add-worth c = sum_fits c.args.self c.args.numbers.now c.requires c.loop-i.i (omega arith) c.loop-i.invariant

pub loop-i-preserved : goal.loop-i-preserved
loop-i-preserved c = after c.args.self c.args.numbers.now c.requires c.loop-i.i (omega arith) c.loop-i.invariant
