-- `slopes` meets its contract: each variable adds to its own component.
use mathlib.Core.Path.{◌≡◌, sym, ◌∙◌, ap, subst}
use mathlib.Core.List.{List}
use Prim.Native.Nat.{ℕ, ◌+◌, ◌≤◌, ◌<◌}
use native.Mathlib.Decide.{ℕ_discrete}
use lib.Dec.{eqb}
use lib.ListN.{get_or, set, replicate, length-set, length-replicate}
use lib.Seq.{get_or-set_same, get_or-set_other}
use mir.Syntax.{w64}
use mir.Val.{SFits}
use Rattle.ints.specs.Within.{Within}
use Rattle.ints.proofs.Signed.{held}
use Rattle.ints.proofs.{ℤ, pos, ◌+ℤ◌, ◌*ℤ◌, [], ◌∷◌, arith, lin₀, facts}
use Rattle.lists.specs.Sums.{sum, pick, sum_of}
use Rattle.lists.proofs.ArrayPass.{all_same}
use Rattle.lists.proofs.Sums.{sum_next, pick_yes, pick_no}
use Rattle.runs.specs.declared.Run.{Run}
use Rattle.jobs.specs.Solution.{number}
use Rattle.families.specs.ModelFindings.{slope_by}
use Rattle.families.proofs.FamilySizes.{step-Within}
use Rattle.solver.specs.StateArrays.{label_in, run_in}
use Rattle.solver.proofs.In64Bits.{held-Within}
use Rattle.planner.proofs.WeightedSums.{fits_product, fits_total, total_is, sums_Within}
use Rattle.planner.specs.declared.choose.Families.{Families}
use Rattle.planner.proofs.choose.Families.slopes.Goals as goal
use Rattle.planner.proofs.choose.Families.slopes.Invariants.{Summed, steps}

plus_zero : (x : ℤ) → x +ℤ pos 0 ≡ x
plus_zero x = lin₀ (x ∷ []) (search facts depth 20) (omega arith)

module _ (w : ℕ → ℤ) (g : ℕ → ℕ) (s : ℕ → ℤ) (n : ℕ) where
  abbrev term : ℕ → ℤ
  term k = w k *ℤ s k

  none : Summed w g s n 0 (replicate 256 (pos 0))
  unfolding sum
  none = record { long = length-replicate 256 (pos 0); at = λ l h. all_same 256 l (pos 0) }

  -- one variable more: i adds to its component
  more : (i : ℕ) (slopes : List ℤ) → Summed w g s n i slopes → g i < n → n ≤ 256 → (x : ℤ) → x ≡ sum_of g (g i) i term +ℤ term i → Summed w g s n (i + 1) (set slopes (g i) x)
  more i slopes f b small x e = record {
    long = length-set slopes (g i) x ∙ f.long;
    at = λ l h. go l h (ℕ_discrete l (g i)) ∙ sym (sum_next i (λ k. pick (eqb (g k) l) (term k)));
  }
    where
      go : (l : ℕ) → l < n → Dec (l ≡ g i) → get_or (set slopes (g i) x) l (pos 0) ≡ sum_of g l i term +ℤ pick (eqb (g i) l) (term i)
      go l h (yes q) =
          ap (λ l. get_or (set slopes (g i) x) l (pos 0)) q
          ∙ get_or-set_same slopes (g i) x (pos 0) (omega (arith, f.long)) ∙ e
          ∙ ap (λ t. sum_of g (g i) i term +ℤ t) (sym (pick_yes (g i) (term i)))
          ∙ ap (λ l. sum_of g l i term +ℤ pick (eqb (g i) l) (term i)) (sym q)
      go l h (no d) =
          get_or-set_other slopes (g i) l x (pos 0) d ∙ f.at l h
          ∙ sym (ap (λ t. sum_of g l i term +ℤ t) (pick_no (g i) l (term i) (λ q. d (sym q))) ∙ plus_zero (sum_of g l i term))

whole : (n i l : ℕ) (w : ℕ → ℤ) (g : ℕ → ℕ) (r : ℕ → Run) → i ≡ n → sum_of g l i (λ k. w k *ℤ (r k).step) ≡ slope_by n w g r l
unfolding slope_by
whole n i l w g r e = ap (λ m. sum_of g l m (λ k. w k *ℤ (r k).step)) e

-- at variable i, with the slopes of those before it
module _ (f : Families) (i : ℕ) (below : i < f.variables) (slopes : List ℤ) where
  abbrev w : ℕ → ℤ
  w = number f.weights.now

  abbrev g : ℕ → ℕ
  g = label_in f.state.now.labels

  abbrev s : ℕ → ℤ
  s = steps f.state.now.runs

  module _ (summed : Summed (number f.weights.now) (label_in f.state.now.labels) (steps f.state.now.runs) f.variables i slopes) where
    low : g i < f.variables
    low = omega (arith, f.lowest.low i below, below)

    step_small : (k : ℕ) → k < f.variables → Within 2000000000 (s k)
    step_small k h = step-Within (f.members.form.at k h)

    sum_small : Within 600000000000000000 (sum_of g (g i) i (λ k. w k *ℤ s k))
    sum_small = sums_Within f.few w s f.weights_small.at step_small g (g i) i (omega arith)

    before : held (number slopes (g i)) ≡ sum_of g (g i) i (λ k. w k *ℤ s k)
    before = let e = summed.at (g i) low in held-Within (omega arith) (subst (Within 600000000000000000) (sym e) sum_small) ∙ e

    weight : held (w i) ≡ w i
    weight = held-Within (omega arith) (f.weights_small.at i below)

    step : held (s i) ≡ s i
    step = held-Within (omega arith) (step_small i below)

    pub product_fits : SFits w64 (held (w i) *ℤ held (s i))
    product_fits = fits_product before weight step (f.weights_small.at i below) (step_small i below) sum_small

    pub sum_fits : SFits w64 (held (number slopes (g i)) +ℤ held (held (w i) *ℤ held (s i)))
    sum_fits = fits_total before weight step (f.weights_small.at i below) (step_small i below) sum_small

    pub next : Summed (number f.weights.now) (label_in f.state.now.labels) (steps f.state.now.runs) f.variables (i + 1) (set slopes (label_in f.state.now.labels i) (held (held (number slopes (label_in f.state.now.labels i)) +ℤ held (held (number f.weights.now i) *ℤ held (steps f.state.now.runs i)))))
    next = more w g s f.variables i slopes summed low f.few _ (total_is before weight step (f.weights_small.at i below) (step_small i below) sum_small)

pub loop-i-init : goal.loop-i-init
loop-i-init c = let f = c.args.self in none (number f.weights.now) (label_in f.state.now.labels) (steps f.state.now.runs) f.variables

pub overflow_mul-slopes : goal.overflow_mul-slopes
overflow_mul-slopes c = product_fits c.args.self c.loop-i.i (omega arith) c.loop-i.slopes c.loop-i.invariant

pub overflow_add-slopes : goal.overflow_add-slopes
overflow_add-slopes c = sum_fits c.args.self c.loop-i.i (omega arith) c.loop-i.slopes c.loop-i.invariant

pub loop-i-preserved : goal.loop-i-preserved
loop-i-preserved c = next c.args.self c.loop-i.i (omega arith) c.loop-i.slopes c.loop-i.invariant

pub returns : goal.returns
returns c = let f = c.args.self in
    let e : c.loop-i.i ≡ f.variables = omega arith in
    record { at = λ k h. c.loop-i.invariant.at k h ∙ whole f.variables c.loop-i.i k (number f.weights.now) (label_in f.state.now.labels) (run_in f.state.now.runs) e }
