-- What is found in the arrays is what the model finds, from the same weights, labels and runs.
use mathlib.Core.Path.{◌≡◌, refl, ◌∙◌, ap, ap₂}
use mathlib.Core.List.{List}
use Prim.Native.Nat.{ℕ, ◌<◌}
use Rattle.ints.proofs.{ℤ, pos, ◌+ℤ◌, ◌*ℤ◌, arith}
use Rattle.lists.specs.Table.{Tabulates}
use Rattle.lists.proofs.Sums.{sum_ext}
use Rattle.runs.specs.declared.Run.{Run}
use Rattle.jobs.specs.Solution.{number}
use Rattle.jobs.proofs.SheetFields.{Agree}
use Rattle.families.specs.Family.{choice}
use Rattle.families.specs.ModelFindings.{slope_by, chosen_by, number_by, objective_by, findings_by}
use Rattle.solver.specs.StateArrays.{label_in, run_in}
use Rattle.solver.specs.Labels.{Lowest}
use Rattle.solver.proofs.LowestVariables.{leads_below}
use Rattle.planner.specs.Choice.{Members, number_in, objective_in, chosen_in, findings_in}

module _ (weights : List ℤ) (labels : List ℕ) (runs : List Run) (n : ℕ) (low : Lowest labels n) (m : Members labels runs n)
    (slopes : List ℤ) (sums : Tabulates (pos 0) (slope_by n (number weights) (label_in labels) (run_in runs)) n slopes)
    (numbers : List ℤ) (values : Tabulates (pos 0) (number_in labels runs slopes) n numbers) where
  abbrev w : ℕ → ℤ
  w = number weights

  abbrev g : ℕ → ℕ
  g = label_in labels

  abbrev r : ℕ → Run
  r = run_in runs

  number_is : (i : ℕ) → i < n → number numbers i ≡ number_by n w g r i
  unfolding number_by chosen_by
  number_is i h =
      values.at i h
      ∙ ap₂ (λ a k. (r i).first +ℤ (r i).step *ℤ pos (choice a k)) (sums.at (g i) (omega (arith, low.low i h, h))) (m.many i h)

  chosen_is : (l : ℕ) → l < n → chosen_in runs slopes l ≡ chosen_by n w g r l
  unfolding chosen_by
  chosen_is l h = ap (λ a. choice a (r l).many) (sums.at l h)

  pub objective_is : objective_in weights numbers n ≡ objective_by n (number weights) (label_in labels) (run_in runs)
  unfolding objective_in objective_by
  objective_is = sum_ext n _ _ (λ i h. ap (λ x. w i *ℤ x) (number_is i h))

  pub agree : Agree (findings_in labels runs slopes numbers n (objective_in weights numbers n)) (findings_by n (number weights) (label_in labels) (run_in runs))
  agree = record {
    variables = refl;
    leading = refl;
    numbers = λ i h. refl;
    runs = λ i h. refl;
    values = number_is;
    many = λ l h. refl;
    choices = λ l h. chosen_is l (leads_below g n l h);
    slopes = λ l h. sums.at l (leads_below g n l h);
    total = objective_is;
  }
