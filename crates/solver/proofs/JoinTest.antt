-- The test whether an equation joins two sets that earlier rows left separate.
use mathlib.Core.Path.{sym, ◌∙◌}
use mathlib.Core.Logic.{◌↔◌, ◌≢◌}
use mathlib.Core.List.{List}
use Prim.Native.Nat.{ℕ, ◌<◌}
use Rattle.jobs.specs.Job.{Job}
use Rattle.jobs.specs.NormalForm.{normal_row}
use Rattle.jobs.specs.Component.{Joins}
use Rattle.jobs.proofs.Components.{Joins-iff}
use Rattle.solver.specs.StateArrays.{label_in}
use Rattle.solver.specs.Labels.{Labels}

-- the labels that the earlier equations leave to its variables differ exactly when an equation joins
pub Joins-told : (j : Job) (k n : ℕ) (labels : List ℕ) → Labels j k n labels → (normal_row j k).left < n → (normal_row j k).right < n →
    (label_in labels (normal_row j k).left ≢ label_in labels (normal_row j k).right) ↔ Joins j k
Joins-told j k n labels a p q = (
  λ d. (Joins-iff j k).1 (λ z. d (a.at (normal_row j k).left p ∙ z ∙ sym (a.at (normal_row j k).right q))),
  λ h z. (Joins-iff j k).0 h (sym (a.at (normal_row j k).left p) ∙ z ∙ a.at (normal_row j k).right q),
)
