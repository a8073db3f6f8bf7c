-- The family invariant holds of the model after any number of equations.
use mathlib.Core.Path.{◌≡◌, refl, sym, ◌∙◌, ap, ap₂, subst}
use mathlib.Core.Logic.{◌≢◌}
use mathlib.Core.Option.{Option, none, some}
use mathlib.Core.List.{map}
use Prim.Native.Nat.{ℕ, zero, suc, ◌≤◌, ◌<◌}
use native.Mathlib.Omega.{arith}
use lib.ListN.{length, get_or, length-map}
use Rattle.lists.specs.Table.{table}
use Rattle.lists.proofs.Places.{map_at}
use Rattle.lists.proofs.Table.{table_at, length-table}
use Rattle.runs.specs.declared.Run.{Run}
use Rattle.runs.specs.Run.{empty}
use Rattle.runs.specs.Workings.{CarryLimits}
use Rattle.jobs.specs.Job.{Job, form, equation}
use Rattle.jobs.specs.NormalForm.{normal_row}
use Rattle.jobs.specs.Component.{merged, lowest_by}
use Rattle.jobs.specs.Lawful.{LawfulJob}
use Rattle.jobs.proofs.NormalForm.{normal-left_below, normal-right_below, normal_carries}
use Rattle.families.specs.Model.{State, label_at, run_at, Indices, run_after, kept, change, next, state_after}
use Rattle.families.specs.Invariant.{Invariant}
use Rattle.families.proofs.OneEquation.{Kept, kept_is}
use Rattle.families.proofs.Labels.{left_label, right_label, next_label}
use Rattle.families.proofs.InvariantStep.{Named, advance}
use Rattle.families.proofs.StateStep.{same_label, redundant, changed}
use Rattle.families.proofs.StartState.{start_lengths, begins}

-- a component and a run for each variable
pub record Sized (j : Job) (s : State) : Type 0 where
  pub labels : length s.labels ≡ length j.variables
  pub runs : length s.runs ≡ length j.variables

-- what is known of a state after m equations
pub record Reached (j : Job) (m : ℕ) (s : State) : Type 0 where
  pub sized : Sized j s
  pub invariant : Invariant j m s

-- ---- the model's change of a state, by its fields
module _ (l r : ℕ) (s : State) where
  pub change_none : change l r none s ≡ s
  unfolding change
  change_none = refl

  module _ (i : Indices) where
    abbrev after : ℕ → Run
    after k = run_after l r i (label_at s k) (run_at s k)

    change-labels : (change l r (some i) s).labels ≡ map (merged l r) s.labels
    unfolding change
    change-labels = refl

    change_runs : (change l r (some i) s).runs ≡ table after (length s.runs)
    unfolding change
    change_runs = refl

    pub label_after : (k : ℕ) → k < length s.labels → label_at (change l r (some i) s) k ≡ merged l r (label_at s k)
    label_after k h = ap (λ gs. get_or gs k 0) change-labels ∙ map_at (merged l r) s.labels k 0 0 h

    pub run_after_lem : (k : ℕ) → k < length s.runs → run_at (change l r (some i) s) k ≡ after k
    run_after_lem k h = ap (λ rs. get_or rs k empty) change_runs ∙ table_at after (length s.runs) k empty h

    Sized-after : {j : Job} → Sized j s → Sized j (change l r (some i) s)
    Sized-after z = record {
      labels = ap length change-labels ∙ length-map s.labels (merged l r) ∙ z.labels;
      runs = ap length change_runs ∙ length-table after (length s.runs) ∙ z.runs;
    }

-- ---- one equation more
module _ {j : Job} {m : ℕ} {s : State} (named : Named j m) (known : Reached j m s) where
  abbrev P : Run
  P = run_at s (normal_row j m).left

  abbrev Q : Run
  Q = run_at s (normal_row j m).right

  inv : Invariant j m s
  inv = known.invariant

  changes : (o : Option Indices) → Kept (form (normal_row j m)) (left_label j m) (right_label j m) P Q o → Reached j (suc m) (change (left_label j m) (right_label j m) o s)
  changes none (one, all) =
      subst (Reached j (suc m)) (sym (change_none (left_label j m) (right_label j m) s)) (record {
        sized = known.sized;
        invariant = advance named inv (redundant named inv one all) (λ i h. inv.labels i h ∙ sym (same_label named inv one all i));
      })
  changes (some ix) o = record {
    sized = Sized-after (left_label j m) (right_label j m) s ix known.sized;
    invariant = advance named inv (changed named inv o is) labels;
  }
    where
      is : (i : ℕ) → i < length j.variables →
          run_at (change (left_label j m) (right_label j m) (some ix) s) i ≡ run_after (left_label j m) (right_label j m) ix (lowest_by j m i) (run_at s i)
      is i h =
          run_after_lem (left_label j m) (right_label j m) s ix i (omega (arith, known.sized.runs))
          ∙ ap (λ g. run_after (left_label j m) (right_label j m) ix g (run_at s i)) (inv.labels i h)

      labels : (i : ℕ) → i < length j.variables → label_at (change (left_label j m) (right_label j m) (some ix) s) i ≡ lowest_by j (suc m) i
      labels i h =
          label_after (left_label j m) (right_label j m) s ix i (omega (arith, known.sized.labels))
          ∙ ap (merged (left_label j m) (right_label j m)) (inv.labels i h) ∙ sym (next_label j m i)

  next_is : next (normal_row j m) s ≡ change (left_label j m) (right_label j m) (kept (form (normal_row j m)) (left_label j m) (right_label j m) P Q) s
  unfolding next
  next_is = ap₂ (λ l r. change l r (kept (form (normal_row j m)) l r P Q) s) (inv.labels (normal_row j m).left named.left) (inv.labels (normal_row j m).right named.right)

  next-Reached : (left_label j m ≢ right_label j m → CarryLimits (form (normal_row j m))) → Reached j (suc m) (next (normal_row j m) s)
  next-Reached lim =
      subst (Reached j (suc m)) (sym next_is) (changes (kept (form (normal_row j m)) (left_label j m) (right_label j m) P Q)
      (kept_is (form (normal_row j m)) (left_label j m) (right_label j m) P Q lim
      (inv.form (normal_row j m).left named.left) (inv.form (normal_row j m).right named.right) same_many))
    where
      same_many : left_label j m ≡ right_label j m → P.many ≡ Q.many
      same_many z = inv.many (normal_row j m).left named.left ∙ ap (λ g. (run_at s g).many) z ∙ sym (inv.many (normal_row j m).right named.right)

-- ---- all of them, in their order
module _ (j : Job) (lawful : LawfulJob j) where
  pub reached : (m : ℕ) → m ≤ length j.equations → Reached j m (state_after j m)
  unfolding state_after
  reached zero h = record { sized = record { labels = (start_lengths j).0; runs = (start_lengths j).1 }; invariant = begins j lawful.each_variable }
  reached (suc m) h =
      let f = lawful.each_equation m h in
      next-Reached (record { left = normal-left_below (equation j m) (length j.variables) f.left f.right; right = normal-right_below (equation j m) (length j.variables) f.left f.right })
      (reached m (omega arith)) (λ n. normal_carries (equation j m) f.coefficients (λ e. n (ap (lowest_by j m) e)))

  pub invariant : (m : ℕ) → m ≤ length j.equations → Invariant j m (state_after j m)
  invariant m h = (reached m h).invariant
