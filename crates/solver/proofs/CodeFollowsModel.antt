-- The program's arrays follow the model, equation by equation.
use mathlib.Core.Path.{◌≡◌, refl, sym, ◌∙◌, ap, ap₂, subst}
use mathlib.Core.Logic.{◌≢◌}
use mathlib.Core.Bool.{cond}
use mathlib.Core.Option.{Option, none, some, none-ne-some}
use mathlib.Core.List.{List, [], ◌∷◌}
use Prim.Native.Nat.{ℕ, suc, ◌≤◌, ◌<◌, min}
use native.Mathlib.Omega.{min_cases}
use native.Mathlib.Decide.{ℕ_discrete}
use lib.Dec.{ltb}
use lib.ListN.{length, get_or}
use borrow.Author.Tests.{eq-eqb}
use Rattle.ints.proofs.{arith, lin, ◌&◌, facts}
use Rattle.runs.specs.declared.Equation.{Equation as Form}
use Rattle.runs.specs.declared.Run.{Run}
use Rattle.runs.specs.Run.{full}
use Rattle.runs.proofs.Members.{same_run}
use Rattle.runs.specs.Search.{meet}
use Rattle.runs.specs.Workings.{CarryLimits}
use Rattle.families.specs.FamilyRun.{FamilyRun}
use Rattle.jobs.specs.declared.Equation.{Equation}
use Rattle.jobs.specs.Job.{Job, form, variable, equation}
use Rattle.jobs.specs.NormalForm.{normal, normal_row}
use Rattle.jobs.specs.ReasonTable.{Coefficients}
use Rattle.jobs.specs.Component.{merged, lowest_by, lowest}
use Rattle.jobs.specs.Lawful.{LawfulJob, LawfulEquation}
use Rattle.jobs.proofs.NormalForm.{normal_cases, normal-left_below, normal-right_below, normal_carries}
use Rattle.jobs.proofs.Components.{Merged, first, second, other, Merged-cases, lowest_by-le, lowest_by_self}
use Rattle.families.specs.Model.{State, label_at, run_at, Indices as Pair, interval, start_state, through, both_sides, cycle, join, common_numbers, run_after, kept, change, next, state_after, state_after_all}
use Rattle.jobs.specs.Family.{family_run}
use Rattle.families.proofs.StartState.{began_is, label_at-start_state, run_at-start_state}
use Rattle.families.proofs.InvariantHolds.{Reached, reached, invariant, change_none, label_after, run_after_lem}
use Rattle.families.proofs.Labels.{next_label}
use Rattle.families.proofs.Subfamily.{after_left, after_right}
use Rattle.families.proofs.ModelIsExact.{exact}
use Rattle.solver.specs.declared.join.Indices.{Indices}
use Rattle.solver.specs.Labels.{Merges, Labels, Apart}
use Rattle.solver.specs.Spans.{Leads}
use Rattle.solver.specs.Widths.{Combinable}
use Rattle.solver.specs.StateArrays.{run_in}
use Rattle.solver.specs.Runs.{gathered}
use Rattle.solver.specs.Steps.{indices_by, Reducible, BothReducible, BothReduce}

-- the arrays have at each variable what the model has after k equations
pub record Follows (j : Job) (k : ℕ) (labels : List ℕ) (runs : List Run) : Type 0 where
  pub label : (i : ℕ) → i < length j.variables → get_or labels i 0 ≡ label_at (state_after j k) i
  pub run : (i : ℕ) → i < length j.variables → gathered labels runs i ≡ run_at (state_after j k) i

-- ---- before any equation
module _ (j : Job) (f : LawfulJob j) where
  begins_start : state_after j 0 ≡ start_state j
  unfolding state_after
  begins_start = refl

  start_label : (i : ℕ) → i < length j.variables → label_at (state_after j 0) i ≡ i
  start_label i h = ap (λ s. label_at s i) begins_start ∙ label_at-start_state j i h

  start_run_lem : (i : ℕ) → i < length j.variables → run_at (state_after j 0) i ≡ meet full (interval (variable j i).low (variable j i).high)
  start_run_lem i h =
      let v = f.each_variable i h in
      ap (λ s. run_at s i) begins_start ∙ run_at-start_state j i h ∙ began_is (variable j i).low (variable j i).high v.low v.high

  pub Follows-start : (labels : List ℕ) (runs : List Run) → ((i : ℕ) → i < length j.variables → get_or labels i 0 ≡ i) →
      ((i : ℕ) → i < length j.variables → run_in runs i ≡ meet full (interval (variable j i).low (variable j i).high)) → Follows j 0 labels runs
  Follows-start labels runs g p = record {
    label = λ i h. g i h ∙ sym (start_label i h);
    run = λ i h. ap (λ l. record (run_in runs i) { many = (run_in runs l).many }) (g i h) ∙ p i h ∙ sym (start_run_lem i h);
  }

-- ---- the model's step
next_by : (j : Job) (k : ℕ) → state_after j (suc k) ≡ next (normal_row j k) (state_after j k)
unfolding state_after
next_by j k = refl

next_of : (e : Equation) (s : State) →
    next e s ≡ change (label_at s e.left) (label_at s e.right) (kept (form e) (label_at s e.left) (label_at s e.right) (run_at s e.left) (run_at s e.right)) s
unfolding next
next_of e s = refl

same_change : (e : Equation) (s : State) {l l' r r' : ℕ} {P P' Q Q' : Run} → l' ≡ l → r' ≡ r → P' ≡ P → Q' ≡ Q →
    change l r (kept (form e) l r P Q) s ≡ change l' r' (kept (form e) l' r' P' Q') s
same_change e s a b c d = sym (λ t. change (a t) (b t) (kept (form e) (a t) (b t) (c t) (d t)) s)

-- inside one component the same indices stay on both sides
ring_sides : (f : Form) (l r : ℕ) (P Q : Run) (i : Pair) → l ≡ r → some i ≡ kept f l r P Q → i.left ≡ i.right
unfolding kept
ring_sides f l r P Q i z h = go (cycle f P Q) (h ∙ ap (λ b. cond b (both_sides (cycle f P Q)) (some (join f P Q (common_numbers f P Q) (ltb l r)))) (eq-eqb l r z))
  where
    go : (o : Option Run) → some i ≡ both_sides o → i.left ≡ i.right
    go none e = absurd (none-ne-some i (sym e))
    go (some s) e = cc

-- ---- the labels alone
-- of two that lead, the lower leads
lower_leads : (L : List ℕ) (n l r : ℕ) → Leads L n l → Leads L n r → Leads L n (min l r)
lower_leads L n l r a b = min_cases l r (Leads L n (min l r)) (λ _ e. subst (Leads L n) (sym e) a) (λ _ e. subst (Leads L n) (sym e) b)

pub labels_start : (j : Job) (n : ℕ) (labels : List ℕ) → n ≤ 256 → Apart labels → Labels j 0 n labels
unfolding lowest_by
labels_start j n labels h a = record { at = λ i b. a.at i (omega arith) }

module _ (j : Job) (k : ℕ) (labels : List ℕ) (n : ℕ) (a : Labels j k n labels) where
  -- the label of a variable is the lowest of its component
  pub labels_lead : (i : ℕ) → i < n → Leads labels n (get_or labels i 0)
  labels_lead i h =
      let below : get_or labels i 0 < n = omega (arith, a.at i h, lowest_by-le j k i, h) in
      record { below = below; self = a.at (get_or labels i 0) below ∙ ap (lowest_by j k) (a.at i h) ∙ lowest_by_self j k i ∙ sym (a.at i h) }

  -- one equation more, whose row in normal form is e
  module _ (e : Equation) (is : e ≡ normal_row j k) (left : e.left < n) (right : e.right < n) where
    next_at : (i : ℕ) → i < n → lowest_by j (suc k) i ≡ merged (get_or labels e.left 0) (get_or labels e.right 0) (get_or labels i 0)
    next_at i h = next_label j k i ∙ rw (sym is, a.at e.left left, a.at e.right right, a.at i h) refl

    pub labels_joined : (after : List ℕ) → Merges labels (get_or labels e.left 0) (get_or labels e.right 0) n after → Labels j (suc k) n after
    labels_joined after m = record { at = λ i h. m.at i h ∙ sym (next_at i h) }

-- ---- how large a coefficient of a lawful row is in normal form
normal_combines : {e : Equation} → Coefficients e → Combinable (form (normal e))
normal_combines {e} f = normal_cases e (λ n. Combinable (form n)) (λ b. record {
  left = lin (e.a ∷ []) f.left (search facts depth 20) (omega arith);
  right = lin (e.b ∷ []) f.right (search facts depth 20) (omega arith);
  constant = f.constant;
}) (λ u. record {
  left = lin (e.a ∷ e.b ∷ []) (f.left & f.right) (search facts depth 20) (omega arith);
  right = record { size = omega arith };
  constant = f.constant;
})

-- ---- one equation more
-- what is known at equation k of a lawful job with n variables, whose row in normal form is e
pub record At (j : Job) (n k : ℕ) (labels : List ℕ) (runs : List Run) (e : Equation) : Type 0 where
  pub lawful : LawfulJob j
  pub all : length j.variables ≡ n
  pub below : k < length j.equations
  pub follows : Follows j k labels runs
  pub row : e ≡ normal_row j k

module _ {j : Job} {n k : ℕ} {labels : List ℕ} {runs : List Run} {e : Equation} (a : At j n k labels runs e) where
  abbrev S : State
  S = state_after j k

  abbrev l : ℕ
  l = get_or labels e.left 0

  abbrev r : ℕ
  r = get_or labels e.right 0

  abbrev seen : ℕ → Run
  seen = gathered labels runs

  abbrev P : Run
  P = seen e.left

  abbrev Q : Run
  Q = seen e.right

  known : Reached j k S
  known = let b = a.below in reached j a.lawful k (omega arith)

  within : {i : ℕ} → i < n → i < length j.variables
  within h = omega (arith, h, a.all)

  label_is : (i : ℕ) → i < n → get_or labels i 0 ≡ label_at S i
  label_is i h = a.follows.label i (within h)

  run_is : (i : ℕ) → i < n → seen i ≡ run_at S i
  run_is i h = a.follows.run i (within h)

  as_written : LawfulEquation n (equation j k)
  as_written = rw (← a.all) (a.lawful.each_equation k a.below)

  pub left_below : e.left < n
  left_below = rw a.row (normal-left_below (equation j k) n as_written.left as_written.right)

  pub right_below : e.right < n
  right_below = rw a.row (normal-right_below (equation j k) n as_written.left as_written.right)

  pub combinable : Combinable (form e)
  combinable = rw a.row (normal_combines as_written.coefficients)

  pub limits : get_or labels e.left 0 ≢ get_or labels e.right 0 → CarryLimits (form e)
  limits n = subst (λ e. CarryLimits (form e)) (sym a.row) (normal_carries (equation j k) as_written.coefficients (λ z. n (ap (λ i. get_or labels i 0) (rw a.row z))))

  family : (i : ℕ) → i < n → FamilyRun (seen i)
  family i h = subst FamilyRun (sym (run_is i h)) (known.invariant.form i (within h))

  pub left_family : FamilyRun (gathered labels runs e.left)
  left_family = family e.left left_below

  pub right_family : FamilyRun (gathered labels runs e.right)
  right_family = family e.right right_below

  labels_are : Labels j k n labels
  labels_are = record { at = λ i h. label_is i h ∙ known.invariant.labels i (within h) }

  pub left_Leads : Leads labels n (get_or labels e.left 0)
  left_Leads = labels_lead j k labels n labels_are e.left left_below

  pub right_Leads : Leads labels n (get_or labels e.right 0)
  right_Leads = labels_lead j k labels n labels_are e.right right_below

  -- what the model keeps here, and the step that it takes
  abbrev pub keeps : Option Pair
  keeps = kept (form e) l r P Q

  next_is : (x : Option Pair) → x ≡ keeps → state_after j (suc k) ≡ change l r x S
  next_is x h =
      next_by j k ∙ ap (λ e. next e S) (sym a.row) ∙ next_of e S
      ∙ same_change e S (label_is e.left left_below) (label_is e.right right_below) (run_is e.left left_below) (run_is e.right right_below)
      ∙ ap (λ x. change l r x S) (sym h)

  pub Follows-same : none ≡ keeps → Follows j (suc k) labels runs
  Follows-same h =
      let same : state_after j (suc k) ≡ S = next_is none h ∙ change_none l r S in
      record { label = λ i b. a.follows.label i b ∙ ap (λ s. label_at s i) (sym same); run = λ i b. a.follows.run i b ∙ ap (λ s. run_at s i) (sym same) }

  -- with the indices that it keeps
  module _ (i : Indices) (h : some (indices_by i) ≡ keeps) where
    abbrev after : ℕ → Run
    after v = run_after l r (indices_by i) (get_or labels v 0) (seen v)

    model : state_after j (suc k) ≡ change l r (some (indices_by i)) S
    model = next_is (some (indices_by i)) h

    model_run : (v : ℕ) → v < n → run_at (state_after j (suc k)) v ≡ after v
    model_run v b =
        ap (λ s. run_at s v) model ∙ run_after_lem l r S (indices_by i) v (omega (arith, b, a.all, known.sized.runs))
        ∙ ap₂ (run_after l r (indices_by i)) (sym (label_is v b)) (sym (run_is v b))

    model_label : (v : ℕ) → v < n → label_at (state_after j (suc k)) v ≡ merged l r (get_or labels v 0)
    model_label v b =
        ap (λ s. label_at s v) model ∙ label_after l r S (indices_by i) v (omega (arith, b, a.all, known.sized.labels)) ∙ ap (merged l r) (sym (label_is v b))

    -- the family afterwards
    new_family : (v : ℕ) → v < n → FamilyRun (after v)
    new_family v b = subst FamilyRun (model_run v b) ((invariant j a.lawful (suc k) a.below).form v (within b))

    -- one side of it
    side : (g : ℕ) (s : Run) → ((v : ℕ) → get_or labels v 0 ≡ g → after v ≡ through (seen v) s) → Reducible labels runs g s n
    side g s f = record { before = λ v b e. family v b; after = λ v b e. subst FamilyRun (f v e) (new_family v b) }

    pub reducible : BothReducible labels runs (get_or labels e.left 0) (get_or labels e.right 0) i n
    reducible = record {
      left = side l i.left (λ v h. after_left l r (indices_by i) (get_or labels v 0) (seen v) h);
      right = side r i.right (λ v h. at_right v h (ℕ_discrete l r));
    }
      where
        one_side : l ≡ r → i.left ≡ i.right
        one_side z = ring_sides (form e) l r P Q (indices_by i) z h

        at_right : (v : ℕ) → get_or labels v 0 ≡ r → Dec (l ≡ r) → after v ≡ through (seen v) i.right
        at_right v h (yes z) = after_left l r (indices_by i) (get_or labels v 0) (seen v) (h ∙ sym z) ∙ ap (through (seen v)) (one_side z)
        at_right v h (no z) = after_right l r (indices_by i) (get_or labels v 0) (seen v) (λ q. z (sym q ∙ h)) h

    -- the two components as one
    module _ (labels' : List ℕ) (m : Merges labels (get_or labels e.left 0) (get_or labels e.right 0) n labels') (runs' : List Run)
        (q : BothReduce labels runs (get_or labels e.left 0) (get_or labels e.right 0) i n runs') where
      run_then : (v : ℕ) → v < n → gathered labels runs' v ≡ run_at (state_after j (suc k)) v
      run_then v b = q.at v b ∙ sym (model_run v b)

      label_then : (v : ℕ) → v < n → get_or labels' v 0 ≡ label_at (state_after j (suc k)) v
      label_then v b = m.at v b ∙ sym (model_label v b)

      -- a variable's label is then the lowest of its component, and was the lowest of one before
      led : (v : ℕ) → v < n → Merged l r (get_or labels v 0) → Leads labels n (get_or labels' v 0)
      led v b (first x z) = subst (Leads labels n) (sym (m.at v b ∙ z)) (lower_leads labels n l r left_Leads right_Leads)
      led v b (second x z) = subst (Leads labels n) (sym (m.at v b ∙ z)) (lower_leads labels n l r left_Leads right_Leads)
      led v b (other x y z) = subst (Leads labels n) (sym (m.at v b ∙ z)) (labels_lead j k labels n labels_are v b)

      -- how many there are, there
      many_then : (v : ℕ) → v < n → Leads labels n (get_or labels' v 0) → (run_in runs' (get_or labels' v 0)).many ≡ (run_at (state_after j (suc k)) v).many
      many_then v b w =
          let inv = invariant j a.lawful (suc k) a.below in
          let g : ℕ = get_or labels' v 0 in
          let is : g ≡ lowest_by j (suc k) v = label_then v b ∙ inv.labels v (within b) in
          ap (λ u. (run_in runs' u).many) (sym w.self) ∙ ap (λ r. r.many) (run_then g w.below)
          ∙ ap (λ g. (run_at (state_after j (suc k)) g).many) is ∙ sym (inv.many v (within b))

      pub Follows-reduced : Follows j (suc k) labels' runs'
      Follows-reduced = record {
        label = λ v b. label_then v (omega (arith, b, a.all));
        run = λ v b. let c : v < n = omega (arith, b, a.all) in
            same_run (ap (λ r. r.first) (run_then v c)) (ap (λ r. r.step) (run_then v c)) (many_then v c (led v c (Merged-cases l r (get_or labels v 0))));
      }

-- ---- after all of them
pub Follows-end : (j : Job) → LawfulJob j → (labels : List ℕ) (runs : List Run) → Follows j (length j.equations) labels runs → (i : ℕ) → i < length j.variables →
    (get_or labels i 0 ≡ lowest j i) × (gathered labels runs i ≡ family_run j i)
unfolding state_after_all
Follows-end j f labels runs o i h = let (g, r) = exact j f i h in (o.label i h ∙ g, o.run i h ∙ r)
