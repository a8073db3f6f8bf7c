-- The planner's last steps are the definitions: where each variable's label and run are those of the definitions, so are the
-- choices, the objective and all that is found; and the model's own verdict and areas are `verdict` and `areas_after`.
use mathlib.Core.Path.{◌≡◌, refl, sym, ◌∙◌, ap, ap₂, subst}
use mathlib.Core.Logic.{◌≢◌}
use mathlib.Core.Bool.{Bool, true, false}
use mathlib.Core.Option.{Option, none, some}
use Prim.Native.Nat.{ℕ, ◌*◌, ◌<◌}
use lib.Dec.{eqb, ltb}
use lib.ListN.{length}
use Rattle.reasons.specs.declared.Reason.{Reason}
use Rattle.ints.specs.Within.{Within}
use Rattle.ints.proofs.{ℤ, pos, ◌+ℤ◌, ◌*ℤ◌, Within-mul, arith}
use Rattle.lists.specs.Members.{◌∈◌}
use Rattle.lists.specs.Keep.{keep}
use Rattle.lists.specs.Sums.{pick}
use Rattle.lists.specs.Table.{up_to}
use Rattle.lists.proofs.Keep.{keep_same}
use Rattle.lists.proofs.Sums.{sum_ext, sum-Within}
use Rattle.lists.proofs.Table.{in-up_to}
use Rattle.runs.specs.declared.Run.{Run}
use Rattle.runs.specs.Run.{bound}
use Rattle.families.specs.FamilyRun.{FamilyRun}
use Rattle.jobs.specs.Decide.{equal?, first_where}
use Rattle.jobs.specs.Call.{Call, on_lent}
use Rattle.jobs.specs.Job.{Job, variable}
use Rattle.jobs.specs.Amendments.{job_in}
use Rattle.jobs.specs.Solution.{number, objective, best}
use Rattle.jobs.specs.Component.{lowest, leads, component}
use Rattle.jobs.specs.Family.{component_job, fits, step, chosen, slope, family_run}
use Rattle.jobs.specs.Faults.{first_broken}
use Rattle.jobs.specs.Verdict.{Verdict, planned, no_fit, refused, first_without, outcome, verdict}
use Rattle.jobs.specs.Findings.{findings}
use Rattle.jobs.specs.SheetLayout.{sheet_of}
use Rattle.jobs.specs.Structure.{structure}
use Rattle.jobs.specs.AreasAfter.{at_front, sheet_after, map_after, areas_by, areas_after}
use Rattle.jobs.proofs.FirstOf.{first_same}
use Rattle.jobs.specs.Lawful.{LawfulJob}
use Rattle.jobs.proofs.Components.{in-leads, lead_in}
use Rattle.jobs.proofs.Assembly.{none_without}
use Rattle.jobs.proofs.SheetFields.{Agree, same_layout}
use Rattle.jobs.proofs.AreasAfter.{by}
use Rattle.jobs.proofs.DemandsHold.{verdict_is, planned_when, lawful_of}
use Rattle.families.specs.Family.{choice}
use Rattle.families.specs.Model.{label_at, run_at, state_after_all}
use Rattle.families.specs.ModelFindings.{leads_by, component_by, empty_by, slope_by, chosen_by, number_by, objective_by, findings_by, model_findings, model_empty, verdict_by, model_areas}
use Rattle.families.proofs.FamilySizes.{step-Within}
use Rattle.families.proofs.ModelIsExact.{read_off, family_run_is, exact, family_form}
use Rattle.families.proofs.BestOfJob.{objective_own}
use Rattle.families.proofs.PlanIsBest.{choice-in, best_at}

-- ---- of a lawful job, where g and r give for each variable what the definitions do
module _ (j : Job) (lawful : LawfulJob j) (g : ℕ → ℕ) (r : ℕ → Run) (told : (i : ℕ) → i < length j.variables → (g i ≡ lowest j i) × (r i ≡ family_run j i)) where
  abbrev n : ℕ
  n = length j.variables

  -- ---- the components
  pub leads_by_lem : leads_by g (length j.variables) ≡ leads j
  unfolding leads_by leads
  leads_by_lem = keep_same (λ i. eqb (g i) i) (λ i. eqb (lowest j i) i) (up_to n) (λ i m. ap (λ l. eqb l i) (told i ((in-up_to n i).0 m)).0)

  pub component_by_lem : (i : ℕ) → i < length j.variables → component_by g (length j.variables) i ≡ component j i
  unfolding component_by component
  component_by_lem i h = ap₂ (λ l ls. length (keep (λ k. ltb k l) ls)) (told i h).0 leads_by_lem

  -- ---- the families
  run_by : (i : ℕ) → i < n → r i ≡ read_off (component_job j (lowest j i)) i
  run_by i h = (told i h).1 ∙ family_run_is j i

  many_by : (l : ℕ) → l ∈ leads j → (r l).many ≡ fits (component_job j l)
  many_by l m = let (b, e) = (in-leads j l).0 m in ap (λ r. r.many) (run_by l b) ∙ ap (λ k. fits (component_job j k)) e

  pub empty_by_lem : empty_by (length j.variables) g r ≡ first_without j
  unfolding empty_by first_without
  empty_by_lem =
      ap (first_where (λ l. equal? (r l).many 0)) leads_by_lem
      ∙ first_same (λ l. equal? (r l).many 0) (λ l. equal? (fits (component_job j l)) 0) (leads j) (λ l m. (λ e. sym (many_by l m) ∙ e, λ e. many_by l m ∙ e))

  -- ---- the slopes and the choices, where w gives each variable's weight
  module _ (w : ℕ → ℤ) (weights : (i : ℕ) → i < length j.variables → w i ≡ (variable j i).weight) where
    weighed : (i l : ℕ) → i < n → pick (eqb (g i) l) (w i *ℤ (r i).step) ≡ pick (eqb (lowest j i) l) ((variable j i).weight *ℤ (r i).step)
    weighed i l h = ap₂ (λ k x. pick (eqb k l) (x *ℤ (r i).step)) (told i h).0 (weights i h)

    pub slope_by_lem : (l : ℕ) → slope_by (length j.variables) w g r l ≡ slope (component_job j l)
    unfolding slope_by slope
    slope_by_lem l = sum_ext n _ _ (λ i h. weighed i l h) ∙ sym (objective_own j l (step (component_job j l)) (λ i. (r i).step) inside)
      where
        inside : (i : ℕ) → i < n → lowest j i ≡ l → number (step (component_job j l)) i ≡ (r i).step
        inside i h e = ap (λ k. number (step (component_job j k)) i) (sym e) ∙ ap (λ r. r.step) (sym (run_by i h))

    -- ---- where no family is empty
    module _ (full : first_without j ≡ none) where
      fit : (l : ℕ) → l ∈ leads j → fits (component_job j l) ≢ 0
      fit = none_without j full

      chosen_by_lem : (l : ℕ) → l ∈ leads j → chosen_by n w g r l ≡ chosen (component_job j l)
      unfolding chosen_by
      chosen_by_lem l m = ap₂ choice (slope_by_lem l) (many_by l m) ∙ sym (choice-in j lawful fit l m)

      number_by_lem : (i : ℕ) → i < n → number_by n w g r i ≡ number (best j) i
      unfolding number_by
      number_by_lem i h =
          ap₂ (λ r k. r.first +ℤ r.step *ℤ pos k) (run_by i h) (ap (chosen_by n w g r) (told i h).0 ∙ chosen_by_lem (lowest j i) (lead_in j i h))
          ∙ sym (best_at j lawful fit i h)

      pub objective_by_lem : objective_by (length j.variables) w g r ≡ objective j (best j)
      unfolding objective_by objective
      objective_by_lem = sum_ext n _ _ (λ i h. ap₂ ◌*ℤ◌ (weights i h) (number_by_lem i h))

      -- so what is found is what the definitions find
      pub findings_by_lem : Agree (findings_by (length j.variables) w g r) (findings j)
      findings_by_lem = record {
        variables = refl;
        leading = leads_by_lem;
        numbers = component_by_lem;
        runs = λ i h. (told i h).1;
        values = number_by_lem;
        many = λ l m. ap (λ r. r.many) (told l (leads_below l m)).1;
        choices = λ l m. chosen_by_lem l (subst (λ ls. l ∈ ls) leads_by_lem m);
        slopes = λ l m. slope_by_lem l;
        total = objective_by_lem;
      }
        where
          leads_below : (l : ℕ) → l ∈ leads_by g n → l < n
          leads_below l m = ((in-leads j l).0 (subst (λ ls. l ∈ ls) leads_by_lem m)).0

-- the slope of a component fits its field
pub slope-Within : (j : Job) → LawfulJob j → (l : ℕ) → Within (length j.variables * (1000000 * (2 * bound))) (slope (component_job j l))
unfolding slope_by
slope-Within j lawful l =
    subst (Within (n * (1000000 * (2 * bound)))) (slope_by_lem j lawful (lowest j) (family_run j) (λ i h. (refl, refl)) (λ i. (variable j i).weight) (λ i h. refl) l)
    (sum-Within n (1000000 * (2 * bound)) (λ i. pick (eqb (lowest j i) l) (term i)) (λ i h. picked (eqb (lowest j i) l) (term i) (Within-mul (lawful.each_variable i h).weight (size i h))))
  where
    n : ℕ
    n = length j.variables

    term : ℕ → ℤ
    term i = (variable j i).weight *ℤ (family_run j i).step

    size : (i : ℕ) → i < n → Within (2 * bound) (family_run j i).step
    size i h = step-Within (subst FamilyRun (sym (family_run_is j i)) (family_form j lawful i h))

    picked : (t : Bool) {b : ℕ} (x : ℤ) → Within b x → Within b (pick t x)
    picked true x w = w
    picked false x w = record { size = omega arith }

-- ---- of any bytes: the model's own state is as told where no check turns the job away, and elsewhere it does not count
same_outcome : (o : Option Reason) {e k : Option ℕ} {w z : ℤ} → (o ≡ none → (e ≡ k) × (k ≡ none → w ≡ z)) → outcome o e w ≡ outcome o k z
same_outcome (some r) f = refl
same_outcome none {e} {k} {w} {z} f = ap (λ e. outcome none e w) (f refl).0 ∙ go k (f refl).1
  where
    go : (k : Option ℕ) → (k ≡ none → w ≡ z) → outcome none k w ≡ outcome none k z
    go none q = ap planned (q refl)
    go (some l) q = refl

module _ (c : Call) where
  abbrev j : Job
  j = job_in c

  pub verdict_by_lem : verdict_by c ≡ verdict c
  unfolding verdict_by
  verdict_by_lem = same_outcome (first_broken c) cases ∙ sym (verdict_is c)
    where
      cases : first_broken c ≡ none → (model_empty j ≡ first_without j) × (first_without j ≡ none → (model_findings j).objective ≡ objective j (best j))
      cases e = let f = lawful_of c e in (empty_by_lem j f (label_at (state_after_all j)) (run_at (state_after_all j)) (exact j f), objective_by_lem j f (label_at (state_after_all j)) (run_at (state_after_all j)) (exact j f) _ (λ i h. refl))

  pub areas_by_lem : model_areas c ≡ areas_after c
  unfolding model_areas sheet_after
  areas_by_lem = ap (λ v. areas_by (model_findings j) (structure j) v c.lent) verdict_by_lem ∙ go (verdict c) refl ∙ sym (by c refl)
    where
      laid : (w : ℤ) → verdict c ≡ planned w → sheet_of (model_findings j) ≡ sheet_of (findings j)
      laid w e =
          let (o, h) = planned_when c w e in
          let f = lawful_of c o in
          same_layout (findings_by_lem j f (label_at (state_after_all j)) (run_at (state_after_all j)) (exact j f) _ (λ i h. refl) h.0)

      go : (v : Verdict) → verdict c ≡ v → areas_by (model_findings j) (structure j) v c.lent ≡ areas_by (findings j) (structure j) v c.lent
      go (planned w) e = ap (λ t. record { sheet = on_lent (at_front t) c.lent.sheet; map = on_lent (map_after (structure j) (planned w)) c.lent.map }) (laid w e)
      go (no_fit l) e = refl
      go (refused reason row) e = refl
