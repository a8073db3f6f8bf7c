-- The second demand: base, steps and fits as they stand on a planned sheet give every solution of a component exactly once, and each
-- variable's number stands at its component's chosen k.
use mathlib.Core.Path.{◌≡◌, refl, sym, ◌∙◌, ap, ap₂, subst}
use mathlib.Core.Logic.Iff
use mathlib.Core.Logic.{◌↔◌, ◌≢◌}
use mathlib.Core.Bool.{cond}
use mathlib.Core.Option.{none}
use mathlib.Core.List.{List, ◌++◌}
use Prim.Native.Nat.{ℕ, ◌*◌, ◌≤◌, ◌<◌}
use native.Mathlib.Decide.{ℕ_discrete}
use lib.Dec.{eqb}
use lib.ListN.{length, get_or}
use borrow.Author.Tests.{eq-eqb, ne_eqb}
use Rattle.ints.proofs.{ℤ, pos, ◌+ℤ◌, ◌*ℤ◌, ◌<ℤ◌, arith}
use Rattle.lists.specs.Members.{◌∈◌}
use Rattle.lists.proofs.Table.{table_at, same_table}
use Rattle.runs.specs.Run.{bound}
use Rattle.families.specs.FamilyRun.{FamilyRun}
use Rattle.little_endian.specs.LittleEndian.{u16}
use Rattle.jobs.specs.Call.{Call}
use Rattle.jobs.specs.Job.{Job}
use Rattle.jobs.specs.Amendments.{job_in}
use Rattle.jobs.specs.Solution.{number, IsSolution, objective, best}
use Rattle.jobs.specs.Component.{lowest, leads, component}
use Rattle.jobs.specs.Family.{component_job, fits, base, step, chosen, slope, family_run}
use Rattle.jobs.specs.Verdict.{planned, first_without, verdict}
use Rattle.jobs.specs.Findings.{findings}
use Rattle.jobs.specs.SheetLayout.{sheet_of}
use Rattle.jobs.specs.AreasAfter.{areas_after}
use Rattle.jobs.specs.Demands.{number_on, base_on, step_on, group_on, fits_on, chosen_on, gain_on, part_on, member_on, SolvesGroup, FamilyOn, FamiliesOn, GivesFits}
use Rattle.jobs.specs.Lawful.{LawfulJob}
use Rattle.jobs.proofs.Components.{in-leads, lead_in, lowest_self, Joined-iff, component_iff, component_below, component_lead}
use Rattle.jobs.proofs.Numbering.{IsLead-iff, group_is}
use Rattle.jobs.proofs.Assembly.{none_without, component_length, outside_zero, solves_iff}
use Rattle.little_endian.proofs.TwosComplement.{Within-fits}
use Rattle.jobs.proofs.SheetFields.{number_back, base_back, step_back, fits_back, chosen_back, gain_back, sheet_of_back}
use Rattle.jobs.proofs.DemandsHold.{Optimal-best, number_Within, planned_when, lawful_of, gives_fits}
use Rattle.families.specs.Family.{member, IsFamily}
use Rattle.families.proofs.FamilySizes.{first-Within, step-Within, many_within}
use Rattle.families.proofs.ModelIsExact.{read_off, family_run_is, family_form, are_families}
use Rattle.families.proofs.BestOfComponent.{choice_below, member-IsSolution, IsSolution-member, members_once}
use Rattle.families.proofs.BestOfJob.{objective_own, objective_inside}
use Rattle.families.proofs.PlanIsBest.{choice-in, best_at}
use Rattle.families.proofs.ModelFindings.{slope-Within}

slope_is : (c : Job) → slope c ≡ objective c (step c)
unfolding slope
slope_is c = refl

-- ---- the sheet of a lawful job in which no component is without a solution, with anything behind it
module _ (j : Job) (lawful : LawfulJob j) (full : first_without j ≡ none) (rest : List ℕ) where
  abbrev after : List ℕ
  after = sheet_of (findings j) ++ rest

  abbrev n : ℕ
  n = length j.variables

  abbrev own : ℕ → Job
  own i = component_job j (lowest j i)

  fit : (l : ℕ) → l ∈ leads j → fits (component_job j l) ≢ 0
  fit = none_without j full

  chosen_below : (l : ℕ) → l ∈ leads j → chosen (component_job j l) < fits (component_job j l)
  chosen_below l m = let c = component_job j l in subst (λ k. k < fits c) (sym (choice-in j lawful fit l m)) (choice_below (slope c) (fits c) (omega (arith, fit l m)))

  -- ---- what stands in each field of the rows of variable i and of its component
  module _ (i : ℕ) (h : i < length j.variables) where
    run_is : family_run j i ≡ read_off (own i) i
    run_is = family_run_is j i

    form : FamilyRun (family_run j i)
    form = subst FamilyRun (sym run_is) (family_form j lawful i h)

    number_on_lem : number_on after i ≡ number (best j) i
    number_on_lem = number_back (findings j) rest i h (number_Within j lawful (best j) (Optimal-best j lawful full).solution i h)

    base_on_lem : base_on after i ≡ number (base (own i)) i
    base_on_lem = base_back (findings j) rest i h (first-Within form) ∙ ap (λ r. r.first) run_is

    step_on_lem : step_on after i ≡ number (step (own i)) i
    step_on_lem = step_back (findings j) rest i h (step-Within form) ∙ ap (λ r. r.step) run_is

    group_on_lem : group_on after i ≡ component j i
    group_on_lem = let f = (sheet_of_back j rest (omega (arith, lawful.variables))).groups in group_is j (u16 after 6) (group_on after) f i h

  -- ---- the component of l
  module _ (l : ℕ) (m : l ∈ leads j) where
    abbrev c : Job
    c = component_job j l

    abbrev g : ℕ
    g = component j l

    below : l < n
    below = ((in-leads j l).0 m).0

    self : lowest j l ≡ l
    self = ((in-leads j l).0 m).1

    family : IsFamily j l
    family = are_families j lawful l m

    -- the fields of its row
    many_is : (family_run j l).many ≡ fits c
    many_is = ap (λ r. r.many) (family_run_is j l) ∙ ap (λ k. fits (component_job j k)) self

    fits_small : (family_run j l).many ≤ 2000000001
    fits_small = many_within (form l below)

    lead : get_or (leads j) g 0 ≡ l
    lead = component_lead j l below ∙ self

    own_fits : fits_on j after g ≡ fits c
    own_fits = fits_back (findings j) rest g l (component_below j l below) lead (omega (arith, fits_small)) ∙ many_is

    own_chosen : chosen_on j after g ≡ chosen c
    own_chosen = chosen_back (findings j) rest g l (component_below j l below) lead (omega (arith, fits_small, many_is, chosen_below l m))

    own_gain : gain_on j after g ≡ slope c
    own_gain = gain_back (findings j) rest g l (component_below j l below) lead (Within-fits 8 (n * (1000000 * (2 * bound))) (slope c) (omega (arith, lawful.variables)) (slope-Within j lawful l))

    -- its variables
    inside : (i : ℕ) → i < n → (group_on after i ≡ g) ↔ (lowest j i ≡ l)
    inside i h = (
      λ q. (Joined-iff j i l).0 ((component_iff j i l h below).0 (sym (group_on_lem i h) ∙ q)) ∙ self,
      λ e. group_on_lem i h ∙ (component_iff j i l h below).1 ((Joined-iff j i l).1 (e ∙ sym self)),
    )

    own_base : (i : ℕ) → i < n → lowest j i ≡ l → base_on after i ≡ number (base c) i
    own_base i h e = base_on_lem i h ∙ ap (λ k. number (base (component_job j k)) i) e

    own_step : (i : ℕ) → i < n → lowest j i ≡ l → step_on after i ≡ number (step c) i
    own_step i h e = step_on_lem i h ∙ ap (λ k. number (step (component_job j k)) i) e

    -- what the sheet has in the component, and 0 elsewhere
    module _ (f : ℕ → ℤ) where
      part_at : (i : ℕ) → i < n → number (part_on j after g f) i ≡ cond (eqb (group_on after i) g) (f i) (pos 0)
      part_at i h = table_at (λ i. cond (eqb (group_on after i) g) (f i) (pos 0)) n i (pos 0) h

      part_in : (i : ℕ) → i < n → lowest j i ≡ l → number (part_on j after g f) i ≡ f i
      part_in i h e = part_at i h ∙ ap (λ t. cond t (f i) (pos 0)) (eq-eqb (group_on after i) g ((inside i h).1 e))

      part_out : (i : ℕ) → i < n → lowest j i ≢ l → number (part_on j after g f) i ≡ pos 0
      part_out i h d = part_at i h ∙ ap (λ t. cond t (f i) (pos 0)) (ne_eqb (group_on after i) g (λ q. d ((inside i h).0 q)))

    -- so its members are those of the sheet
    member_on_lem : (k : ℕ) → k < fits c → member_on j after g k ≡ member c k
    member_on_lem k h = same_table (pos 0) (λ i. cond (eqb (group_on after i) g) (shown i) (pos 0)) told (sym (component_length j l)) (λ i b. sym (part_at shown i b) ∙ at i b (ℕ_discrete (lowest j i) l))
      where
        shown : ℕ → ℤ
        shown i = base_on after i +ℤ step_on after i *ℤ pos k

        told : ℕ → ℤ
        told i = number (base c) i +ℤ number (step c) i *ℤ pos k

        at : (i : ℕ) → i < n → Dec (lowest j i ≡ l) → number (part_on j after g shown) i ≡ told i
        at i b (yes e) = part_in shown i b e ∙ ap₂ (λ u v. u +ℤ v *ℤ pos k) (own_base i b e) (own_step i b e)
        at i b (no d) =
            part_out shown i b d
            ∙ sym (outside_zero j l (member c k) (member-IsSolution c family.all k h) i b d)
            ∙ table_at told (length c.variables) i (pos 0) (omega (arith, b, component_length j l))

    family_on : FamilyOn j l (component j l) after
    family_on = record { all = all; once = once; rises = rises; rests = rests; chosen = place; gain = gain }
      where
        small : (k : ℕ) → k < fits_on j after g → k < fits c
        small k h = omega (arith, h, own_fits)

        all : (x : List ℤ) → SolvesGroup j l x ↔ ((k : ℕ) × ((k < fits_on j after g) × (x ≡ member_on j after g k)))
        all x = Iff.trans (solves_iff j l self x) (
          λ s. let (k, h, q) = IsSolution-member c family.all x s in (k, (omega (arith, h, own_fits), q ∙ sym (member_on_lem k h))),
          λ (k, h). let b = small k h.0 in subst (IsSolution c) (sym (h.1 ∙ member_on_lem k b)) (member-IsSolution c family.all k b),
        )

        once : (k k' : ℕ) → k < fits_on j after g → k' < fits_on j after g → member_on j after g k ≡ member_on j after g k' → k ≡ k'
        once k k' h h' q =
            members_once c family.all k k' (small k h) (small k' h') (sym (member_on_lem k (small k h)) ∙ q ∙ member_on_lem k' (small k' h'))

        rises : 2 ≤ fits_on j after g → pos 0 <ℤ step_on after l
        rises h = subst (λ x. pos 0 <ℤ x) (sym (own_step l below self)) (family.rises (omega (arith, h, own_fits)))

        rests : fits_on j after g ≡ 1 → (i : ℕ) → i < n → group_on after i ≡ g → step_on after i ≡ pos 0
        rests e i b q = own_step i b ((inside i b).0 q) ∙ family.rests (omega (arith, e, own_fits)) i

        place : chosen_on j after g < fits_on j after g
        place = omega (arith, own_chosen, own_fits, chosen_below l m)

        gain : gain_on j after g ≡ objective j (part_on j after g (step_on after))
        gain =
            own_gain ∙ slope_is c
            ∙ objective_own j l (step c) (step_on after) (λ i h e. sym (own_step i h e))
            ∙ sym (objective_own j l (part_on j after g (step_on after)) (step_on after) (part_in (step_on after)))
            ∙ sym (objective_inside j l (part_on j after g (step_on after)) (part_out (step_on after)))

  families_laid : FamiliesOn j after
  families_laid = record {
    number = number_is;
    families = λ l h. subst (λ g. FamilyOn j l g after) (sym (group_on_lem l h.is_variable)) (family_on l ((IsLead-iff j l).0 h));
  }
    where
      chosen_on_lem : (i : ℕ) → i < n → chosen_on j after (group_on after i) ≡ chosen (own i)
      chosen_on_lem i h =
          let m = lead_in j i h in
          let b = ((in-leads j (lowest j i)).0 m).0 in
          ap (chosen_on j after) (group_on_lem i h ∙ (component_iff j i (lowest j i) h b).1 ((Joined-iff j i (lowest j i)).1 (sym (lowest_self j i))))
          ∙ own_chosen (lowest j i) m

      number_is : (i : ℕ) → i < n → number_on after i ≡ base_on after i +ℤ step_on after i *ℤ pos (chosen_on j after (group_on after i))
      number_is i h =
          number_on_lem i h ∙ best_at j lawful fit i h
          ∙ sym (ap₂ (λ u v. u +ℤ v *ℤ pos (chosen_on j after (group_on after i))) (base_on_lem i h) (step_on_lem i h)
          ∙ ap (λ k. number (base (own i)) i +ℤ number (step (own i)) i *ℤ pos k) (chosen_on_lem i h))

-- ---- so of any call
module _ (c : Call) where
  families_on : (w : ℤ) → verdict c ≡ planned w → (rest : List ℕ) → FamiliesOn (job_in c) (sheet_of (findings (job_in c)) ++ rest)
  families_on w e = let (o, h) = planned_when c w e in families_laid (job_in c) (lawful_of c o) h.0

  pub definitions_give_fits : GivesFits c (verdict c) (areas_after c)
  definitions_give_fits = gives_fits c families_on
