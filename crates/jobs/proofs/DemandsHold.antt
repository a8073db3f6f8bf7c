-- What the definitions `verdict` and `areas_after` keep of the demands: all of them, but of the second not the families of a planned
-- sheet, `FamiliesOn`.
use mathlib.Core.Path.{◌≡◌, refl, sym, ◌∙◌, ap, ap₂, subst}
use mathlib.Core.Logic.{◌↔◌, ◌⊎◌, inl, inr, ⊎_elim}
use mathlib.Core.Option.{Option, none, some}
use mathlib.Core.List.{List, [], ◌++◌}
use Prim.Native.Nat.{ℕ, ◌+◌, ◌*◌, ◌<◌}
use lib.ListN.{length, drop}
use Rattle.reasons.specs.declared.Reason.{Reason}
use Rattle.reasons.specs.declared.Reason.TheVariants.{ShortArea, ShortMap}
use Rattle.reasons.specs.Numbers.{number_of, row_of}
use Rattle.ints.specs.Within.{Within}
use Rattle.ints.proofs.{ℤ, pos, ◌*ℤ◌, ◌∷◌, arith, lin, ◌&◌, facts, Within-mul}
use Rattle.lists.specs.Members.{◌∈◌}
use Rattle.lists.proofs.Places.{same_places}
use Rattle.lists.proofs.Table.{length-table, table_at}
use Rattle.lists.proofs.Sums.{sum-Within}
use Rattle.runs.specs.Run.{bound}
use Rattle.jobs.specs.Call.{Call}
use Rattle.jobs.specs.Job.{Job, variable}
use Rattle.jobs.specs.Amendments.{job_in}
use Rattle.jobs.specs.Solution.{number, IsSolution, objective, Optimal, best}
use Rattle.jobs.specs.SheetOffsets.{group_rows_at, sheet_length}
use Rattle.jobs.specs.Component.{lowest, leads}
use Rattle.jobs.specs.Family.{component_job}
use Rattle.jobs.specs.Findings.{findings}
use Rattle.jobs.specs.ReasonTable.{Shorter}
use Rattle.jobs.specs.Lawful.{LawfulJob}
use Rattle.jobs.specs.Faults.{first_broken}
use Rattle.jobs.specs.Verdict.{Verdict, planned, no_fit, refused, first_without, outcome, verdict}
use Rattle.jobs.specs.SheetLayout.{sheet_of}
use Rattle.jobs.specs.Structure.{structure}
use Rattle.jobs.specs.MapLayout.{map_of}
use Rattle.jobs.specs.AreasAfter.{at_front, areas_after}
use Rattle.jobs.specs.Demands.{IfLent, KeptFrom, worth_on, number_on, numbers_on, TurnsAway, NoneFits, BestOn, CannotBeBettered, FamiliesOn, NotTurnedAway, FitsOn, GivesFits, MapOn, ShowsMap}
use Rattle.jobs.proofs.Faults.{found_iff, sound_iff}
use Rattle.jobs.proofs.Lawful.{lawful_named}
use Rattle.jobs.proofs.AmendedJob.{lawful_amended}
use Rattle.little_endian.proofs.TwosComplement.{Within-fits}
use Rattle.jobs.proofs.SheetFields.{number_back, worth_back, sheet_of_back}
use Rattle.jobs.proofs.MapFields.{map_on}
use Rattle.jobs.proofs.AreasAfter.{if_lent, planned-ne-refused, no_refusal, Mapped, if_planned, if_no_fit, if_Mapped, if_refused, past_sheet, past_map}
use Rattle.jobs.proofs.Solutions.{best_is}
use Rattle.jobs.proofs.Components.{in-leads}
use Rattle.jobs.proofs.Numbering.{IsLead-iff, groups_are}
use Rattle.jobs.proofs.Assembly.{solves_iff, some_iff, fits_iff, fits_some, all_fit, without_iff}

-- ---- what is behind each verdict
module _ (z : ℤ) where
  was_planned : (o : Option Reason) (k : Option ℕ) (w : ℤ) → outcome o k z ≡ planned w → (o ≡ none) × ((k ≡ none) × (z ≡ w))
  was_planned none none w e = (refl, (refl, cc))
  was_planned none (some l) w e = (refl, (cc, cc))
  was_planned (some r) k w e = (cc, (cc, cc))

  was_no_fit : (o : Option Reason) (k : Option ℕ) (l : ℕ) → outcome o k z ≡ no_fit l → (o ≡ none) × (k ≡ some l)
  was_no_fit none none l e = (refl, cc)
  was_no_fit none (some i) l e = (refl, cc)
  was_no_fit (some r) k l e = (cc, cc)

  was_refused : (o : Option Reason) (k : Option ℕ) (p q : ℕ) → outcome o k z ≡ refused p q → (r : Reason) × ((o ≡ some r) × ((number_of r ≡ p) × (row_of r ≡ q)))
  was_refused none none p q e = let c : ◌≡◌ {A = ℕ} 0 1 = cc in absurd (omega arith)
  was_refused none (some l) p q e = let c : ◌≡◌ {A = ℕ} 0 1 = cc in absurd (omega arith)
  was_refused (some r) k p q e = (r, (refl, (cc, cc)))

-- ---- a job that no check turns away
module _ (j : Job) (f : LawfulJob j) where
  -- it has a solution exactly when each component has one
  groups_iff : ((x : List ℤ) × IsSolution j x) ↔ ((l : ℕ) → l ∈ leads j → (x : List ℤ) × IsSolution (component_job j l) x)
  groups_iff = some_iff j (lawful_named f)

  -- so where no component is without one, the best is one
  pub Optimal-best : first_without j ≡ none → Optimal j (best j)
  Optimal-best e = let (x, s) = groups_iff.1 (all_fit j e) in best_is j x s

  none_fits : (l : ℕ) → first_without j ≡ some l → NoneFits j l
  none_fits l e = let (m, h) = (without_iff j l).0 e in let (z, b) = h in record {
    none = λ x s. let (y, t) = groups_iff.0 (x, s) l m in (fits_iff (component_job j l)).0 z y t;
    group = (IsLead-iff j l).1 m;
    without = λ x s. (fits_iff (component_job j l)).0 z x ((solves_iff j l (self l m) x).0 s);
    first = λ i k h. let d = (IsLead-iff j i).0 k in let (x, s) = fits_some (component_job j i) (b i d h) in (x, (solves_iff j i (self i d) x).1 s);
  }
    where
      self : (i : ℕ) → i ∈ leads j → lowest j i ≡ i
      self i m = ((in-leads j i).0 m).1

  -- the numbers and the objective of a solution fit their fields
  module _ (x : List ℤ) (s : IsSolution j x) where
    pub number_Within : (i : ℕ) → i < length j.variables → Within bound (number x i)
    number_Within i h =
        let v = f.each_variable i h in
        lin ((variable j i).low ∷ (variable j i).high ∷ number x i ∷ []) (v.low & v.high & s.low i h & s.high i h) (search facts depth 20) (omega arith)

    pub objective-Within : Within (length j.variables * (1000000 * bound)) (objective j x)
    unfolding objective
    objective-Within =
        sum-Within (length j.variables) (1000000 * bound) (λ i. (variable j i).weight *ℤ number x i)
        (λ i h. Within-mul (f.each_variable i h).weight (number_Within i h))

  -- where no component is without a solution, the numbers and the objective of the best read back
  module _ (e : first_without j ≡ none) (rest : List ℕ) where
    abbrev laid : List ℕ
    laid = sheet_of (findings j) ++ rest

    s : IsSolution j (best j)
    s = (Optimal-best e).solution

    numbers_back : numbers_on j (sheet_of (findings j) ++ rest) ≡ best j
    numbers_back = same_places (pos 0) (numbers_on j laid) (best j) (long ∙ sym s.long) (λ i h. at i (omega (arith, long)))
      where
        long : length (numbers_on j laid) ≡ length j.variables
        long = length-table (number_on laid) (length j.variables)

        at : (i : ℕ) → i < length j.variables → number (numbers_on j laid) i ≡ number (best j) i
        at i h = table_at (number_on laid) (length j.variables) i (pos 0) h ∙ number_back (findings j) rest i h (number_Within (best j) s i h)

    objective_back : worth_on (sheet_of (findings j) ++ rest) ≡ objective j (best j)
    objective_back = worth_back (findings j) rest (Within-fits 8 (length j.variables * (1000000 * bound)) (objective j (best j)) (omega (arith, f.variables)) (objective-Within (best j) s))

module _ (c : Call) where
  abbrev job : Job
  job = job_in c

  pub verdict_is : verdict c ≡ outcome (first_broken c) (first_without (job_in c)) (objective (job_in c) (best (job_in c)))
  unfolding verdict
  verdict_is = refl

  pub planned_when : (w : ℤ) → verdict c ≡ planned w → (first_broken c ≡ none) × ((first_without (job_in c) ≡ none) × (objective (job_in c) (best (job_in c)) ≡ w))
  planned_when w e = was_planned (objective job (best job)) (first_broken c) (first_without job) w (sym verdict_is ∙ e)

  no_fit_when : (l : ℕ) → verdict c ≡ no_fit l → (first_broken c ≡ none) × (first_without job ≡ some l)
  no_fit_when l e = was_no_fit (objective job (best job)) (first_broken c) (first_without job) l (sym verdict_is ∙ e)

  refused_when : (p q : ℕ) → verdict c ≡ refused p q → (r : Reason) × ((first_broken c ≡ some r) × ((number_of r ≡ p) × (row_of r ≡ q)))
  refused_when p q e = was_refused (objective job (best job)) (first_broken c) (first_without job) p q (sym verdict_is ∙ e)

  -- ---- the first demand
  pub turns_away : TurnsAway c (verdict c) (areas_after c)
  turns_away = record {
    exactly = λ p q. (λ e. (found_iff c p q).1 (refused_when p q e), λ h. from p q ((found_iff c p q).0 h));
    untouched = λ p q e. if_refused c e;
    past_sheet = λ g group f. subst (λ g. KeptFrom (group_rows_at job + 16 * g) c.lent.sheet (areas_after c).sheet) (sym (groups_are job g group f)) (past_sheet c long);
    past_map = past_map c (λ m. (sound_iff c).0 (unbroken m) ShortMap);
  }
    where
      from : (p q : ℕ) → (r : Reason) × ((first_broken c ≡ some r) × ((number_of r ≡ p) × (row_of r ≡ q))) → verdict c ≡ refused p q
      from p q (r, h) = verdict_is ∙ ap (λ o. outcome o (first_without job) (objective job (best job))) h.0 ∙ ap₂ refused h.1.0 h.1.1

      -- where the verdict is no refusal no rule is broken
      unbroken : Mapped (verdict c) → first_broken c ≡ none
      unbroken m = go (first_broken c) refl
        where
          go : (o : Option Reason) → first_broken c ≡ o → o ≡ none
          go none e = refl
          go (some r) e = absurd (m (number_of r) (row_of r) (from (number_of r) (row_of r) (r, (e, (refl, refl)))))

      long : (w : ℤ) → verdict c ≡ planned w → ¬ Shorter c.lent.sheet (sheet_length job)
      long w e = (sound_iff c).0 (planned_when w e).0 ShortArea

  -- ---- the third demand
  pub lawful_of : first_broken c ≡ none → LawfulJob (job_in c)
  lawful_of e = lawful_amended c e

  -- what stands on a sheet that is planned
  pub on_sheet : (P : List ℕ → Type 0) (w : ℤ) → verdict c ≡ planned w → ((rest : List ℕ) → P (sheet_of (findings (job_in c)) ++ rest)) → IfLent (areas_after c).sheet P
  on_sheet P w e h = subst (λ o. IfLent o P) (sym (if_planned c e)) (if_lent P (at_front (sheet_of (findings job))) (λ area. h (drop (length (sheet_of (findings job))) area)) c.lent.sheet)

  pub cannot_be_bettered : CannotBeBettered c (verdict c) (areas_after c)
  cannot_be_bettered = record { best = λ w e. on_sheet (BestOn job w) w e (stands w e) }
    where
      stands : (w : ℤ) → verdict c ≡ planned w → (rest : List ℕ) → BestOn job w (sheet_of (findings job) ++ rest)
      stands w e rest =
          let (o, (full, z)) = planned_when w e in
          let f = lawful_of o in
          let numbers = numbers_back job f full rest in
          record {
            optimal = subst (Optimal job) (sym numbers) (Optimal-best job f full);
            worth = sym z ∙ ap (objective job) (sym numbers);
            shown = objective_back job f full rest ∙ z;
          }

  -- ---- the demand of the repair bench
  pub shows_map : ShowsMap c (verdict c) (areas_after c)
  shows_map = record {
    fit = λ w e. shown e (λ p q. planned-ne-refused) (planned_when w e).0;
    without_fit = λ l e. shown e (λ p q. no_refusal) (no_fit_when l e).0;
  }
    where
      shown : {v : Verdict} → verdict c ≡ v → Mapped v → first_broken c ≡ none → IfLent (areas_after c).map (MapOn job)
      shown e m o = subst (λ o. IfLent o (MapOn job)) (sym (if_Mapped c e m)) (if_lent (MapOn job) (at_front (map_of (structure job))) (λ area. map_on job (lawful_of o) (drop (length (map_of (structure job))) area)) c.lent.map)

  -- ---- of the second: "no fit" only when there is none
  pub no_fit_only : (l : ℕ) → verdict c ≡ no_fit l → NoneFits (job_in c) l × ((areas_after c).sheet ≡ c.lent.sheet)
  no_fit_only l e = let (o, h) = no_fit_when l e in (none_fits job (lawful_of o) l h, if_no_fit c e)

  -- a call that is not turned away is planned or has no fit
  pub one_of_two : NotTurnedAway c → ((w : ℤ) × (verdict c ≡ planned w)) ⊎ ((l : ℕ) × (verdict c ≡ no_fit l))
  one_of_two p = go (verdict c) refl
    where
      go : (v : Verdict) → verdict c ≡ v → ((w : ℤ) × (verdict c ≡ planned w)) ⊎ ((l : ℕ) × (verdict c ≡ no_fit l))
      go (planned w) e = inl (w, e)
      go (no_fit l) e = inr (l, e)
      go (refused reason row) e = absurd (p reason row ((turns_away.exactly reason row).0 e))

  -- so of the second only the families are left
  module _ (families : (w : ℤ) → verdict c ≡ planned w → (rest : List ℕ) → FamiliesOn (job_in c) (sheet_of (findings (job_in c)) ++ rest)) where
    fits_on_lem : (w : ℤ) → verdict c ≡ planned w → (rest : List ℕ) → FitsOn job (sheet_of (findings job) ++ rest)
    fits_on_lem w e rest =
        let (o, (full, z)) = planned_when w e in
        let f = lawful_of o in
        record {
          solution = subst (IsSolution job) (sym (numbers_back job f full rest)) (Optimal-best job f full).solution;
          laid_out = sheet_of_back job rest (omega (arith, f.variables));
          families = families w e rest;
        }

    pub gives_fits : GivesFits c (verdict c) (areas_after c)
    gives_fits = record {
      one_of = one_of_two;
      exists = λ p x h. ⊎_elim (λ d. d) (λ (l, e). absurd ((no_fit_only l e).0.none x h)) (one_of_two p);
      given = λ w e. on_sheet (FitsOn job) w e (fits_on_lem w e);
      without_fit = no_fit_only;
    }
