-- What the families of a job say of the program's arrays: the labels, the runs, the first component without a solution, and what is
-- found of them.
use mathlib.Core.Path.{◌≡◌, refl, sym, ◌∙◌, ap, subst}
use native.Mathlib.Decide.{ℕ_discrete}
use mathlib.Core.Option.{Option, none, some}
use mathlib.Core.List.{List, ◌++◌}
use Prim.Native.Nat.{ℕ, ◌<◌}
use lib.ListN.{length, drop}
use Rattle.ints.proofs.{ℤ, arith}
use Rattle.lists.specs.Members.{◌∈◌}
use Rattle.jobs.specs.Job.{Job}
use Rattle.jobs.specs.Lawful.{LawfulJob}
use Rattle.jobs.specs.Solution.{number, objective, best}
use Rattle.jobs.specs.Component.{lowest, leads, component_count}
use Rattle.jobs.specs.Family.{component_job, fits, family_run}
use Rattle.jobs.specs.Findings.{Findings, findings}
use Rattle.jobs.specs.Verdict.{first_without}
use Rattle.jobs.specs.SheetLayout.{sheet_of}
use Rattle.jobs.proofs.Components.{in-leads, lowest-le, lowest_self}
use Rattle.jobs.proofs.Assembly.{without_iff}
use Rattle.jobs.proofs.SheetFields.{Agree, same_layout}
use Rattle.families.specs.FamilyRun.{FamilyRun}
use Rattle.families.specs.ModelFindings.{leads_by, findings_by}
use Rattle.families.proofs.ModelIsExact.{family_run_is, family_form}
use Rattle.families.proofs.ModelFindings.{leads_by_lem, findings_by_lem}
use Rattle.solver.specs.declared.State.{State}
use Rattle.solver.specs.StateArrays.{label_in, run_in}
use Rattle.solver.specs.Families.{Families}
use Rattle.solver.specs.VariableArrays.{WeightsOf}
use Rattle.solver.specs.Labels.{Lowest}
use Rattle.little_endian.specs.Over.{over}
use Rattle.planner.specs.Choice.{Members, NoneEmpty}
use Rattle.little_endian.proofs.Over.{over_all}

module _ (j : Job) (lawful : LawfulJob j) (x : State) (f : Families j x) where
  abbrev n : ℕ
  n = length j.variables

  pub told : (i : ℕ) → i < length j.variables → (label_in x.labels i ≡ lowest j i) × (run_in x.runs i ≡ family_run j i)
  told i h = (f.label i h, f.run i h)

  -- how many there are of a variable: the fits of its component
  many : (i : ℕ) → i < n → (run_in x.runs i).many ≡ fits (component_job j (lowest j i))
  many i h = ap (λ t. t.many) (f.run i h ∙ family_run_is j i)

  -- as many as of the lowest variable of its component
  lowest_many : (i : ℕ) → i < n → (run_in x.runs i).many ≡ (run_in x.runs (label_in x.labels i)).many
  lowest_many i h =
      many i h
      ∙ ap (λ l. fits (component_job j l)) (sym (lowest_self j i))
      ∙ sym (ap (λ l. (run_in x.runs l).many) (f.label i h) ∙ many (lowest j i) (omega (arith, h, lowest-le j i)))

  pub labels : Lowest x.labels (length j.variables)
  labels = record {
    low = λ i h. omega (arith, f.label i h, lowest-le j i);
    self = λ i h.
        ap (label_in x.labels) (f.label i h)
        ∙ f.label (lowest j i) (omega (arith, h, lowest-le j i))
        ∙ lowest_self j i
        ∙ sym (f.label i h);
  }

  pub members : Members x.labels x.runs (length j.variables)
  members = record {
    form = record { at = λ i h. subst FamilyRun (sym (f.run i h ∙ family_run_is j i)) (family_form j lawful i h) };
    many = lowest_many;
  }

  pub counted : component_count j ≡ length (leads_by (label_in x.labels) (length j.variables))
  counted = sym (ap length (leads_by_lem j lawful (label_in x.labels) (run_in x.runs) told))

  -- ---- the first component without a solution
  lead_many : (l : ℕ) → l ∈ leads j → fits (component_job j l) ≡ (run_in x.runs l).many
  lead_many l m = let (h, q) = (in-leads j l).0 m in ap (λ i. fits (component_job j i)) (sym q) ∙ sym (many l h)

  pub found : (l : ℕ) → l < length j.variables → (run_in x.runs l).many ≡ 0 → NoneEmpty x.runs l → first_without j ≡ some l
  found l h k b = (without_iff j l).1 (lead, (lead_many l lead ∙ k, λ i m c. λ q. omega (arith, b.at i c, sym (lead_many i m) ∙ q)))
    where
      -- the lowest of its component, since that has no more
      own : lowest j l ≡ l
      own = go (ℕ_discrete (lowest j l) l)
        where
          go : Dec (lowest j l ≡ l) → lowest j l ≡ l
          go (yes q) = q
          go (no d) =
              let q : (run_in x.runs (lowest j l)).many ≡ 0 = ap (λ i. (run_in x.runs i).many) (sym (f.label l h)) ∙ sym (lowest_many l h) ∙ k in
              absurd (omega (arith, b.at (lowest j l) (omega (arith, d, lowest-le j l)), q))

      lead : l ∈ leads j
      lead = (in-leads j l).1 (h, own)

  pub full : NoneEmpty x.runs (length j.variables) → first_without j ≡ none
  full some_fit = go (first_without j) refl
    where
      go : (o : Option ℕ) → first_without j ≡ o → o ≡ none
      go none q = refl
      go (some l) q = let (m, h) = (without_iff j l).0 q in absurd (omega (arith, some_fit.at l ((in-leads j l).0 m).0, sym (lead_many l m) ∙ h.0))

  -- ---- what is found of them is what the definitions find
  module _ {k : ℕ} (e : k ≡ length j.variables) (weights : List ℤ) (ws : WeightsOf j k weights) (some_fit : NoneEmpty x.runs k) where
    abbrev found_in : ℕ → Findings
    found_in k = findings_by k (number weights) (label_in x.labels) (run_in x.runs)

    same : Agree (found_in n) (findings j)
    same = findings_by_lem j lawful (label_in x.labels) (run_in x.runs) told (number weights) (subst (λ k. WeightsOf j k weights) e ws).at (full (subst (NoneEmpty x.runs) e some_fit))

    pub objective-best : (findings_by k (number weights) (label_in x.labels) (run_in x.runs)).objective ≡ objective j (best j)
    objective-best = ap (λ k. (found_in k).objective) e ∙ same.total

    pub area_best : (a : List ℕ) → over 0 (sheet_of (findings_by k (number weights) (label_in x.labels) (run_in x.runs))) a ≡ sheet_of (findings j) ++ drop (length (sheet_of (findings j))) a
    area_best a = ap (λ k. over 0 (sheet_of (found_in k)) a) e ∙ ap (λ b. over 0 b a) (same_layout same) ∙ over_all (sheet_of (findings j)) a
