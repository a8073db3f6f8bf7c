-- Document 01's ten jobs marked *, by one theorem over a table of them: the verdict and every area afterwards, for any areas
-- that are lent. The definitions search, and one of these jobs has two thousand million fit-outs; so what is computed, once for
-- the whole table, is the model, which gives the same.
use mathlib.Core.Path.{◌≡◌, refl, sym, ◌∙◌, ap, ap₂, subst}
use mathlib.Core.Option.{Option, none, some}
use mathlib.Core.List.{List, [], map}
use Prim.Native.Nat.{ℕ}
use lib.IntN.{ℤ}
use Rattle.reasons.specs.declared.Reason.TheVariants.{ShortArea, ShortMap}
use Rattle.lists.specs.Members.{◌∈◌}
use Rattle.lists.proofs.Maps.{same_values}
use Rattle.jobs.specs.Call.{Areas, Call, call_of, on_lent}
use Rattle.jobs.specs.Job.{Job, job_of}
use Rattle.jobs.specs.Amendments.{amended}
use Rattle.jobs.specs.SheetOffsets.{sheet_length}
use Rattle.jobs.specs.MapOffsets.{map_length}
use Rattle.jobs.specs.Faults.{Answer, accepted, checked}
use Rattle.jobs.specs.Findings.{Findings}
use Rattle.jobs.specs.ReasonTable.{Shorter}
use Rattle.jobs.specs.Verdict.{Verdict, planned, no_fit, refused, outcome, verdict}
use Rattle.jobs.specs.SheetLayout.{sheet_of}
use Rattle.jobs.specs.Structure.{Structure, structure}
use Rattle.jobs.specs.MapLayout.{map_of}
use Rattle.jobs.specs.AreasAfter.{at_front, sheet_after, map_after, areas_by, areas_after}
use Rattle.jobs.proofs.Faults.{accepted_none, fault_short, fault_map, fault_none}
use Rattle.jobs.proofs.Outcomes.{as_broken}
use Rattle.jobs.proofs.AmendedJob.{amended_by_none}
use Rattle.families.specs.ModelFindings.{model_findings, model_empty, verdict_by, model_areas}
use Rattle.families.specs.Vectors.{Worked, marked_jobs}
use Rattle.families.proofs.ModelFindings.{verdict_by_lem, areas_by_lem}

-- ---- of any bytes that the job check accepts
-- the sheet, by the verdict
abbrev sheet_for : Verdict → List ℕ → List ℕ
sheet_for (planned worth) laid = laid
sheet_for (no_fit l) laid = []
sheet_for (refused reason row) laid = []

sheet_is : (v : Verdict) (f : Findings) (o : Option (List ℕ)) → on_lent (sheet_after f v) o ≡ on_lent (at_front (sheet_for v (sheet_of f))) o
unfolding sheet_after
sheet_is (planned worth) f (some area) = refl
sheet_is (no_fit l) f (some area) = refl
sheet_is (refused reason row) f (some area) = refl
sheet_is v f none = refl

map_is : (t : Structure) (l : Option ℕ) (worth : ℤ) (o : Option (List ℕ)) → on_lent (map_after t (outcome none l worth)) o ≡ on_lent (at_front (map_of t)) o
unfolding map_after
map_is t none worth o = refl
map_is t (some l) worth o = refl

-- every area that a call lends is long enough for the job
pub record LongEnough (s : List ℕ) (lent : Areas) : Type 0 where
  pub sheet : ¬ Shorter lent.sheet (sheet_length (job_of s))
  pub map : ¬ Shorter lent.map (map_length (job_of s))

-- what holds of the job as it is written holds of it without amendments
written : (s : List ℕ) (P : Job → Type 0) → P (job_of s) → P (amended s [])
written s P h = subst P (sym (amended_by_none s)) h

module _ (s : List ℕ) where
  abbrev j : Job
  j = amended s []

  -- what the model gives where every area is long enough, whatever stands in it
  abbrev model_verdict : Verdict
  model_verdict = outcome none (model_empty j) (model_findings j).objective

  abbrev model_sheet : List ℕ
  model_sheet = sheet_for model_verdict (sheet_of (model_findings j))

  module _ (ok : checked s [] ≡ accepted) (lent : Areas) (h : LongEnough s lent) where
    abbrev c : Call
    c = call_of s [] lent

    by_model : verdict_by c ≡ model_verdict
    unfolding verdict_by
    by_model = ap (λ o. outcome o (model_empty j) (model_findings j).objective) (fault_none c (accepted_none s [] ok) (written s (λ j. ¬ Shorter lent.sheet (sheet_length j)) h.sheet) (written s (λ j. ¬ Shorter lent.map (map_length j)) h.map))

    long_enough : (verdict c ≡ model_verdict) × (areas_after c ≡ record { sheet = on_lent (at_front model_sheet) lent.sheet; map = on_lent (at_front (map_of (structure j))) lent.map })
    unfolding model_areas
    long_enough = (
      sym (verdict_by_lem c) ∙ by_model,
      sym (areas_by_lem c) ∙ ap (λ v. areas_by (model_findings j) (structure j) v lent) by_model
          ∙ ap₂ (λ o r. record { sheet = o; map = r }) (sheet_is model_verdict (model_findings j) lent.sheet) (map_is (structure j) (model_empty j) (model_findings j).objective lent.map),
    )

-- ---- of the ten
abbrev given : Worked → (Answer × ℕ) × (Verdict × (List ℕ × List ℕ))
given v = let s = v.job in ((checked s [], sheet_length (amended s [])), (model_verdict s, (model_sheet s, map_of (structure (amended s [])))))

abbrev expected : Worked → (Answer × ℕ) × (Verdict × (List ℕ × List ℕ))
expected v = ((accepted, v.room), (v.verdict, (v.sheet, v.map)))

marked_computed : map given marked_jobs ≡ map expected marked_jobs
unfolding checked model_areas
marked_computed = refl

same : (v : Worked) → v ∈ marked_jobs → given v ≡ expected v
same v m = same_values given expected marked_computed m

accepts : (v : Worked) → v ∈ marked_jobs → checked v.job [] ≡ accepted
accepts v m = ap (λ p. p.0.0) (same v m)

-- the bytes that its sheet takes: 120 for M
pub marked_room : (v : Worked) → v ∈ marked_jobs → sheet_length (job_of v.job) ≡ v.room
marked_room v m = ap sheet_length (sym (amended_by_none v.job)) ∙ ap (λ p. p.0.1) (same v m)

-- **the ten jobs**, whatever is lent that is long enough
pub marked_jobs_lem : (v : Worked) → v ∈ marked_jobs → (lent : Areas) → LongEnough v.job lent →
    (verdict (call_of v.job [] lent) ≡ v.verdict) ×
    (areas_after (call_of v.job [] lent) ≡ record { sheet = on_lent (at_front v.sheet) lent.sheet; map = on_lent (at_front v.map) lent.map })
marked_jobs_lem v m lent h =
    let (e, f) = long_enough v.job (accepts v m) lent h in
    (e ∙ ap (λ p. p.1.0) (same v m), f ∙ ap (λ p. record { sheet = on_lent (at_front p.1.1.0) lent.sheet; map = on_lent (at_front p.1.1.1) lent.map }) (same v m))

-- and with an answer area that is shorter, also where there is no fit; or with a map area that is
pub marked_short : (v : Worked) → v ∈ marked_jobs → (lent : Areas) → Shorter lent.sheet (sheet_length (job_of v.job)) →
    (verdict (call_of v.job [] lent) ≡ refused 8 0) × (areas_after (call_of v.job [] lent) ≡ lent)
marked_short v m lent h = let c = call_of v.job [] lent in as_broken c ShortArea (fault_short c (accepted_none v.job [] (accepts v m)) (written v.job (λ j. Shorter lent.sheet (sheet_length j)) h))

pub marked_map_short : (v : Worked) → v ∈ marked_jobs → (lent : Areas) → ¬ Shorter lent.sheet (sheet_length (job_of v.job)) → Shorter lent.map (map_length (job_of v.job)) →
    (verdict (call_of v.job [] lent) ≡ refused 10 0) × (areas_after (call_of v.job [] lent) ≡ lent)
marked_map_short v m lent n h = let c = call_of v.job [] lent in as_broken c ShortMap (fault_map c (accepted_none v.job [] (accepts v m)) (written v.job (λ j. ¬ Shorter lent.sheet (sheet_length j)) n) (written v.job (λ j. Shorter lent.map (map_length j)) h))
