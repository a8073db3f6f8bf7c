-- Every area after the call, case by case: what is written, and that the rest stays.
use mathlib.Core.Path.{◌≡◌, refl, sym, ◌∙◌, ap, ap₂, subst}
use mathlib.Core.Option.{Option, none, some}
use mathlib.Core.List.{List}
use Prim.Native.Nat.{ℕ, ◌≤◌}
use native.Mathlib.Omega.{arith}
use lib.ListN.{length, length-append, length-drop}
use lib.IntN.{ℤ}
use Rattle.lists.proofs.Places.{drop_past}
use Rattle.jobs.specs.Call.{Call, on_lent}
use Rattle.jobs.specs.Job.{Job}
use Rattle.jobs.specs.Amendments.{job_in}
use Rattle.jobs.specs.Findings.{Findings, findings}
use Rattle.jobs.specs.Structure.{Structure, structure}
use Rattle.jobs.specs.SheetOffsets.{sheet_length}
use Rattle.jobs.specs.MapOffsets.{map_length}
use Rattle.jobs.specs.ReasonTable.{Shorter}
use Rattle.jobs.specs.Verdict.{Verdict, planned, no_fit, refused, verdict}
use Rattle.jobs.specs.SheetLayout.{sheet_of}
use Rattle.jobs.specs.MapLayout.{map_of}
use Rattle.jobs.specs.AreasAfter.{at_front, sheet_after, map_after, areas_by, areas_after}
use Rattle.jobs.specs.Demands.{IfLent, KeptFrom}
use Rattle.jobs.proofs.SheetFields.{length-sheet_of}
use Rattle.jobs.proofs.MapFields.{length_map}

-- ---- an area that is lent or not
-- written to, it has what is written
pub if_lent : (P : List ℕ → Type 0) (f : List ℕ → List ℕ) → ((area : List ℕ) → P (f area)) → (o : Option (List ℕ)) → IfLent (on_lent f o) P
if_lent P f h (some area) = h area
if_lent P f h none = tt

-- left alone, it stays
pub kept : (n : ℕ) (o : Option (List ℕ)) → KeptFrom n o o
kept n (some area) = (refl, refl)
kept n none = tt

-- a report at its front leaves the rest
pub kept_past : (report : List ℕ) (o : Option (List ℕ)) → ¬ Shorter o (length report) → KeptFrom (length report) o (on_lent (at_front report) o)
kept_past report (some area) h = let l : length report ≤ length area = omega (arith, h) in (length-append report _ ∙ omega (arith, length-drop (length report) area, l), drop_past report _)
kept_past report none h = tt

-- ---- by the verdict
-- an area that is lent and left as it is
on_lent_same : (f : List ℕ → List ℕ) → ((area : List ℕ) → f area ≡ area) → (o : Option (List ℕ)) → on_lent f o ≡ o
on_lent_same f h (some area) = ap some (h area)
on_lent_same f h none = refl

module _ (f : Findings) where
  sheet_no_fit : (l : ℕ) (o : Option (List ℕ)) → on_lent (sheet_after f (no_fit l)) o ≡ o
  unfolding sheet_after
  sheet_no_fit l = on_lent_same (sheet_after f (no_fit l)) (λ area. refl)

  sheet_refused : (p q : ℕ) (o : Option (List ℕ)) → on_lent (sheet_after f (refused p q)) o ≡ o
  unfolding sheet_after
  sheet_refused p q = on_lent_same (sheet_after f (refused p q)) (λ area. refl)

  sheet_kept : (v : Verdict) (o : Option (List ℕ)) → ((w : ℤ) → v ≡ planned w → ¬ Shorter o (length (sheet_of f))) → KeptFrom (length (sheet_of f)) o (on_lent (sheet_after f v) o)
  unfolding sheet_after
  sheet_kept (planned w) o h = kept_past (sheet_of f) o (h w refl)
  sheet_kept (no_fit l) o h = subst (KeptFrom (length (sheet_of f)) o) (sym (sheet_no_fit l o)) (kept (length (sheet_of f)) o)
  sheet_kept (refused p q) o h = subst (KeptFrom (length (sheet_of f)) o) (sym (sheet_refused p q o)) (kept (length (sheet_of f)) o)

pub planned-ne-refused : {w : ℤ} {p q : ℕ} → ¬ (planned w ≡ refused p q)
planned-ne-refused e = let z : ◌≡◌ {A = ℕ} 0 1 = cc in omega arith

pub no_refusal : {l p q : ℕ} → ¬ (no_fit l ≡ refused p q)
no_refusal e = let z : ◌≡◌ {A = ℕ} 0 1 = cc in omega arith

-- the verdict is one for which the map is written
abbrev pub Mapped : Verdict → Type 0
Mapped v = (p q : ℕ) → ¬ (v ≡ refused p q)

module _ (t : Structure) where
  map_refused : (p q : ℕ) (o : Option (List ℕ)) → on_lent (map_after t (refused p q)) o ≡ o
  unfolding map_after
  map_refused p q = on_lent_same (map_after t (refused p q)) (λ area. refl)

  pub map_written : (v : Verdict) → Mapped v → (o : Option (List ℕ)) → on_lent (map_after t v) o ≡ on_lent (at_front (map_of t)) o
  unfolding map_after
  map_written (planned w) h o = refl
  map_written (no_fit l) h o = refl
  map_written (refused p q) h o = absurd (h p q refl)

  map_kept : (v : Verdict) (o : Option (List ℕ)) → (Mapped v → ¬ Shorter o (length (map_of t))) → KeptFrom (length (map_of t)) o (on_lent (map_after t v) o)
  unfolding map_after
  map_kept (planned w) o h = kept_past (map_of t) o (h (λ p q e. planned-ne-refused e))
  map_kept (no_fit l) o h = kept_past (map_of t) o (h (λ p q e. no_refusal e))
  map_kept (refused p q) o h = subst (KeptFrom (length (map_of t)) o) (sym (map_refused p q o)) (kept (length (map_of t)) o)

module _ (c : Call) where
  abbrev j : Job
  j = job_in c

  pub by : {v : Verdict} → verdict c ≡ v → areas_after c ≡ areas_by (findings (job_in c)) (structure (job_in c)) v c.lent
  unfolding areas_after
  by e = ap (λ v. areas_by (findings j) (structure j) v c.lent) e

  pub if_planned : {w : ℤ} → verdict c ≡ planned w → (areas_after c).sheet ≡ on_lent (at_front (sheet_of (findings (job_in c)))) c.lent.sheet
  unfolding sheet_after
  if_planned e = ap (λ x. x.sheet) (by e)

  pub if_no_fit : {l : ℕ} → verdict c ≡ no_fit l → (areas_after c).sheet ≡ c.lent.sheet
  if_no_fit {l} e = ap (λ x. x.sheet) (by e) ∙ sheet_no_fit (findings j) l c.lent.sheet

  pub if_Mapped : {v : Verdict} → verdict c ≡ v → Mapped v → (areas_after c).map ≡ on_lent (at_front (map_of (structure (job_in c)))) c.lent.map
  if_Mapped {v} e h = ap (λ x. x.map) (by e) ∙ map_written (structure j) v h c.lent.map

  pub if_refused : {p q : ℕ} → verdict c ≡ refused p q → areas_after c ≡ c.lent
  if_refused {p} {q} e =
      by e ∙ ap₂ (λ o r. record { sheet = o; map = r }) (sheet_refused (findings j) p q c.lent.sheet) (map_refused (structure j) p q c.lent.map)

  -- what lies past the sheet, and past the map
  pub past_sheet : ((w : ℤ) → verdict c ≡ planned w → ¬ Shorter c.lent.sheet (sheet_length (job_in c))) → KeptFrom (sheet_length (job_in c)) c.lent.sheet (areas_after c).sheet
  unfolding areas_after
  past_sheet h =
      let e = length-sheet_of (findings j) in
      subst (λ n. KeptFrom n c.lent.sheet (areas_after c).sheet) e
      (sheet_kept (findings j) (verdict c) c.lent.sheet (λ w q. subst (λ n. ¬ Shorter c.lent.sheet n) (sym e) (h w q)))

  pub past_map : (Mapped (verdict c) → ¬ Shorter c.lent.map (map_length (job_in c))) → KeptFrom (map_length (job_in c)) c.lent.map (areas_after c).map
  unfolding areas_after
  past_map h =
      let e = length_map (structure j) in
      subst (λ n. KeptFrom n c.lent.map (areas_after c).map) e
      (map_kept (structure j) (verdict c) c.lent.map (λ m. subst (λ n. ¬ Shorter c.lent.map n) (sym e) (h m)))
