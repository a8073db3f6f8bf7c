-- The contract of `plan` determines its answer: any two answers that meet it for one call have one outcome and leave the same bytes in
-- every area, lent or not (`determined`). So where the planner is changed and its contract proved again, every outcome and every byte written stays.
use mathlib.Core.Path.{◌≡◌, refl, sym, ◌∙◌, ap, ap₂}
use mathlib.Core.Bool.{Bool, true, false}
use mathlib.Core.Option.{Option, none, some, some-injective}
use mathlib.Core.List.{List}
use Prim.Native.Nat.{ℕ}
use borrow.Fn.Kinds.{Dens, ended_of}
use contract.Lifetimes.{Lfts}
use denote.Triple.Clauses.{AtExit}
use Rattle.reasons.specs.declared.Reason.{Reason}
use Rattle.jobs.specs.Call.{lent_as, areas_of}
use Rattle.jobs.specs.Verdict.{Verdict, planned, no_fit, refused}
use Rattle.jobs.specs.Demands.{UntouchedUnless}
use Rattle.planner.specs.Lending.{areas_in}
use Rattle.planner.specs.Outcome.{Outcome, verdict_of, refusal_of}
use Rattle.planner.specs.declared.Outcome.TheVariants.{Planned, NoFit, Refused}
use Rattle.planner.proofs.plan.Kinds as plan-kinds
use Rattle.planner.proofs.plan.Reads as plan-reads

-- ---- an outcome is told by its verdict and the reason of its refusal
abbrev outcome_of : Verdict → Option Reason → Outcome
outcome_of v (some r) = Refused r
outcome_of (planned objective) none = Planned objective
outcome_of (no_fit l) none = NoFit l
outcome_of (refused reason row) none = NoFit 0

outcome_is : (r : Outcome) → outcome_of (verdict_of r) (refusal_of r) ≡ r
outcome_is (Planned objective) = refl
outcome_is (NoFit l) = refl
outcome_is (Refused r) = refl

-- ---- areas are told by their bytes
-- the one that is always lent
sheet_same : {s t : List ℕ} {o p : Option (List ℕ)} → areas_of s o ≡ areas_of t p → s ≡ t
sheet_same {s} {t} e = some-injective s t (ap (λ x. x.sheet) e)

-- and one that is lent, or left as it came
map_same : (lent : Bool) {s t u v : List ℕ} {before : List ℕ} → areas_of s (lent_as lent u) ≡ areas_of t (lent_as lent v) → UntouchedUnless lent before u → UntouchedUnless lent before v → u ≡ v
map_same true {s} {t} {u} {v} e p q = some-injective u v (ap (λ x. x.map) e)
map_same false e p q = p refl ∙ sym (q refl)

-- ---- what a call of `plan` is given, what it leaves, and all that its contract promises of these and of its answer; κs are the
-- lifetimes of its five references
module _ (κs : Lfts 5) where
  abbrev pub Given : Type 0
  Given = Dens κs plan-kinds.ps

  abbrev pub Left : Type 0
  Left = AtExit (ended_of 5 plan-kinds.ps plan-kinds.r) κs

  abbrev pub area_in : Left → List ℕ
  area_in x = x.1.1.0.now.sheet.now

  abbrev pub map_in : Left → List ℕ
  map_in x = x.1.1.0.now.map.now

  abbrev pub Promised : Given → Outcome → Left → Type 0
  Promised = plan-reads.Post κs

  pub determined : (call : Given) (r s : Outcome) (x y : Left) → Promised call r x → Promised call s y → (r ≡ s) × ((area_in x ≡ area_in y) × (map_in x ≡ map_in y))
  determined call r s x y p q =
      let lent = call.1.1.0.now.lent in
      let as_lent = ap (λ l. areas_in l (area_in x) (map_in x)) (sym p.0.lent) ∙ p.1.0.areas ∙ sym q.1.0.areas ∙ ap (λ l. areas_in l (area_in y) (map_in y)) q.0.lent in (
        sym (outcome_is r) ∙ ap₂ outcome_of (p.1.0.outcome ∙ sym q.1.0.outcome) (p.1.1.0 ∙ sym q.1.1.0) ∙ outcome_is s,
        (sheet_same as_lent, map_same lent.map as_lent p.1.1.1 q.1.1.1),
      )
