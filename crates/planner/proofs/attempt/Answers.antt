-- `attempt` meets its contract: the answer is the first reason that applies, or what `solved` finds.
use mathlib.Core.Path.{◌≡◌, refl, sym, ◌∙◌, ap, ap₂, subst}
use mathlib.Core.Bool.{Bool, true, false, cond}
use mathlib.Core.Option.{some}
use mathlib.Core.List.{List}
use Prim.Native.Nat.{ℕ}
use Rattle.little_endian.specs.Over.{over}
use Rattle.little_endian.proofs.Over.{over_all}
use Rattle.jobs.specs.Call.{lent_as, areas_of, call_of, on_lent}
use borrow.Author.Rules.{rules}
use Rattle.jobs.specs.Faults.{first_broken}
use Rattle.jobs.specs.Demands.{Plans}
use Rattle.jobs.specs.declared.Accepted.{Accepted}
use Rattle.planner.specs.Survey.{job_accepted, call_accepted}
use Rattle.jobs.specs.Structure.{Structure, structure}
use Rattle.jobs.specs.MapLayout.{map_of}
use Rattle.jobs.specs.Verdict.{Verdict, fitting}
use Rattle.jobs.specs.AreasAfter.{sheet_after, map_after}
use Rattle.jobs.specs.Findings.{findings}
use Rattle.jobs.proofs.AreasAfter.{Mapped, map_written}
use Rattle.jobs.proofs.Faults.{fault_checked}
use Rattle.jobs.proofs.Outcomes.{fitting-Mapped, as_broken, as_fitting}
use Rattle.planner.specs.declared.Areas.{Areas}
use Rattle.planner.specs.declared.Fit.{Fit}
use Rattle.planner.specs.declared.Fit.TheVariants.{Planned, NoFit}
use Rattle.planner.specs.Lending.{areas_in, lent_in}
use Rattle.planner.specs.Outcome.{verdict_of, refusal_of, outcome_of, fit_verdict}
use Rattle.std.proofs.Common.{Ok, Err}
use Rattle.planner.proofs.Promised.{promised}
use Rattle.planner.proofs.attempt.Goals as goal

-- the map where one is lent, and else the area as it came
mapped : (t : Structure) (v : Verdict) (lent : Bool) (area : List ℕ) → Mapped v → lent_as lent (cond lent (over 0 (map_of t) area) area) ≡ on_lent (map_after t v) (lent_as lent area)
mapped t v true area h = ap some (over_all (map_of t) area) ∙ sym (map_written t v h (some area))
mapped t v false area h = refl

-- what is not refused
settled : (f : Fit) → verdict_of (outcome_of (Ok f)) ≡ fit_verdict f
settled (Planned w) = refl
settled (NoFit l) = refl

-- the call, by what the check accepts of it
as_called : (x : Accepted) (lent : Areas) {s a : List ℕ} → x.lawful.job.bytes.now ≡ s → x.amendments.bytes.now ≡ a → call_accepted x lent ≡ call_of s a (lent_in lent)
as_called x lent p q = ap₂ (λ s a. call_of s a (lent_in lent)) p q

pub returns-in_err-accepted-clause-plans : goal.returns-in_err-accepted-clause-plans
returns-in_err-accepted-clause-plans c = let x = c.args in
    let call = call_of x.job.now x.amendments.now (lent_in x.areas.now) in
    let r = c.in_err-accepted.field-0.0 in
    let e : c.from_residual.result ≡ Err r = search rules in
    let (p, q) = as_broken call r (fault_checked call r (sym c.in_err-accepted.ensures.first_fault)) in
    promised call (ap (λ x. verdict_of (outcome_of x)) e ∙ sym p) (sym q)

pub returns-in_err-accepted-clause-first_broken_rule : goal.returns-in_err-accepted-clause-first_broken_rule
returns-in_err-accepted-clause-first_broken_rule c = let x = c.args in
    let call = call_of x.job.now x.amendments.now (lent_in x.areas.now) in
    let r = c.in_err-accepted.field-0.0 in
    let e : c.from_residual.result ≡ Err r = search rules in
    ap (λ x. refusal_of (outcome_of x)) e ∙ sym (fault_checked call r (sym c.in_err-accepted.ensures.first_fault))

pub returns-in_err-g-clause-plans : goal.returns-in_err-g-clause-plans
returns-in_err-g-clause-plans c = let x = c.args in
    let lent = x.areas.now in
    let after = c.surveyed.new.areas in
    let call = call_of x.job.now x.amendments.now (lent_in lent) in
    let k = c.in_err-g.ensures in
    let r = c.in_err-g.field-0.0 in
    let e : c.from_residual-in_err-g.result ≡ Err r = search rules in
    let o = c.in_ok-accepted.ensures in
    let (p, q) = as_broken call r (sym (ap first_broken (as_called c.in_ok-accepted.accepted lent o.job_opened o.amendments_opened)) ∙ k.surveyed.first) in
    promised call (ap (λ x. verdict_of (outcome_of x)) e ∙ sym p)
    (ap (λ l. areas_in l after.sheet.now after.map.now) k.same_areas.lent ∙ ap₂ (areas_in lent.lent) k.sheet k.surveyed.untouched ∙ sym q)

pub returns-clause-plans : goal.returns-clause-plans
returns-clause-plans c = let x = c.in_ok-accepted.accepted in
    let j = job_accepted x in
    let lent = c.args.areas.now in
    let k = c.in_ok-g.ensures in
    let o = c.in_ok-accepted.ensures in
    let (p, q) = as_fitting (call_accepted x lent) k.surveyed.none_broken in
    subst (λ call. Plans call (verdict_of (outcome_of (Ok c.solved.result))) (areas_in c.surveyed.new.areas.lent c.solved.new.area c.surveyed.new.areas.map.now)) (as_called x lent o.job_opened o.amendments_opened)
    (promised (call_accepted x lent) (settled c.solved.result ∙ c.solved.ensures.fits ∙ sym p)
    (ap (λ l. areas_in l c.solved.new.area c.surveyed.new.areas.map.now) k.same_areas.lent
    ∙ ap₂ areas_of (c.solved.ensures.area_after ∙ ap (sheet_after (findings j) (fitting j)) k.sheet)
    (ap (lent_as lent.lent.map) k.surveyed.written ∙ mapped (structure j) (fitting j) lent.lent.map lent.map.now (fitting-Mapped j))
    ∙ sym q))
