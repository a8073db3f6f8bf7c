-- `solved` meets its contract: where the area is long enough, the planner's verdict is no fit or planned.
use mathlib.Core.Path.{◌≡◌, sym, ◌∙◌, ap, subst}
use mathlib.Core.Option.{Option, none}
use mathlib.Core.List.{List}
use Prim.Native.Nat.{ℕ, ◌<◌}
use native.Mathlib.Omega.{arith}
use lib.ListN.{length}
use Rattle.ints.specs.Within.{Within}
use Rattle.lists.specs.Table.{Tabulates}
use Rattle.jobs.specs.Call.{Call, lending_nothing}
use Rattle.jobs.specs.declared.Accepted.{Accepted}
use Rattle.jobs.specs.Job.{Job, job_of}
use Rattle.jobs.proofs.Faults.{none_broken}
use Rattle.planner.specs.Survey.{job_accepted}
use Rattle.jobs.specs.declared.Bounds.{Bounds}
use Rattle.jobs.specs.Bounds.{no_bounds, with_bounds, Bounded, BoundedBy}
use Rattle.jobs.specs.Amendments.{amendments_of, bounds_in_force}
use Rattle.jobs.specs.Faults.{first_broken}
use Rattle.jobs.specs.Lawful.{LawfulJob}
use Rattle.jobs.specs.Findings.{Findings, findings}
use Rattle.jobs.specs.Solution.{number, objective, best}
use Rattle.jobs.specs.Component.{component_count}
use Rattle.jobs.specs.SheetLayout.{sheet_of}
use Rattle.little_endian.specs.Over.{over}
use Rattle.std.proofs.Common.{Some}
use Rattle.ints.proofs.{ℤ}
use Rattle.jobs.specs.Verdict.{planned, no_fit, outcome, first_without, fitting}
use Rattle.jobs.specs.AreasAfter.{sheet_after}
use Rattle.solver.specs.declared.State.{State}
use Rattle.solver.specs.StateArrays.{label_in, run_in}
use Rattle.solver.specs.Families.{Families}
use Rattle.solver.specs.Labels.{Lowest}
use Rattle.families.specs.ModelFindings.{leads_by, findings_by}
use Rattle.planner.specs.Choice.{Members, NoneEmpty, AllWithin, FirstEmpty}
use Rattle.solver.proofs.In64Bits.{held_element}
use Rattle.jobs.proofs.AmendedJob.{amended-length, variable-amended, amended_with, Bounded-in_force, lawful_amended}
use Rattle.solver.specs.VariableArrays.{BoundsOf, WeightsOf}
use Rattle.solver.proofs.LabelsOfJob.{vars}
use Rattle.planner.proofs.StateOfJob.{labels, members, counted, found, full, objective-best, area_best}
use Rattle.planner.proofs.solved.Goals as goal

-- of what the check accepts
module _ (x : Accepted) where
  abbrev job : List ℕ
  job = x.lawful.job.bytes.now

  abbrev amendments : List ℕ
  amendments = x.amendments.bytes.now

  abbrev call : Call
  call = lending_nothing job amendments

  abbrev j : Job
  j = job_accepted x

  abbrev n : ℕ
  n = x.lawful.job.shape.variables

  accepted : first_broken call ≡ none
  accepted = none_broken call x.faultless

  lawful : LawfulJob j
  lawful = lawful_amended call accepted

  n_rows : n ≡ length (job_of job).variables
  n_rows = vars job n x.lawful.job.shape.equations x.lawful.job.variables_counted x.lawful.job.equations_counted

  n_all : n ≡ length j.variables
  n_all = n_rows ∙ sym (amended-length job amendments)

  -- bounds that are those of its rows, as amended
  module _ (bounds : List Bounds) (b : BoundsOf j n bounds) where
    in_force : Tabulates no_bounds (bounds_in_force (job_of job) (amendments_of amendments)) (length (job_of job).variables) bounds
    in_force = record { at = λ i h. b.at i (omega (arith, h, n_rows)) ∙ ap (λ v. record { low = v.low; high = v.high }) (variable-amended job amendments i h) }

    bounded : BoundedBy bounds n
    bounded = record { at = λ i h. let l : i < length (job_of job).variables = omega (arith, h, n_rows) in subst Bounded (sym (in_force.at i l)) (Bounded-in_force call accepted i l) }

    as_amended : with_bounds (job_of job) bounds ≡ j
    as_amended = amended_with job amendments bounds in_force

  -- the verdict, by whether a component is without a solution
  by_first : {o : Option ℕ} → first_without j ≡ o → fitting j ≡ outcome none o (objective j (best j))
  by_first e = ap (λ o. outcome none o (objective j (best j))) e

  -- with the weights and the families in hand
  module _ (bounds : List Bounds) (bs : BoundsOf j n bounds) (weights : List ℤ) (weighs : WeightsOf j n weights) (state : State) (found_by : Families (with_bounds (job_of job) bounds) state) where
    are_families : Families j state
    are_families = subst (λ j. Families j state) (as_amended bounds bs) found_by

    weighed : AllWithin 1000000 weights n
    weighed = record { at = λ i h. subst (Within 1000000) (sym (weighs.at i h)) (lawful.each_variable i (omega (arith, h, n_all))).weight }

    low : Lowest state.labels n
    low = subst (Lowest state.labels) (sym n_all) (labels j lawful state are_families)

    of_members : Members state.labels state.runs n
    of_members = subst (Members state.labels state.runs) (sym n_all) (members j lawful state are_families)

    grouped : (g : ℕ) → g ≡ component_count j → g ≡ length (leads_by (label_in state.labels) n)
    grouped g e = e ∙ counted j lawful state are_families ∙ ap (λ k. length (leads_by (label_in state.labels) k)) (sym n_all)

    -- the verdict, where a component is without a fit, and where none is
    without : (l : ℕ) → FirstEmpty state.runs n (Some l) → no_fit l ≡ fitting j
    without l f = sym (by_first (found j lawful state are_families l (omega (arith, f.0, n_all)) f.1.0 f.1.1))

    module _ (none_empty : NoneEmpty state.runs n) where
      abbrev all : Findings
      all = findings_by n (number weights) (label_in state.labels) (run_in state.runs)

      with_fits : planned (findings_by n (number weights) (label_in state.labels) (run_in state.runs)).objective ≡ fitting j
      with_fits =
          ap planned (objective-best j lawful state are_families n_all weights weighs none_empty)
          ∙ sym (by_first (full j lawful state are_families (subst (NoneEmpty state.runs) n_all none_empty)))

      written : (a : List ℕ) → over 0 (sheet_of (findings_by n (number weights) (label_in state.labels) (run_in state.runs))) a ≡ sheet_after (findings j) (fitting j) a
      unfolding sheet_after
      written a =
          area_best j lawful state are_families n_all weights weighs none_empty a
          ∙ ap (λ v. sheet_after (findings j) v a) (by_planned)
        where
          by_planned : planned (objective j (best j)) ≡ fitting j
          by_planned = sym (by_first (full j lawful state are_families (subst (NoneEmpty state.runs) n_all none_empty)))

  kept : (l : ℕ) → no_fit l ≡ fitting j → (a : List ℕ) → a ≡ sheet_after (findings j) (fitting j) a
  unfolding sheet_after
  kept l e a = ap (λ v. sheet_after (findings j) v a) e

pub families-requires : goal.families-requires
families-requires c = bounded c.args.accepted c.in_force.new.bounds c.in_force.ensures.bounds_of

pub returns-in-Some : goal.returns-in-Some
returns-in-Some c = let x = c.args.accepted in
    let l = c.in-Some.variable in
    let e = without x c.in_force.new.bounds c.in_force.ensures.bounds_of c.in_force.new.weights c.in_force.ensures.weights_of c.families.new.state c.families.ensures l c.in-Some.ensures in
    record { fits = e; area_after = kept x l e c.args.area.now }

pub invariant_of-families : goal.invariant_of-families
invariant_of-families c = let x = c.args.accepted in record {
  few = x.lawful.job.shape.few_variables;
  weights_small = weighed x c.in_force.new.bounds c.in_force.ensures.bounds_of c.in_force.new.weights c.in_force.ensures.weights_of c.families.new.state c.families.ensures;
  lowest = low x c.in_force.new.bounds c.in_force.ensures.bounds_of c.in_force.new.weights c.in_force.ensures.weights_of c.families.new.state c.families.ensures;
  members = of_members x c.in_force.new.bounds c.in_force.ensures.bounds_of c.in_force.new.weights c.in_force.ensures.weights_of c.families.new.state c.families.ensures;
  none_empty = c.in-None.ensures;
  counted = grouped x c.in_force.new.bounds c.in_force.ensures.bounds_of c.in_force.new.weights c.in_force.ensures.weights_of c.families.new.state c.families.ensures c.args.g c.requires.components;
}

pub written-requires : goal.written-requires
written-requires c = let x = c.args.accepted in omega (arith, n_all x, c.requires.components, c.requires.room)

pub returns-in-None : goal.returns-in-None
returns-in-None c = let x = c.args.accepted in record {
  fits = ap planned (held_element c.written.result c.written.type_inv ∙ c.written.ensures.worth) ∙ with_fits x c.in_force.new.bounds c.in_force.ensures.bounds_of c.in_force.new.weights c.in_force.ensures.weights_of c.families.new.state c.families.ensures c.in-None.ensures;
  area_after = c.written.ensures.area_after ∙ written x c.in_force.new.bounds c.in_force.ensures.bounds_of c.in_force.new.weights c.in_force.ensures.weights_of c.families.new.state c.families.ensures c.in-None.ensures c.args.area.now;
}
