-- `surveyed` meets its contract: both areas are tested before the map is written.
use mathlib.Core.Path.{◌≡◌, refl, sym, ◌∙◌, ap, subst}
use mathlib.Core.Bool.{Bool, true, false, cond, false≢true}
use mathlib.Core.Option.{Option, none, some}
use mathlib.Core.Logic.{◌↔◌}
use Rattle.std.proofs.Common.{IsTrue}
use mathlib.Core.List.{List}
use Prim.Native.Nat.{ℕ, ◌+◌, ◌*◌, ◌≤◌, ◌<◌}
use native.Mathlib.Omega.{arith}
use lib.ListN.{length}
use Rattle.little_endian.specs.Over.{over}
use Rattle.reasons.specs.declared.Reason.TheVariants.{ShortArea, ShortMap}
use Rattle.jobs.specs.declared.Accepted.{Accepted}
use Rattle.jobs.specs.Call.{Call, lending_nothing}
use Rattle.jobs.specs.Job.{Job, job_of, variable_count, equation_count}
use Rattle.jobs.specs.Faults.{first_broken}
use Rattle.jobs.specs.Component.{component_count}
use Rattle.jobs.specs.SheetOffsets.{sheet_length}
use Rattle.jobs.specs.MapOffsets.{map_length}
use Rattle.jobs.specs.MapLayout.{map_of}
use Rattle.jobs.specs.Structure.{structure}
use Rattle.jobs.specs.ReasonTable.{Shorter}
use Rattle.jobs.proofs.AmendedJob.{amended-length, amended_equations}
use Rattle.jobs.proofs.Components.{length_leads}
use Rattle.jobs.proofs.Faults.{none_broken, fault_short, fault_map, fault_none}
use Rattle.jobs.proofs.SameEquations.{count_same, map_same}
use Rattle.families.specs.ModelFindings.{leads_by}
use Rattle.solver.specs.StateArrays.{label_in}
use Rattle.solver.specs.Labels.{Lowest}
use Rattle.solver.specs.Structured.{Structured}
use Rattle.solver.specs.declared.structure.Structure.{Structure}
use Rattle.solver.proofs.LabelsOfJob.{vars, ties, counted}
use Rattle.planner.specs.declared.Areas.{Areas}
use Rattle.planner.specs.Lending.{lent_in}
use Rattle.planner.specs.Mapping.{AllBelow, structure_in}
use Rattle.planner.specs.Survey.{job_accepted, call_accepted}
use Rattle.planner.proofs.StructureOfJob.{labels, homes, map_is}
use Rattle.planner.proofs.surveyed.Goals as goal

-- what the test of the map area answers
module _ (area : Option (List ℕ)) {answer : Bool} {k room : ℕ} (e : IsTrue answer ↔ Shorter area k) (q : k ≡ room) where
  shorter : answer ≡ true → Shorter area room
  shorter h = subst (Shorter area) q (e.0 h)

  not_shorter : answer ≡ false → ¬ Shorter area room
  not_shorter h d = false≢true (sym h ∙ e.1 (subst (Shorter area) (sym q) d))

-- of what the check accepts
module _ (x : Accepted) where
  -- the job as amended has the same equations, and as many variables
  abbrev j : Job
  j = job_accepted x

  abbrev s : List ℕ
  s = x.lawful.job.bytes.now

  abbrev n : ℕ
  n = x.lawful.job.shape.variables

  abbrev m : ℕ
  m = x.lawful.job.shape.equations

  p : n ≡ variable_count s
  p = x.lawful.job.variables_counted

  q : m ≡ equation_count s
  q = x.lawful.job.equations_counted

  accepted : first_broken (lending_nothing s x.amendments.bytes.now) ≡ none
  accepted = none_broken (lending_nothing s x.amendments.bytes.now) x.faultless

  same_equations : j.equations ≡ (job_of s).equations
  same_equations = amended_equations s x.amendments.bytes.now

  same_length : length j.variables ≡ length (job_of s).variables
  same_length = amended-length s x.amendments.bytes.now

  map_whole : 24 + 4 * n + 4 * m ≡ map_length j
  map_whole = let e : length j.equations ≡ length (job_of s).equations = ap length same_equations in omega (arith, vars s n m p q, ties s n m p q, same_length, e)

  -- with its structure t and the number g of its components
  module _ (t : Structure) (f : Structured (job_of x.lawful.job.bytes.now) x.lawful.job.shape.equations x.lawful.job.shape.variables t) (g : ℕ) (e : g ≡ length (leads_by (label_in t.labels) x.lawful.job.shape.variables)) where
    g_is : g ≡ component_count j
    g_is = counted s n m p q t.labels f.labels g e ∙ sym (count_same j (job_of s) same_equations same_length)

    g_small : g ≤ 256
    g_small = omega (arith, x.lawful.job.shape.few_variables, g_is, vars s n m p q, same_length, length_leads j)

    sheet_whole : 24 + 16 * n + 16 * g ≡ sheet_length j
    sheet_whole = omega (arith, vars s n m p q, same_length, g_is)

    low : Lowest t.labels n
    low = labels s n m p q x.lawful.lawful t f

    below : AllBelow n t.homes m
    below = homes s n m p q x.lawful.lawful t f

    map_as_amended : map_of (structure_in t n m) ≡ map_of (structure j)
    map_as_amended = map_is s n m p q x.lawful.lawful t f ∙ sym (map_same j (job_of s) same_equations same_length)

    module _ (lent : Areas) where
      abbrev call : Call
      call = call_accepted x lent

      sheet_short : length lent.sheet.now < 24 + 16 * n + 16 * g → first_broken call ≡ some ShortArea
      sheet_short h = fault_short call accepted (omega (arith, h, sheet_whole))

      module _ (long : 24 + 16 * x.lawful.job.shape.variables + 16 * g ≤ length lent.sheet.now) where
        room : sheet_length j ≤ length lent.sheet.now
        room = omega (arith, long, sheet_whole)

        map_short : Shorter (lent_in lent).map (24 + 4 * n + 4 * m) → first_broken call ≡ some ShortMap
        map_short h = fault_map call accepted (λ d. omega (arith, d, room)) (subst (Shorter (lent_in lent).map) map_whole h)

        map_long : ¬ Shorter (lent_in lent).map (24 + 4 * n + 4 * m) → first_broken call ≡ none
        map_long h = fault_none call accepted (λ d. omega (arith, d, room)) (λ d. h (subst (Shorter (lent_in lent).map) (sym map_whole) d))

pub length-requires : goal.length-requires
length-requires c = omega (arith, g_small c.args.accepted c.of_job.new.found c.of_job.ensures c.count-g.result c.count-g.ensures)

pub returns-then-areas-length-clause-surveyed : goal.returns-then-areas-length-clause-surveyed
returns-then-areas-length-clause-surveyed c = let x = c.args.accepted in
    record { first = sheet_short x c.of_job.new.found c.of_job.ensures c.count-g.result c.count-g.ensures c.args.areas.now (omega (arith, c.length.ensures, c.if-areas-length.true)); untouched = refl }

pub returns-then-is_map_short-clause-surveyed : goal.returns-then-is_map_short-clause-surveyed
returns-then-is_map_short-clause-surveyed c = let x = c.args.accepted in
    record { first = map_short x c.of_job.new.found c.of_job.ensures c.count-g.result c.count-g.ensures c.args.areas.now (omega (arith, c.length.ensures, c.if-areas-length.false)) (shorter (lent_in c.args.areas.now).map c.is_map_short.ensures c.length-2.ensures c.if-is_map_short.true); untouched = refl }

pub write-requires-clause-lowest : goal.write-requires-clause-lowest
write-requires-clause-lowest c = low c.args.accepted c.of_job.new.found c.of_job.ensures c.count-g.result c.count-g.ensures

pub write-requires-clause-all_below : goal.write-requires-clause-all_below
write-requires-clause-all_below c = below c.args.accepted c.of_job.new.found c.of_job.ensures c.count-g.result c.count-g.ensures

pub returns-then-areas-clause-surveyed : goal.returns-then-areas-clause-surveyed
returns-then-areas-clause-surveyed c = let x = c.args.accepted in
    let before = c.args.areas.now.map.now in record {
      none_broken = map_long x c.of_job.new.found c.of_job.ensures c.count-g.result c.count-g.ensures c.args.areas.now (omega (arith, c.length.ensures, c.if-areas-length.false)) (not_shorter (lent_in c.args.areas.now).map c.is_map_short.ensures c.length-2.ensures c.if-is_map_short.false);
      components = g_is x c.of_job.new.found c.of_job.ensures c.count-g.result c.count-g.ensures;
      room = room x c.of_job.new.found c.of_job.ensures c.count-g.result c.count-g.ensures c.args.areas.now (omega (arith, c.length.ensures, c.if-areas-length.false));
      written = c.write.ensures ∙ ap (λ b. over 0 b before) (map_as_amended x c.of_job.new.found c.of_job.ensures c.count-g.result c.count-g.ensures)
          ∙ ap (λ b. cond b (over 0 (map_of (structure (job_accepted x))) before) before) (sym c.if-areas.true);
    }

pub returns-else-areas-clause-surveyed : goal.returns-else-areas-clause-surveyed
returns-else-areas-clause-surveyed c = let x = c.args.accepted in
    let before = c.args.areas.now.map.now in record {
      none_broken = map_long x c.of_job.new.found c.of_job.ensures c.count-g.result c.count-g.ensures c.args.areas.now (omega (arith, c.length.ensures, c.if-areas-length.false)) (not_shorter (lent_in c.args.areas.now).map c.is_map_short.ensures c.length-2.ensures c.if-is_map_short.false);
      components = g_is x c.of_job.new.found c.of_job.ensures c.count-g.result c.count-g.ensures;
      room = room x c.of_job.new.found c.of_job.ensures c.count-g.result c.count-g.ensures c.args.areas.now (omega (arith, c.length.ensures, c.if-areas-length.false));
      written = ap (λ b. cond b (over 0 (map_of (structure (job_accepted x))) before) before) (sym c.if-areas.false);
    }
