-- `group_rows` meets its contract: row for row.
use mathlib.Core.Path.{◌≡◌, sym, ◌∙◌, ap}
use mathlib.Core.List.{List, [], ◌∷◌}
use Prim.Native.Nat.{ℕ, ◌+◌, ◌*◌, ◌≤◌, ◌<◌}
use borrow.Author.Rules.{rules}
use native.Mathlib.Omega.{arith}
use lib.ListN.{length, length-append}
use lib.IntN.{ℤ}
use Rattle.runs.specs.declared.Run.{Run}
use Rattle.families.specs.Family.{choice}
use Rattle.jobs.specs.Solution.{number}
use Rattle.jobs.specs.SheetLayout.{sheet_group}
use Rattle.jobs.proofs.SheetFields.{length_groups}
use Rattle.families.specs.ModelFindings.{leads_by}
use Rattle.little_endian.specs.Over.{over}
use Rattle.solver.specs.StateArrays.{label_in, run_in}
use Rattle.planner.specs.Choice.{chosen_in}
use Rattle.solver.proofs.LowestVariables.{leads_none, leads_yes, leads_no, leads_length, leads_mono}
use Rattle.little_endian.proofs.Over.{over_none, over_same}
use Rattle.solver.proofs.In64Bits.{held_element}
use Rattle.planner.proofs.ReportRows.{laid, laid_length}
use Rattle.planner.proofs.SheetRows.{groups_none, groups_yes, groups_no}
use Rattle.planner.proofs.sheet.group_rows.Goals.{then-state-i, else-state-i}
use Rattle.planner.proofs.sheet.group_rows.Goals as goal
use Rattle.planner.proofs.sheet.group_rows.Invariants.{rows}

long : (labels : List ℕ) (runs : List Run) (slopes : List ℤ) (i : ℕ) → length (rows labels runs slopes i) ≡ 16 * length (leads_by (label_in labels) i)
long labels runs slopes i = length_groups (run_in runs) (chosen_in runs slopes) (number slopes) (leads_by (label_in labels) i)

-- the part stays as long as it is
kept : (labels : List ℕ) (runs : List Run) (slopes : List ℤ) (n i : ℕ) (a x : List ℕ) → i ≤ n → 16 * length (leads_by (label_in labels) n) ≤ length a →
    x ≡ over 0 (rows labels runs slopes i) a → length x ≡ length a
kept labels runs slopes n i a x h l e =
    laid_length 16 0 (length (leads_by (label_in labels) i)) (rows labels runs slopes i) a x (long labels runs slopes i)
    (omega (arith, leads_mono (label_in labels) i n h, l)) e

-- at the lowest variable i of a component there is room for a row
room : (g : ℕ → ℕ) (n i : ℕ) (a : List ℕ) → i < n → g i ≡ i → 16 * length (leads_by g n) ≤ length a → 16 * length (leads_by g i) + 16 ≤ length a
room g n i a h e l = omega (arith, leads_mono g (i + 1) n (omega arith), ap length (leads_yes g i e) ∙ length-append (leads_by g i) (i ∷ []), l)

more : (g : ℕ → ℕ) (i at : ℕ) → g i ≡ i → at ≡ 16 * length (leads_by g i) → at + 16 ≡ 16 * length (leads_by g (i + 1))
more g i at e q = omega (arith, q, ap length (leads_yes g i e) ∙ length-append (leads_by g i) (i ∷ []))

pub loop-i-init : goal.loop-i-init
loop-i-init c = let x = c.args.chosen in
    let runs = x.families.state.now.runs in
    let g = label_in x.families.state.now.labels in (
      sym (ap (λ ls. 16 * length ls) (leads_none g)),
      sym (ap (λ b. over 0 b c.args.part.now) (groups_none g (run_in runs) (chosen_in runs x.slopes.now) (number x.slopes.now)) ∙ over_none 0 c.args.part.now (omega arith)),
    )

pub group-requires-clause-room : goal.group-requires-clause-room
group-requires-clause-room c = let x = c.args.chosen in
    let labels = x.families.state.now.labels in
    let l = c.loop-i in omega (
      arith,
      l.invariant.0,
      room (label_in labels) x.families.variables l.i c.args.part.now (omega arith) c.if-state-i.true c.requires,
      kept labels x.families.state.now.runs x.slopes.now x.families.variables l.i c.args.part.now l.part (omega arith) c.requires l.invariant.1,
    )

pub overflow_add-at : goal.overflow_add-at
overflow_add-at c = omega (arith, c.loop-i.invariant.0, leads_length (label_in c.args.chosen.families.state.now.labels) c.loop-i.i, c.args.chosen.families.few)

pub loop-i-preserved : goal.loop-i-preserved
loop-i-preserved c = let l = c.loop-i in
    let a = c.args.part.now in
    let n = c.args.chosen.families.variables in
    let labels = c.args.chosen.families.state.now.labels in
    let runs = c.args.chosen.families.state.now.runs in
    let slopes = c.args.chosen.slopes.now in
    let g = label_in labels in
    let many = (run_in runs l.i).many in elim c.if-state-i.branch [
      | then-state-i w ↦ (
        w.at-is ∙ more g l.i l.at w.if-state-i.true l.invariant.0,
        w.part-is ∙ laid 16 0 (length (leads_by g l.i)) (rows labels runs slopes l.i) (sheet_group many (chosen_in runs slopes l.i) (number slopes l.i)) a l.part _ (long labels runs slopes l.i)
            (omega (arith, room g n l.i a (omega arith) w.if-state-i.true c.requires)) (omega (arith, l.invariant.0)) l.invariant.1
            (over_same l.at l.part _ (ap (λ z. sheet_group many (choice z many) z) (held_element (number slopes l.i) (search rules))) w.group.ensures)
            ∙ ap (λ b. over 0 b a) (groups_yes g (run_in runs) (chosen_in runs slopes) (number slopes) l.i w.if-state-i.true),
      )
      | else-state-i w ↦ (
        w.at-is ∙ l.invariant.0 ∙ sym (ap (λ ls. 16 * length ls) (leads_no g l.i w.if-state-i.false)),
        w.part-is ∙ l.invariant.1 ∙ ap (λ b. over 0 b a) (groups_no g (run_in runs) (chosen_in runs slopes) (number slopes) l.i w.if-state-i.false),
      )
    ]
