-- `written` meets its contract: what is written is what the model finds.
use mathlib.Core.Path.{◌∙◌, ap}
use Rattle.jobs.specs.SheetLayout.{sheet_of}
use Rattle.jobs.proofs.SheetFields.{same_layout}
use Rattle.solver.proofs.In64Bits.{held_element}
use Rattle.little_endian.specs.Over.{over}
use Rattle.planner.specs.Choice.{findings_in}
use Rattle.planner.proofs.ArraysAgree.{objective_is, agree}
use Rattle.planner.proofs.written.Goals as goal

pub returns : goal.returns
returns c = let f = c.args.families in
    let slopes = c.slopes-slopes in
    let numbers = c.numbers-numbers in
    let held_worth = held_element c.worth-worth.result c.worth-worth.type_inv ∙ c.worth-worth.ensures in
    record {
      worth = held_worth ∙ objective_is f.weights.now f.state.now.labels f.state.now.runs f.variables f.lowest f.members slopes.result slopes.ensures numbers.result numbers.ensures.chosen;
      area_after = c.write.ensures
          ∙ ap (λ v. over 0 (sheet_of (findings_in f.state.now.labels f.state.now.runs slopes.result numbers.result f.variables v)) c.args.area.now) held_worth
          ∙ ap (λ b. over 0 b c.args.area.now) (same_layout (agree f.weights.now f.state.now.labels f.state.now.runs f.variables f.lowest f.members slopes.result slopes.ensures numbers.result numbers.ensures.chosen));
    }
