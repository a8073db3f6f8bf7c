-- `Run::places_in` meets its contract.
use mathlib.Core.Path.{◌≡◌, ◌∙◌, ap₂}
use Prim.Native.Nat.{◌≤◌}
use mir.Syntax.{w64}
use mir.Val.{SFits}
use mir.Facts.{to_z-of_z}
use Rattle.ints.proofs.{◌-ℤ◌, [], ◌∷◌, arith, lin, ◌&◌, signed}
use Rattle.ints.proofs.Signed.{held}
use Rattle.runs.specs.Run.{Run, OneForm}
use Rattle.runs.proofs.ClassOfRun.{first-Within}
use Rattle.runs.proofs.CongruenceSolutions.{same_congruence}
use Rattle.runs.proofs.MeetMethod.{places_in_reach}
use Rattle.runs.proofs.Run.places_in.Goals as goal

module _ (a b : Run) (p : OneForm a × ((1 ≤ a.many) × (OneForm b × (1 ≤ b.many)))) where
  fits_a : SFits w64 a.first
  fits_a = lin (a.first ∷ []) (first-Within p.0 p.1.0) (search signed depth 20) (omega arith)

  fits_b : SFits w64 b.first
  fits_b = lin (b.first ∷ []) (first-Within p.1.1.0 p.1.1.1) (search signed depth 20) (omega arith)

  fits_apart : SFits w64 (b.first -ℤ a.first)
  fits_apart = lin (a.first ∷ b.first ∷ []) (first-Within p.0 p.1.0 & first-Within p.1.1.0 p.1.1.1) (search signed depth 20) (omega arith)

  apart_asked : SFits w64 (held b.first -ℤ held a.first)
  apart_asked = rw (to_z-of_z fits_a, to_z-of_z fits_b) fits_apart

  apart_is : held (held b.first -ℤ held a.first) ≡ b.first -ℤ a.first
  apart_is = to_z-of_z apart_asked ∙ ap₂ ◌-ℤ◌ (to_z-of_z fits_b) (to_z-of_z fits_a)

pub overflow_sub-result : goal.overflow_sub-result
overflow_sub-result c = apart_asked c.args.self c.args.other (c.requires.one_form, (c.requires.not_empty, (c.requires.other_one_form, c.requires.other_not_empty)))

pub invariant_of-result : goal.invariant_of-result
invariant_of-result c = let fits_one : SFits w64 c.stride.result = record { sfits = c.stride.type_inv } in
    let fits-two : SFits w64 c.stride-2.result = record { sfits = c.stride-2.type_inv } in
    rw (
      to_z-of_z fits_one,
      c.stride.ensures,
      apart_is c.args.self c.args.other (c.requires.one_form, (c.requires.not_empty, (c.requires.other_one_form, c.requires.other_not_empty))),
      to_z-of_z fits-two,
      c.stride-2.ensures,
    ) record { in_reach = places_in_reach c.requires.one_form c.requires.other_one_form c.requires.not_empty c.requires.other_not_empty }

pub returns : goal.returns
returns c = let fits_one : SFits w64 c.stride.result = record { sfits = c.stride.type_inv } in
    let fits-two : SFits w64 c.stride-2.result = record { sfits = c.stride-2.type_inv } in
    same_congruence (to_z-of_z fits_one ∙ c.stride.ensures) (apart_is c.args.self c.args.other (c.requires.one_form, (c.requires.not_empty, (c.requires.other_one_form, c.requires.other_not_empty)))) (to_z-of_z fits-two ∙ c.stride-2.ensures)
