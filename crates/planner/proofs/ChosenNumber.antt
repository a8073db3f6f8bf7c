-- The number that is chosen for a variable is one of its family's, and so within the range.
use mathlib.Core.Path.{◌≡◌, ◌∙◌, ap}
use Prim.Native.Nat.{◌≤◌}
use mir.Facts.{to_z-of_z}
use Rattle.ints.specs.Within.{Within}
use Rattle.ints.proofs.{ℤ, arith}
use Rattle.ints.proofs.Signed.{held}
use Rattle.runs.specs.declared.Run.{Run}
use Rattle.runs.specs.Run.{bound}
use Rattle.families.specs.FamilyRun.{FamilyRun}
use Rattle.families.specs.Family.{choice}
use Rattle.families.proofs.BestOfComponent.{choice_below}
use Rattle.families.proofs.FamilySizes.{member_Within}
use Rattle.planner.specs.Choice.{number_at}
use Rattle.solver.proofs.In64Bits.{fits_64}

module _ {r : Run} (f : FamilyRun r) (some : 1 ≤ r.many) (slope : ℤ) where
  pub number_Within : Within bound (number_at r slope)
  number_Within = member_Within f (choice slope r.many) (choice_below slope r.many some)

  -- as a local holds it
  pub held_number : {x : ℤ} → x ≡ number_at r slope → held x ≡ number_at r slope
  held_number {x} e = ap held e ∙ to_z-of_z (fits_64 1000000000 (omega arith) number_Within)
