-- 64 bits hold all that is made of the numbers of a family.
use mathlib.Core.Path.{◌≡◌}
use Prim.Native.Nat.{ℕ, ◌<◌}
use lib.Signed.{mag}
use mir.Syntax.{w64}
use mir.Val.{SFits}
use mir.Facts.{to_z-of_z}
use Rattle.ints.specs.Within.{Within}
use Rattle.ints.proofs.{ℤ, pos, [], ◌∷◌, arith, lin, ◌&◌, facts, signed}
use Rattle.ints.proofs.Signed.{held}
use Rattle.runs.specs.declared.Run.{Run}
use Rattle.families.specs.FamilyRun.{FamilyRun}
use Rattle.families.proofs.FamilySizes.{first-Within, step-Within, last_Within}
use Rattle.solver.specs.Widths.{Turnable, Crossable}

-- a 64-bit number
pub fits_64 : {x : ℤ} (n : ℕ) → n < 9223372036854775808 → Within n x → SFits w64 x
fits_64 {x} n h w = lin (x ∷ pos n ∷ []) (w & h) (search signed depth 20) (omega arith)

-- an element of an array, as a local holds it
pub held_element : (x : ℤ) → mag x < 9223372036854775808 → held x ≡ x
held_element x h = to_z-of_z {w = w64} {z = x} record { sfits = h }

pub held-Within : {n : ℕ} {x : ℤ} → n < 9223372036854775808 → Within n x → held x ≡ x
held-Within {n} h w = to_z-of_z (fits_64 n h w)

-- a run's first number and step, as 64-bit locals hold them
module _ {r : Run} (w : Crossable r) where
  pub fits_first : SFits w64 r.first
  fits_first = fits_64 1000000000 (omega arith) w.first

  pub fits_step : SFits w64 r.step
  fits_step = fits_64 2000000000 (omega arith) w.step

  pub held-first : held r.first ≡ r.first
  held-first = to_z-of_z fits_first

  pub held-step : held r.step ≡ r.step
  held-step = to_z-of_z fits_step

-- a family can be carried over and turned
module _ {r : Run} (f : FamilyRun r) where
  pub crossable : Crossable r
  crossable = record { first = first-Within f; step = step-Within f }

  pub turnable : Turnable r
  turnable = record {
    first = lin (r.first ∷ []) (first-Within f) (search facts depth 20) (omega arith);
    last = lin (r.first ∷ r.step ∷ pos r.many ∷ []) (last_Within f) (search facts depth 20) (omega arith);
    step = lin (r.step ∷ []) (step-Within f) (search facts depth 20) (omega arith);
  }
