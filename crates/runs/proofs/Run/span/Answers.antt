-- `Run::span` meets its contract: the last number is within the range, and so is the way to it.
use mathlib.Core.Path.{◌≡◌, refl}
use Prim.Native.Nat.{◌≤◌}
use mir.Syntax.{w64}
use mir.Val.{SFits, to_z}
use mir.Facts.{to_z-of_z}
use Rattle.ints.proofs.{ℤ, pos, ◌+ℤ◌, ◌-ℤ◌, ◌*ℤ◌, List, [], ◌∷◌, arith, lin, signed}
use Rattle.runs.specs.Run.{Run, OneForm}
use Rattle.runs.proofs.ClassOfRun.{first-Within, last_Within, sizes}
use Rattle.ints.proofs.Signed.{cast}
use Rattle.runs.proofs.Run.span.Goals as goal

-- each number on the way, and that it fits
module _ (r : Run) (p : OneForm r × (1 ≤ r.many)) where
  abbrev ρ : List ℤ
  ρ = r.first ∷ r.step ∷ pos r.many ∷ []

  abbrev m : ℤ
  m = pos r.many -ℤ pos 1

  fits_first : SFits w64 r.first
  fits_first = lin ρ (first-Within p.0 p.1) (search signed depth 20) (omega arith)

  fits_step : SFits w64 r.step
  fits_step = lin ρ (sizes p.0 p.1).step (search signed depth 20) (omega arith)

  many_is : to_z w64 r.many ≡ pos r.many
  many_is = cast r.many (lin ρ (sizes p.0 p.1).many (search signed depth 20) (omega arith))

  fits_m : SFits w64 m
  fits_m = lin ρ (sizes p.0 p.1).many (search signed depth 20) (omega arith)

  fits_p : SFits w64 (r.step *ℤ m)
  fits_p = lin ρ (sizes p.0 p.1).reach (search signed depth 20) (omega arith)

  fits_last : SFits w64 (r.first +ℤ r.step *ℤ m)
  fits_last = lin ρ (last_Within p.0 p.1) (search signed depth 20) (omega arith)

pub overflow_mul-result : goal.overflow_mul-result
overflow_mul-result c = let r = c.args.self in
    rw (many_is r (c.requires.one_form, c.requires.not_empty), to_z-of_z (fits_step r (c.requires.one_form, c.requires.not_empty)), to_z-of_z (fits_m r (c.requires.one_form, c.requires.not_empty))) (fits_p r (c.requires.one_form, c.requires.not_empty))

pub overflow_add-result : goal.overflow_add-result
overflow_add-result c = let r = c.args.self in
    rw (many_is r (c.requires.one_form, c.requires.not_empty), to_z-of_z (fits_first r (c.requires.one_form, c.requires.not_empty)), to_z-of_z (fits_step r (c.requires.one_form, c.requires.not_empty)), to_z-of_z (fits_m r (c.requires.one_form, c.requires.not_empty)), to_z-of_z (fits_p r (c.requires.one_form, c.requires.not_empty))) (fits_last r (c.requires.one_form, c.requires.not_empty))

pub returns : goal.returns
returns c = let r = c.args.self in
    rw (many_is r (c.requires.one_form, c.requires.not_empty), to_z-of_z (fits_first r (c.requires.one_form, c.requires.not_empty)), to_z-of_z (fits_step r (c.requires.one_form, c.requires.not_empty)), to_z-of_z (fits_m r (c.requires.one_form, c.requires.not_empty)), to_z-of_z (fits_p r (c.requires.one_form, c.requires.not_empty)), to_z-of_z (fits_last r (c.requires.one_form, c.requires.not_empty))) refl
