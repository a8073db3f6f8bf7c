-- `combined` meets its contract.
use mathlib.Core.Path.{◌≡◌, refl}
use mir.Syntax.{w64}
use mir.Val.{SFits}
use mir.Facts.{to_z-of_z}
use Rattle.ints.specs.Within.{Within}
use Rattle.ints.proofs.{ℤ, ◌+ℤ◌, ◌*ℤ◌, [], ◌∷◌, arith, lin, ◌&◌, Within-mul, signed}
use Rattle.ints.proofs.Signed.{held}
use Rattle.runs.specs.declared.Equation.{Equation}
use Rattle.solver.specs.Widths.{Combinable}
use Rattle.solver.proofs.In64Bits.{fits_64}
use Rattle.solver.proofs.cycle.combined.Goals as goal

module _ (e : Equation) (x y : ℤ) (p : Combinable e × (Within 2000000000 x × Within 2000000000 y)) where
  fits_a : SFits w64 e.a
  fits_a = fits_64 2000000 (omega arith) p.0.left

  fits_b : SFits w64 e.b
  fits_b = fits_64 2000000 (omega arith) p.0.right

  fits_x : SFits w64 x
  fits_x = fits_64 2000000000 (omega arith) p.1.0

  fits_y : SFits w64 y
  fits_y = fits_64 2000000000 (omega arith) p.1.1

  fits_ax : SFits w64 (e.a *ℤ x)
  fits_ax = fits_64 4000000000000000 (omega arith) (Within-mul p.0.left p.1.0)

  fits_by : SFits w64 (e.b *ℤ y)
  fits_by = fits_64 4000000000000000 (omega arith) (Within-mul p.0.right p.1.1)

  fits_sum : SFits w64 (e.a *ℤ x +ℤ e.b *ℤ y)
  fits_sum =
      lin (e.a ∷ e.b ∷ x ∷ y ∷ []) (Within-mul p.0.left p.1.0 & Within-mul p.0.right p.1.1) (search signed depth 20) (omega arith)

  sum : SFits w64 (held (held e.a *ℤ held x) +ℤ held (held e.b *ℤ held y))
  sum = rw (to_z-of_z fits_a, to_z-of_z fits_b, to_z-of_z fits_x, to_z-of_z fits_y, to_z-of_z fits_ax, to_z-of_z fits_by) fits_sum

  result : held (held (held e.a *ℤ held x) +ℤ held (held e.b *ℤ held y)) ≡ e.a *ℤ x +ℤ e.b *ℤ y
  result = rw (to_z-of_z fits_a, to_z-of_z fits_b, to_z-of_z fits_x, to_z-of_z fits_y, to_z-of_z fits_ax, to_z-of_z fits_by, to_z-of_z fits_sum) refl

pub overflow_add-result : goal.overflow_add-result
overflow_add-result c = sum c.args.e c.args.x c.args.y (c.requires.combinable, (c.requires.small_x, c.requires.small_y))

pub returns : goal.returns
returns c = result c.args.e c.args.x c.args.y (c.requires.combinable, (c.requires.small_x, c.requires.small_y))
