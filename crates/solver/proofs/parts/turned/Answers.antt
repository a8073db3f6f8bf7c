-- `turned` meets its contract: both ends fit, so the way between them does.
use mathlib.Core.Path.{◌≡◌, refl}
use Prim.Native.Nat.{◌<◌}
use borrow.Author.Rules.{rules}
use mir.Syntax.{w64}
use mir.Val.{SFits}
use mir.Facts.{to_z-of_z}
use Rattle.ints.proofs.{ℤ, pos, neg_ℤ, ◌+ℤ◌, ◌-ℤ◌, ◌*ℤ◌, [], ◌∷◌, arith, lin, lin₀, ◌&◌, facts, signed}
use Rattle.ints.proofs.Signed.{held}
use Rattle.runs.specs.declared.Run.{Run}
use Rattle.families.specs.FamilyRun.{turned}
use Rattle.solver.specs.Widths.{Turnable}
use Rattle.solver.proofs.In64Bits.{fits_64}
use Rattle.solver.proofs.parts.turned.Goals as goal

module _ (r : Run) (t : Turnable r) (small : r.many < 4294967296) (k : ℤ) (is : k ≡ pos r.many) where
  abbrev m : ℤ
  m = pos r.many -ℤ pos 1

  fits_first : SFits w64 r.first
  fits_first = fits_64 4294967296 (omega arith) t.first

  fits_step : SFits w64 r.step
  fits_step = fits_64 4294967296 (omega arith) t.step

  many_is : held k ≡ pos r.many
  many_is = rw is (to_z-of_z {w = w64} {z = pos r.many} (lin (pos r.many ∷ []) small (search signed depth 20) (omega arith)))

  fits_m : SFits w64 m
  fits_m = lin (pos r.many ∷ []) small (search signed depth 20) (omega arith)

  fits_last : SFits w64 (r.first +ℤ r.step *ℤ m)
  fits_last = fits_64 4294967296 (omega arith) t.last

  fits_way : SFits w64 (r.step *ℤ m)
  fits_way = lin (r.first ∷ r.step ∷ pos r.many ∷ []) (t.first & t.last) (search signed depth 20) (omega arith)

  opposite : pos 0 -ℤ r.step ≡ neg_ℤ r.step
  opposite = lin₀ (r.step ∷ []) (search facts depth 20) (omega arith)

  fits_back : SFits w64 (neg_ℤ r.step)
  fits_back = lin (r.step ∷ []) t.step (search signed depth 20) (omega arith)

  result : ◌≡◌ {A = Run}
      record { first = held (held r.first +ℤ held (held r.step *ℤ held (held k -ℤ pos 1))); step = held (pos 0 -ℤ held r.step); many = r.many } (turned r)
  result = rw (many_is, to_z-of_z fits_first, to_z-of_z fits_step, to_z-of_z fits_m, to_z-of_z fits_way, to_z-of_z fits_last, opposite, to_z-of_z fits_back) refl

pub returns : goal.returns
returns c = result c.args.r c.requires (search rules) c.from.result c.from.ensures
