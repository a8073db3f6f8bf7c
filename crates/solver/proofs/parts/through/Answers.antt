-- `through` meets its contract: what it makes is a number of the family, and the way to the next.
use mathlib.Core.Path.{◌≡◌, refl}
use mathlib.Core.Bool.{false}
use mathlib.Core.Logic.{◌≢◌}
use lib.Dec.{eqb}
use borrow.Author.Rules.{rules}
use borrow.Author.Tests.{ne_eqb}
use mir.Syntax.{w64}
use mir.Val.{SFits}
use mir.Facts.{to_z-of_z}
use Rattle.ints.proofs.{◌+ℤ◌, ◌*ℤ◌, [], ◌∷◌, arith, lin, ◌&◌, signed}
use Rattle.ints.proofs.Signed.{held}
use Rattle.runs.specs.declared.Run.{Run}
use Rattle.families.specs.FamilyRun.{FamilyRun}
use Rattle.families.specs.Model.{through}
use Rattle.families.proofs.FamilySizes.{first-Within, step-Within}
use Rattle.solver.proofs.In64Bits.{fits_64}
use Rattle.solver.proofs.parts.through.Goals as goal

abbrev made : Run → Run → Run
made r s = record { first = r.first +ℤ r.step *ℤ s.first; step = r.step *ℤ s.step; many = s.many }

-- with an index at all, each number on the way fits 64 bits
record Known (r s : Run) : Type 0 where
  before : FamilyRun r
  after : FamilyRun (through r s)
  some : eqb s.many 0 ≡ false
  fits_i : SFits w64 s.first
  fits_t : SFits w64 s.step

module _ {r s : Run} (k : Known r s) where
  family : FamilyRun (made r s)
  family = rw k.some at k.after

  fits_f : SFits w64 r.first
  fits_f = fits_64 1000000000 (omega arith) (first-Within k.before)

  fits_s : SFits w64 r.step
  fits_s = fits_64 2000000000 (omega arith) (step-Within k.before)

  fits_way : SFits w64 (r.step *ℤ s.first)
  fits_way = lin (r.first ∷ r.step ∷ s.first ∷ []) (first-Within k.before & first-Within family) (search signed depth 20) (omega arith)

  way : SFits w64 (held r.step *ℤ held s.first)
  way = rw (to_z-of_z fits_s, to_z-of_z k.fits_i) fits_way

  fits_sum : SFits w64 (r.first +ℤ r.step *ℤ s.first)
  fits_sum = fits_64 1000000000 (omega arith) (first-Within family)

  sum : SFits w64 (held r.first +ℤ held (held r.step *ℤ held s.first))
  sum = rw (to_z-of_z fits_f, to_z-of_z fits_s, to_z-of_z k.fits_i, to_z-of_z fits_way) fits_sum

  fits_next : SFits w64 (r.step *ℤ s.step)
  fits_next = fits_64 2000000000 (omega arith) (step-Within family)

  next : SFits w64 (held r.step *ℤ held s.step)
  next = rw (to_z-of_z fits_s, to_z-of_z k.fits_t) fits_next

  result : ◌≡◌ {A = Run}
      record { first = held (held r.first +ℤ held (held r.step *ℤ held s.first)); step = held (held r.step *ℤ held s.step); many = s.many } (through r s)
  result = rw (k.some, to_z-of_z fits_f, to_z-of_z fits_s, to_z-of_z k.fits_i, to_z-of_z k.fits_t, to_z-of_z fits_way, to_z-of_z fits_sum, to_z-of_z fits_next) refl

known : {r s : Run} → FamilyRun r → FamilyRun (through r s) → s.many ≢ 0 → SFits w64 s.first → SFits w64 s.step → Known r s
known {r} {s} f g d i t = record { before = f; after = g; some = ne_eqb s.many 0 d; fits_i = i; fits_t = t }

pub overflow_mul-result : goal.overflow_mul-result
overflow_mul-result c = way (known c.requires.before c.requires.after c.if-indices-eq0.false (search rules) (search rules))

pub overflow_add-result : goal.overflow_add-result
overflow_add-result c = sum (known c.requires.before c.requires.after c.if-indices-eq0.false (search rules) (search rules))

pub overflow_mul-result-2 : goal.overflow_mul-result-2
overflow_mul-result-2 c = next (known c.requires.before c.requires.after c.if-indices-eq0.false (search rules) (search rules))

pub returns : goal.returns
returns c = result (known c.requires.before c.requires.after c.if-indices-eq0.false (search rules) (search rules))
