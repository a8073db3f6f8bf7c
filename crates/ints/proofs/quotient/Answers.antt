-- `quotient` meets its contract: by 1 a number is itself, and by another divisor it is `floor_div`'s.
use mathlib.Core.Path.{◌≡◌, sym, ◌∙◌, ap}
use lib.IntN.{pos}
use mir.Syntax.{w64}
use mir.Facts.{to_z-of_z, sfits_lit}
use Rattle.ints.proofs.Signed.{bits_equal}
use Rattle.ints.proofs.Floor.{floor_by_one}
use Rattle.ints.specs.Floor.{floor_div}
use Rattle.ints.proofs.quotient.Goals as goal

pub returns-then-d-eq1 : goal.returns-then-d-eq1
returns-then-d-eq1 c = let unit : c.args.d ≡ pos 1 = (bits_equal w64 c.args.d (pos 1) c.ranges.d (sfits_lit tt)).0 c.if-d-eq1.true in
    to_z-of_z c.ranges.n ∙ floor_by_one c.args.n ∙ ap (floor_div c.args.n) (sym unit)
