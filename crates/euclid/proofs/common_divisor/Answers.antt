-- `euclid::common_divisor` meets its contract.
use mathlib.Core.Path.{◌∙◌, ap}
use borrow.Author.Rules.{rules}
use mir.Syntax.{w64}
use mir.Val.{SFits}
use mir.Facts.{to_z-of_z}
use lib.IntN.{pos, nat_abs}
use Rattle.ints.proofs.Signed.{told}
use Rattle.euclid.specs.Coefficient.{is_coefficient}
use Rattle.euclid.proofs.Coefficient.{Coefficient-iff}
use Rattle.euclid.proofs.Answers.{given}
use Rattle.euclid.proofs.common_divisor.Goals as goal

pub returns-then-is_coefficient-2-clause-answer : goal.returns-then-is_coefficient-2-clause-answer
returns-then-is_coefficient-2-clause-answer c =
    let fits_g : SFits w64 c.of-f.result.gcd = search rules in
    let size = c.abs.ensures.value ∙ ap (λ x. pos (nat_abs x)) (to_z-of_z c.ranges.b) in
    let fits_size : SFits w64 c.abs.result = search rules in
    rw (to_z-of_z fits_g)
    (given c.args.a c.args.b
    ((Coefficient-iff c.args.a).0 (told is_coefficient c.ranges.a c.is_coefficient.ensures c.if-is_coefficient.true))
    ((Coefficient-iff c.args.b).0 (told is_coefficient c.ranges.b c.is_coefficient-then-is_coefficient.ensures c.if-is_coefficient-2.true))
    (rw (to_z-of_z c.ranges.a, to_z-of_z fits_size, size) at c.of-f.ensures.factor)
    (rw (to_z-of_z c.ranges.a, to_z-of_z fits_size, size) at c.of-f.ensures.divisions))
