-- `Factor::of` meets its contract: for a negative a, the sign of the cofactor is turned.
use borrow.Author.Rules.{rules}
use mir.Syntax.{w64}
use mir.Val.{SFits}
use mir.Facts.{to_z-of_z}
use Rattle.ints.proofs.{pos, ◌-ℤ◌, [], ◌∷◌, arith, lin, ◌&◌, signed}
use Rattle.euclid.specs.Factor.{IsFactor}
use Rattle.euclid.proofs.Euclid.{turned, cofactor_range}
use Rattle.euclid.proofs.Factor.of.Goals as goal

pub returns-then-a-lt0-clause-factor : goal.returns-then-a-lt0-clause-factor
returns-then-a-lt0-clause-factor c =
    let f = c.of_size-f.result in
    let fits_a : SFits w64 (pos 0 -ℤ c.args.a) = lin (c.args.a ∷ []) c.requires.first (search signed depth 20) (omega arith) in
    let factor : IsFactor (pos 0 -ℤ c.args.a) c.args.b f.gcd f.cofactor = rw (to_z-of_z c.ranges.a, to_z-of_z c.ranges.b, to_z-of_z fits_a) at c.of_size-f.ensures.factor in
    let fits_g : SFits w64 f.gcd = search rules in
    let fits_x : SFits w64 f.cofactor = search rules in
    let fits_turned : SFits w64 (pos 0 -ℤ f.cofactor) = lin (f.cofactor ∷ c.args.b ∷ []) (cofactor_range factor c.requires.second_above & c.requires.second_small) (search signed depth 20) (omega arith) in
    rw (to_z-of_z fits_g, to_z-of_z fits_x, to_z-of_z fits_turned) (turned factor)
