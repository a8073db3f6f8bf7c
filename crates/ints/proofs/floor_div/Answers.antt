-- `ints::floor_div` meets its contract: the facts are in Truncated.antt, and what is here takes the bits of the locals away.
use mathlib.Core.Path.{◌≡◌, ◌∙◌, ap₂}
use mathlib.Core.Bool.{true, false}
use mathlib.Core.List.{List, [], ◌∷◌}
use native.Mathlib.Omega.{arith}
use lib.IntN.{ℤ, pos}
use lib.Signed.{◌<ℤ◌, quot_z, rem_z, lt_z}
use mir.Syntax.{w64}
use mir.Val.{SFits}
use mir.Facts.{to_z-of_z}
use Rattle.ints.specs.Floor.{floor_div}
use Rattle.ints.proofs.Order.{lt_true, lt_false}
use Rattle.ints.proofs.Linear.{lin, ◌&◌}
use Rattle.ints.proofs.Signed.{held, signed}
use Rattle.ints.proofs.Truncated.{Within-quot, Within-rem, floor_same, floor_less, floor_same_neg, floor_less_neg}
use Rattle.ints.proofs.floor_div.Goals.{Start}
use Rattle.ints.proofs.floor_div.Goals as goal

-- with the bits of the locals taken away: each result fits, and what each test tells
module _ (s : Start) where
  abbrev n : ℤ
  n = s.args.n

  abbrev d : ℤ
  d = s.args.d

  abbrev ρ : List ℤ
  ρ = d ∷ quot_z n d ∷ rem_z n d ∷ floor_div n d ∷ []

  fits_q : SFits w64 (quot_z (held n) (held d))
  fits_q = lin ρ (Within-quot d s.requires.within) (search (signed, s.ranges.n, s.ranges.d) depth 20) (omega arith)

  fits_r : SFits w64 (rem_z (held n) (held d))
  fits_r = lin ρ (Within-rem d s.requires.within) (search (signed, s.ranges.n, s.ranges.d) depth 20) (omega arith)

  r_is : held (rem_z (held n) (held d)) ≡ rem_z n d
  r_is = to_z-of_z fits_r ∙ ap₂ rem_z (to_z-of_z s.ranges.n) (to_z-of_z s.ranges.d)

  positive : lt_z (pos 0) (held d) ≡ true → pos 0 <ℤ d
  positive t = lin ρ t (search (signed, s.ranges.d) depth 20) (omega arith)

  negative : lt_z (pos 0) (held d) ≡ false → d <ℤ pos 0
  negative t = lin ρ (t & s.requires.d_nonzero) (search (signed, s.ranges.d) depth 20) (omega arith)

pub overflow_sub-result : goal.overflow_sub-result
overflow_sub-result c = let s = (goal.at.overflow_sub-result c).Start in lin (ρ s) (Within-quot (d s) c.requires.within) (search (signed, c.ranges.n, c.ranges.d, fits_q s) depth 20) (omega arith)

pub overflow_sub-result-then-r-gt0 : goal.overflow_sub-result-then-r-gt0
overflow_sub-result-then-r-gt0 c = let s = (goal.at.overflow_sub-result-then-r-gt0 c).Start in lin (ρ s) (Within-quot (d s) c.requires.within) (search (signed, c.ranges.n, c.ranges.d, fits_q s) depth 20) (omega arith)

pub returns-then-r-lt0 : goal.returns-then-r-lt0
returns-then-r-lt0 c = let s = (goal.at.returns-then-r-lt0 c).Start in
    lin (ρ s) (floor_less (n s) (d s) (positive s c.if-d-gt0.true) ((lt_true (rem_z (n s) (d s)) (pos 0)).0 (rw (r_is s) at c.if-r-lt0.true)))
    (search (signed, c.ranges.n, c.ranges.d, fits_q s, overflow_sub-result c) depth 20) (omega arith)

pub returns-else-r-lt0 : goal.returns-else-r-lt0
returns-else-r-lt0 c = let s = (goal.at.returns-else-r-lt0 c).Start in
    lin (ρ s) (floor_same (n s) (d s) (positive s c.if-d-gt0.true) ((lt_false (rem_z (n s) (d s)) (pos 0)).0 (rw (r_is s) at c.if-r-lt0.false)))
    (search (signed, c.ranges.n, c.ranges.d, fits_q s) depth 20) (omega arith)

pub returns-then-r-gt0 : goal.returns-then-r-gt0
returns-then-r-gt0 c = let s = (goal.at.returns-then-r-gt0 c).Start in
    lin (ρ s) (floor_less_neg (n s) (d s) (negative s c.if-d-gt0.false) ((lt_true (pos 0) (rem_z (n s) (d s))).0 (rw (r_is s) at c.if-r-gt0.true)))
    (search (signed, c.ranges.n, c.ranges.d, fits_q s, overflow_sub-result-then-r-gt0 c) depth 20) (omega arith)

pub returns-else-r-gt0 : goal.returns-else-r-gt0
returns-else-r-gt0 c = let s = (goal.at.returns-else-r-gt0 c).Start in
    lin (ρ s) (floor_same_neg (n s) (d s) (negative s c.if-d-gt0.false) ((lt_false (pos 0) (rem_z (n s) (d s))).0 (rw (r_is s) at c.if-r-gt0.false)))
    (search (signed, c.ranges.n, c.ranges.d, fits_q s) depth 20) (omega arith)
