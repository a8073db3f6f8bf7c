-- `Class::counted_run` meets its contract: where the first and the last number lie in the range, the members are those of
-- the clipped class.
use mathlib.Core.Path.{◌≡◌, ◌∙◌, ap, ap₂}
use mathlib.Core.Bool.{true}
use native.Mathlib.Omega.{arith}
use mir.Syntax.{w64}
use mir.Val.{SFits}
use mir.Facts.{to_z-of_z}
use lib.Signed.{le_z}
use Rattle.ints.proofs.{ℤ, pos, negsuc, nat_abs, ◌+ℤ◌, ◌*ℤ◌, ◌≤ℤ◌, [], ◌∷◌, lin, ◌&◌, facts, signed}
use Rattle.ints.proofs.Signed.{held}
use Rattle.ints.proofs.Answers.{fits_limit}
use Rattle.runs.specs.Run.{Run, full}
use Rattle.runs.specs.Method.{Class, Interval, Clippable, Countable, common, span, clip, counted, progression, counted_run}
use Rattle.runs.proofs.Intervals.{same_interval}
use Rattle.runs.proofs.CountedClass.{countable_fair, all_in_range}
use Rattle.runs.proofs.class.Class.counted_run.Goals as goal

-- each number on the way, and that it fits
module _ (c : Class) (n : ℤ) (k : Countable c n) where
  fits_first : SFits w64 c.first
  fits_first = lin (c.first ∷ []) k.first (search signed depth 20) (omega arith)

  fits_step : SFits w64 c.step
  fits_step = fits_limit k.step

  fits_n : SFits w64 n
  fits_n = lin (n ∷ []) (k.low & k.high) (search signed depth 20) (omega arith)

  fits_way : SFits w64 (c.step *ℤ n)
  fits_way = lin (c.first ∷ c.step ∷ n ∷ []) (k.first & k.last) (search signed depth 20) (omega arith)

  fits_last : SFits w64 (c.first +ℤ c.step *ℤ n)
  fits_last = lin (c.first ∷ c.step ∷ n ∷ []) k.last (search signed depth 20) (omega arith)

  abbrev last : ℤ
  last = held (held c.first +ℤ held (held c.step *ℤ held n))

  last_is : last ≡ c.first +ℤ c.step *ℤ n
  last_is = rw (to_z-of_z fits_first, to_z-of_z fits_step, to_z-of_z fits_n, to_z-of_z fits_way) (to_z-of_z fits_last)

  all_is : le_z (negsuc 999999999) (held c.first) ≡ true → le_z last (pos 1000000000) ≡ true → (r : Run) → r ≡ progression (held c.first) (held c.step) (nat_abs (held n)) → r ≡ counted_run c n
  all_is l h r is = is ∙ rw (to_z-of_z fits_first, to_z-of_z fits_step, to_z-of_z fits_n) (all_in_range k low high)
    where
      low : negsuc 999999999 ≤ℤ c.first
      low = lin (c.first ∷ []) l (search (signed, fits_first) depth 20) (omega arith)

      high : (c.first +ℤ c.step *ℤ n) ≤ℤ pos 1000000000
      high = let h' : le_z (c.first +ℤ c.step *ℤ n) (pos 1000000000) ≡ true = rw last_is at h in lin (c.first ∷ c.step ∷ n ∷ []) h' (search facts depth 20) (omega arith)

  -- i is what the count and the range have in common
  module _ (f : Run) (f-is : f ≡ full) (w : Interval) (w_is : w ≡ span f) (i : Interval) (i-is : i ≡ common (record { low = held c.first; high = last }) w) where
    there : i ≡ common (counted c n) (span full)
    there = i-is ∙ ap₂ common (same_interval (to_z-of_z fits_first) last_is) (w_is ∙ ap span f-is)

    clip_asked : Clippable c i
    clip_asked = rw there (countable_fair k)

    clipped_is : (r : Run) → r ≡ clip c i → r ≡ counted_run c n
    clipped_is r is = is ∙ ap (clip c) there

pub returns-then-last-le1000000000 : goal.returns-then-last-le1000000000
returns-then-last-le1000000000 c = all_is c.args.self c.args.more c.requires c.if-self-geminus1000000000.true c.if-last-le1000000000.true c.progression.result c.progression.ensures

pub clip-requires : goal.clip-requires
clip-requires c = clip_asked c.args.self c.args.more c.requires c.full.result c.full.ensures c.span.result c.span.ensures c.common.result c.common.ensures

pub returns : goal.returns
returns c = clipped_is c.args.self c.args.more c.requires c.full.result c.full.ensures c.span.result c.span.ensures c.common.result c.common.ensures
    c.clip.result c.clip.ensures
