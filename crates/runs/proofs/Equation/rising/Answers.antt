-- `Equation::rising` meets its contract.
use mathlib.Core.Path.{◌≡◌, refl, sym, ◌∙◌, ap}
use mathlib.Core.Bool.{Bool, true}
use mir.Syntax.{w64}
use mir.Val.{SFits}
use mir.Facts.{to_z-of_z}
use Rattle.ints.specs.Within.{Within}
use Rattle.ints.specs.Division.{limit}
use Rattle.ints.proofs.{ℤ, pos, ◌-ℤ◌, ◌*ℤ◌, lt_z}
use Rattle.ints.proofs.Signed.{held}
use Rattle.ints.proofs.Answers.{fits_limit}
use Rattle.runs.specs.Workings.{Equation}
use Rattle.runs.specs.Method.{Class, falls, rising}
use borrow.Author.Rules.{rules}
use Rattle.runs.proofs.Equation.rising.Goals as goal

test_is : (e : Equation) → SFits w64 e.b → {t : Bool} → lt_z (pos 0) (held e.b) ≡ t → falls e ≡ t
test_is e fits h = ap (lt_z (pos 0)) (sym (to_z-of_z fits)) ∙ h

-- each number on the way, and that it fits
module _ (p : Class) (n : ℤ) (w : Within limit (p.step *ℤ n) × Within limit (p.first -ℤ p.step *ℤ n)) (fits_first : SFits w64 p.first) (fits_step : SFits w64 p.step) (fits_n : SFits w64 n) where
  lowest_asked : SFits w64 (held p.first -ℤ held (held p.step *ℤ held n))
  lowest_asked = rw (to_z-of_z fits_first, to_z-of_z fits_step, to_z-of_z fits_n, to_z-of_z (fits_limit w.0)) (fits_limit w.1)

  turned_is : (e : Equation) → falls e ≡ true → record { first = held (held p.first -ℤ held (held p.step *ℤ held n)); step = held p.step } ≡ rising e p n
  turned_is e t = rw (t, to_z-of_z fits_first, to_z-of_z fits_step, to_z-of_z fits_n, to_z-of_z (fits_limit w.0), to_z-of_z (fits_limit w.1)) refl

pub overflow_sub-result : goal.overflow_sub-result
overflow_sub-result c = lowest_asked c.args.p c.args.more (c.requires.way, c.requires.lowest) (search rules) (search rules) c.ranges.more

pub returns-then-self-gt0 : goal.returns-then-self-gt0
returns-then-self-gt0 c = turned_is c.args.p c.args.more (c.requires.way, c.requires.lowest) (search rules) (search rules) c.ranges.more
    c.args.self (test_is c.args.self (search rules) c.if-self-gt0.true)
