-- `Run::is_one_form` meets its contract.
use mathlib.Core.Path.{◌≡◌, sym, ◌∙◌, ap}
use mathlib.Core.Bool.{Bool}
use native.Mathlib.Omega.{arith}
use borrow.Author.Rules.{rules}
use lib.Dec.{eqb}
use lib.IntN.{ℤ, pos}
use mir.Syntax.{w64}
use mir.Val.{SFits, to_z, of_z}
use mir.Facts.{to_z-of_z}
use Rattle.ints.specs.Within.{is_within}
use Rattle.ints.proofs.Equal.{equal_true}
use Rattle.ints.proofs.Within.{Within-true}
use Rattle.ints.proofs.Signed.{held, bits_zero}
use Rattle.runs.specs.Run.{Run, is_one_form, bound}
use Rattle.runs.proofs.ClassOfRun.{first-Within}
use Rattle.runs.proofs.Refusals.{when, OneForm-iff, single_form, none_form}
use Rattle.runs.proofs.Run.is_one_form.Goals as goal

zero_is : {x : ℤ} → SFits w64 x → of_z w64 x ≡ 0 → x ≡ pos 0
zero_is f z = sym (to_z-of_z f) ∙ ap (to_z w64) z

-- of no number and of one
module _ (r : Run) (fits_first : SFits w64 r.first) (fits_step : SFits w64 r.step) where
  none_is : r.many ≡ 0 → of_z w64 r.first ≡ 0 → eqb (of_z w64 r.step) 0 ≡ is_one_form r
  none_is e z = bits_zero w64 r.step fits_step ∙ when (OneForm-iff r) (
    λ t. none_form r e (zero_is fits_first z) ((equal_true r.step (pos 0)).0 t),
    λ o. (equal_true r.step (pos 0)).1 (o.empty e).1,
  )

  single_is : r.many ≡ 1 → of_z w64 r.step ≡ 0 → {t : Bool} → t ≡ is_within bound (held r.first) → t ≡ is_one_form r
  single_is one z is = is ∙ ap (is_within bound) (to_z-of_z fits_first) ∙ when (OneForm-iff r) (
    λ b. single_form r one (zero_is fits_step z) ((Within-true bound r.first).0 b),
    λ o. (Within-true bound r.first).1 (first-Within o (omega (arith, one))),
  )

pub returns-then-self-eq0 : goal.returns-then-self-eq0
returns-then-self-eq0 c = none_is c.args.self (search rules) (search rules) c.in-0.is c.if-self-eq0.true

pub returns-then-self-eq0-2 : goal.returns-then-self-eq0-2
returns-then-self-eq0-2 c = single_is c.args.self (search rules) (search rules) c.in-1.is c.if-self-eq0-2.true c.is_within.ensures
