-- `number` meets its contract: the member is one of the family, and so within the range.
use mathlib.Core.Path.{◌≡◌, sym, ◌∙◌, ap, ap₂, subst}
use Prim.Native.Nat.{ℕ, ◌≤◌, ◌<◌}
use mir.Syntax.{w64}
use mir.Val.{SFits, to_z}
use mir.Facts.{to_z-of_z}
use Rattle.ints.specs.Within.{Within}
use Rattle.ints.proofs.{ℤ, pos, ◌+ℤ◌, ◌*ℤ◌, ◌∷◌, [], arith, lin, facts, Within-mul}
use Rattle.ints.proofs.Signed.{held, cast}
use Rattle.runs.specs.declared.Run.{Run}
use Rattle.families.specs.FamilyRun.{FamilyRun}
use Rattle.families.specs.Family.{choice}
use Rattle.families.proofs.BestOfComponent.{choice_below}
use Rattle.families.proofs.FamilySizes.{member_Within, step-Within, many_within}
use Rattle.solver.proofs.In64Bits.{fits_64, held-first, held-step, crossable}
use Rattle.planner.proofs.choose.number.Goals.{After-choice}
use Rattle.planner.proofs.choose.number.Goals as goal

-- k is the index of the member that is chosen
module _ (r : Run) (slope : ℤ) (k : ℕ) (f : FamilyRun r) (some : 1 ≤ r.many) (e : k ≡ choice slope r.many) where
  below : k < r.many
  below = omega (arith, e, choice_below slope r.many some)

  small : Within 2000000000 (pos k)
  small = lin (pos k ∷ []) most (search facts depth 20) (omega arith)
    where
      most : k ≤ 2000000000
      most = omega (arith, below, many_within f)

  product : held r.step *ℤ to_z w64 k ≡ r.step *ℤ pos k
  product = ap₂ ◌*ℤ◌ (held-step (crossable f)) (cast k (omega (arith, below, many_within f)))

  fits_product : SFits w64 (r.step *ℤ pos k)
  fits_product = fits_64 4000000000000000000 (omega arith) (Within-mul (step-Within f) small)

  total : held r.first +ℤ held (held r.step *ℤ to_z w64 k) ≡ r.first +ℤ r.step *ℤ pos k
  total = ap₂ ◌+ℤ◌ (held-first (crossable f)) (ap held product ∙ to_z-of_z fits_product)

  fits_total : SFits w64 (r.first +ℤ r.step *ℤ pos k)
  fits_total = fits_64 1000000000 (omega arith) (member_Within f k below)

chosen : (c : After-choice) → c.choice.result ≡ choice c.args.slope c.args.run.many
chosen c = c.choice.ensures ∙ ap (λ g. choice g c.args.run.many) (to_z-of_z c.ranges.slope)

pub overflow_mul-result : goal.overflow_mul-result
overflow_mul-result c = let a = (goal.at.overflow_mul-result c).After-choice in
    subst (SFits w64) (sym (product c.args.run c.args.slope c.choice.result c.requires.family_run c.requires.not_empty (chosen a))) (fits_product c.args.run c.args.slope c.choice.result c.requires.family_run c.requires.not_empty (chosen a))

pub overflow_add-result : goal.overflow_add-result
overflow_add-result c = let a = (goal.at.overflow_add-result c).After-choice in
    subst (SFits w64) (sym (total c.args.run c.args.slope c.choice.result c.requires.family_run c.requires.not_empty (chosen a))) (fits_total c.args.run c.args.slope c.choice.result c.requires.family_run c.requires.not_empty (chosen a))

pub returns : goal.returns
returns c = let a = (goal.at.returns c).After-choice in
    ap held (total c.args.run c.args.slope c.choice.result c.requires.family_run c.requires.not_empty (chosen a)) ∙ to_z-of_z (fits_total c.args.run c.args.slope c.choice.result c.requires.family_run c.requires.not_empty (chosen a)) ∙ ap (λ k. c.args.run.first +ℤ c.args.run.step *ℤ pos k) (chosen a)
