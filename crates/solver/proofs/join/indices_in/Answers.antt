-- `indices_in` meets its contract.
use mathlib.Core.Path.{◌≡◌, refl}
use mir.Syntax.{w64}
use mir.Val.{SFits}
use mir.Facts.{to_z-of_z}
use Rattle.ints.specs.Within.{Within}
use Rattle.ints.proofs.{ℤ, ◌-ℤ◌, [], ◌∷◌, arith, lin, ◌&◌, facts}
use Rattle.ints.proofs.Signed.{held}
use Rattle.runs.specs.declared.Run.{Run}
use Rattle.families.specs.FamilyRun.{ratio}
use Rattle.families.specs.Model.{indices_in}
use Rattle.solver.specs.Widths.{Crossable}
use Rattle.solver.proofs.In64Bits.{fits_64, held-first, held-step}
use Rattle.solver.proofs.join.indices_in.Goals as goal

module _ (r R : Run) (w : Crossable r × Crossable R) where
  way_Within : Within 2000000000 (R.first -ℤ r.first)
  way_Within = lin (r.first ∷ R.first ∷ []) (w.0.first & w.1.first) (search facts depth 20) (omega arith)

  fits_way : SFits w64 (R.first -ℤ r.first)
  fits_way = fits_64 2000000000 (omega arith) way_Within

  result : (f s : ℤ) → SFits w64 f → SFits w64 s → f ≡ ratio (held (held R.first -ℤ held r.first)) (held r.step) → s ≡ ratio (held R.step) (held r.step) →
      ◌≡◌ {A = Run} record { first = held f; step = held s; many = R.many } (indices_in r R)
  result f s g h e d =
      let e' : f ≡ ratio (R.first -ℤ r.first) r.step = rw (held-first w.1, held-first w.0, to_z-of_z fits_way, held-step w.0) at e in
      let d' : s ≡ ratio R.step r.step = rw (held-step w.1, held-step w.0) at d in
      rw (to_z-of_z g, to_z-of_z h, e', d') refl

pub returns : goal.returns
returns c = result c.args.r c.args.numbers (c.requires.family_crossable, c.requires.numbers_crossable) c.ratio.result c.ratio-2.result record { sfits = c.ratio.type_inv } record { sfits = c.ratio-2.type_inv }
    c.ratio.ensures c.ratio-2.ensures
