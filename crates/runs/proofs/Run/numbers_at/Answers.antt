-- `Run::numbers_at` meets its contract: a stride of at most 2·10⁹ at a place below 2·10⁹.
use mathlib.Core.Path.{◌≡◌, ap}
use Prim.Native.Nat.{◌≤◌}
use mir.Syntax.{w64}
use mir.Val.{SFits}
use mir.Facts.{to_z-of_z}
use Rattle.ints.proofs.{ℤ, pos, ◌+ℤ◌, ◌*ℤ◌, ◌≤ℤ◌, List, [], ◌∷◌, arith, lin, ◌&◌, facts, prod, signed}
use Rattle.ints.proofs.Signed.{held}
use Rattle.runs.specs.Run.{Run, OneForm}
use Rattle.runs.specs.Method.{Class, Places, stride, numbers_at}
use Rattle.runs.proofs.ClassOfRun.{first-Within, stride_above, stride_within}
use Rattle.runs.proofs.Run.numbers_at.Goals as goal

-- each number on the way, and that it fits; s is the stride
module _ (r : Run) (i : Class) (p : OneForm r × ((1 ≤ r.many) × Places i)) (s : ℤ) (is : s ≡ stride r) where
  abbrev ρ : List ℤ
  ρ = r.first ∷ s ∷ stride r ∷ i.first ∷ i.step ∷ []

  above : pos 1 ≤ℤ s
  above = lin ρ (is & stride_above p.0 p.1.0) (search facts depth 20) (omega arith)

  most : s ≤ℤ pos 2000000000
  most = lin ρ (is & stride_within p.0 p.1.0) (search facts depth 20) (omega arith)

  fits_first : SFits w64 r.first
  fits_first = lin ρ (first-Within p.0 p.1.0) (search signed depth 20) (omega arith)

  fits_s : SFits w64 s
  fits_s = lin ρ (above & most) (search signed depth 20) (omega arith)

  fits_place : SFits w64 i.first
  fits_place = lin ρ (p.1.1.low & p.1.1.high & p.1.1.small) (search signed depth 20) (omega arith)

  fits_period : SFits w64 i.step
  fits_period = lin ρ (p.1.1.low & p.1.1.high & p.1.1.small) (search signed depth 20) (omega arith)

  -- s·place and s·period
  reach : {x : ℤ} → pos 0 ≤ℤ x → x ≤ℤ pos 2000000000 → (pos 0 ≤ℤ (s *ℤ x)) × ((s *ℤ x) ≤ℤ pos 4000000000000000000)
  reach {x} a b =
      let low : pos 0 ≤ℤ s = lin ρ above (search facts depth 20) (omega arith) in
      lin (s ∷ x ∷ []) (prod low a & prod low b & most & b) (search facts depth 20) (omega arith)

  way : (pos 0 ≤ℤ (s *ℤ i.first)) × ((s *ℤ i.first) ≤ℤ pos 4000000000000000000)
  way = reach p.1.1.low (lin ρ (p.1.1.high & p.1.1.small) (search facts depth 20) (omega arith))

  fits_way : SFits w64 (s *ℤ i.first)
  fits_way = lin ρ way (search signed depth 20) (omega arith)

  fits_start : SFits w64 (r.first +ℤ s *ℤ i.first)
  fits_start = lin ρ (way & first-Within p.0 p.1.0) (search signed depth 20) (omega arith)

  fits_stride : SFits w64 (s *ℤ i.step)
  fits_stride =
      let k : (pos 0 ≤ℤ (s *ℤ i.step)) × ((s *ℤ i.step) ≤ℤ pos 4000000000000000000) = reach (lin ρ (p.1.1.low & p.1.1.high) (search facts depth 20) (omega arith)) p.1.1.small in
      lin ρ k (search signed depth 20) (omega arith)

  -- as the checker asks for them
  way_asked : SFits w64 (held s *ℤ held i.first)
  way_asked = rw (to_z-of_z fits_s, to_z-of_z fits_place) fits_way

  start_asked : SFits w64 (held r.first +ℤ held (held s *ℤ held i.first))
  start_asked = rw (to_z-of_z fits_first, to_z-of_z fits_s, to_z-of_z fits_place, to_z-of_z fits_way) fits_start

  stride_asked : SFits w64 (held s *ℤ held i.step)
  stride_asked = rw (to_z-of_z fits_s, to_z-of_z fits_period) fits_stride

  class_is : record { first = held (held r.first +ℤ held (held s *ℤ held i.first)); step = held (held s *ℤ held i.step) } ≡ numbers_at r i
  class_is = rw (to_z-of_z start_asked, to_z-of_z stride_asked, to_z-of_z fits_first, to_z-of_z way_asked, to_z-of_z fits_s, to_z-of_z fits_place, to_z-of_z fits_period) (ap (λ t. record { first = r.first +ℤ t *ℤ i.first; step = t *ℤ i.step }) is)

pub overflow_mul-result : goal.overflow_mul-result
overflow_mul-result c = way_asked c.args.self c.args.places (c.requires.one_form, (c.requires.not_empty, c.requires.places)) c.stride-s.result c.stride-s.ensures

pub overflow_add-result : goal.overflow_add-result
overflow_add-result c = start_asked c.args.self c.args.places (c.requires.one_form, (c.requires.not_empty, c.requires.places)) c.stride-s.result c.stride-s.ensures

pub overflow_mul-result-2 : goal.overflow_mul-result-2
overflow_mul-result-2 c = stride_asked c.args.self c.args.places (c.requires.one_form, (c.requires.not_empty, c.requires.places)) c.stride-s.result c.stride-s.ensures

pub returns : goal.returns
returns c = class_is c.args.self c.args.places (c.requires.one_form, (c.requires.not_empty, c.requires.places)) c.stride-s.result c.stride-s.ensures
