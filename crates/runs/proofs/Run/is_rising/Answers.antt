-- `Run::is_rising` meets its contract.
use mathlib.Core.Path.{◌≡◌, sym, ◌∙◌, ap}
use mathlib.Core.Bool.{Bool, true, false, true≢false, false≢true}
use Prim.Native.Nat.{◌≤◌, ◌<◌}
use borrow.Author.Rules.{rules}
use mir.Syntax.{w64}
use mir.Val.{SFits, to_z}
use mir.Facts.{to_z-of_z}
use Rattle.ints.specs.Within.{Within, is_within}
use Rattle.ints.proofs.{ℤ, pos, ◌+ℤ◌, ◌-ℤ◌, ◌*ℤ◌, ◌≤ℤ◌, le_z, List, [], ◌∷◌, arith, lin, ◌&◌, facts, prod, signed}
use Rattle.ints.proofs.Within.{Within-true}
use Rattle.ints.proofs.Signed.{held, cast}
use Rattle.runs.specs.Run.{Run, OneForm, is_one_form, bound}
use Rattle.runs.specs.Method.{span}
use Rattle.runs.proofs.ClassOfRun.{first-Within, last_Within, sizes}
use Rattle.runs.proofs.Refusals.{when, OneForm-iff, rising_form}
use Rattle.runs.proofs.Run.is_rising.Goals.{Then-is_within, then-self-ge1, else-self-ge1, then-self-le2000000000, else-self-le2000000000}
use Rattle.runs.proofs.Run.is_rising.Goals as goal

-- not in the one form
not : (r : Run) → (OneForm r → ⊥) → false ≡ is_one_form r
not r h = when (OneForm-iff r) (λ e. absurd (false≢true e), λ o. absurd (h o))

module _ (r : Run) (two : 2 ≤ r.many) (fits_first : SFits w64 r.first) (fits_step : SFits w64 r.step) (many_fits : r.many < 4294967296) where
  one : 1 ≤ r.many
  one = omega arith

  flat : le_z (pos 1) (held r.step) ≡ false → false ≡ is_one_form r
  flat t = not r (λ o. lin (r.step ∷ []) (o.rises two & t) (search (signed, fits_step) depth 20) (omega arith))

  steep : le_z (held r.step) (pos 2000000000) ≡ false → false ≡ is_one_form r
  steep t = not r (λ o. lin (r.step ∷ []) ((sizes o one).step & t) (search (signed, fits_step) depth 20) (omega arith))

  outside : is_within bound (held r.first) ≡ false → false ≡ is_one_form r
  outside t = not r (λ o. true≢false (sym ((Within-true bound r.first).1 (first-Within o one)) ∙ ap (is_within bound) (sym (to_z-of_z fits_first)) ∙ t))

  -- past the tests
  module _ (low : le_z (pos 1) (held r.step) ≡ true) (high : le_z (held r.step) (pos 2000000000) ≡ true) (first : is_within bound (held r.first) ≡ true) where
    abbrev ρ : List ℤ
    ρ = r.first ∷ r.step ∷ pos r.many ∷ []

    abbrev m : ℤ
    m = pos r.many -ℤ pos 1

    up : (pos 1 ≤ℤ r.step) × (r.step ≤ℤ pos 2000000000)
    up = lin ρ (low & high) (search (signed, fits_step) depth 20) (omega arith)

    there : Within bound r.first
    there = (Within-true bound r.first).0 (ap (is_within bound) (sym (to_z-of_z fits_first)) ∙ first)

    m_range : (pos 0 ≤ℤ m) × (m ≤ℤ pos 4294967294)
    m_range = lin ρ (two & many_fits) (search facts depth 20) (omega arith)

    many_is : to_z w64 r.many ≡ pos r.many
    many_is = cast r.many (omega (arith, many_fits))

    fits_m : SFits w64 m
    fits_m = lin ρ m_range (search signed depth 20) (omega arith)

    -- at most 2·10⁹ · (2³² − 2), which is below 2⁶³ − 10⁹
    way : (pos 0 ≤ℤ (r.step *ℤ m)) × ((r.step *ℤ m) ≤ℤ pos 8589934588000000000)
    way =
        let zero-up : pos 0 ≤ℤ r.step = lin ρ up (search facts depth 20) (omega arith) in
        lin ρ (prod zero-up m_range.0 & prod up.1 m_range.0 & m_range & up) (search facts depth 20) (omega arith)

    fits_way : SFits w64 (r.step *ℤ m)
    fits_way = lin ρ way (search signed depth 20) (omega arith)

    fits_last : SFits w64 (r.first +ℤ r.step *ℤ m)
    fits_last = lin ρ (way & there) (search signed depth 20) (omega arith)

    last_asked : SFits w64 (held r.first +ℤ held (held r.step *ℤ held (to_z w64 r.many -ℤ pos 1)))
    last_asked = rw (many_is, to_z-of_z fits_first, to_z-of_z fits_step, to_z-of_z fits_m, to_z-of_z fits_way) fits_last

    last_is : held (held r.first +ℤ held (held r.step *ℤ held (to_z w64 r.many -ℤ pos 1))) ≡ (span r).high
    last_is = rw (many_is, to_z-of_z fits_first, to_z-of_z fits_step, to_z-of_z fits_m, to_z-of_z fits_way) (to_z-of_z fits_last)

    result_is : {t : Bool} → t ≡ is_within bound (held (held r.first +ℤ held (held r.step *ℤ held (to_z w64 r.many -ℤ pos 1)))) → t ≡ is_one_form r
    result_is e = e ∙ ap (is_within bound) last_is ∙ when (OneForm-iff r) (
      λ b. rising_form r two up.0 there ((Within-true bound (span r).high).0 b),
      λ o. (Within-true bound (span r).high).1 (last_Within o one),
    )

-- what the tests said
module _ (c : Then-is_within) where
  abbrev r : Run
  r = c.args.self

  passed : (le_z (pos 1) (held r.step) ≡ true) × (le_z (held r.step) (pos 2000000000) ≡ true) × (is_within bound (held r.first) ≡ true)
  passed = elim c.if-self-le2000000000.branch [
    | then-self-le2000000000 v ↦ elim c.if-self-ge1.branch [
      | then-self-ge1 w ↦ (w.if-self-ge1.true, sym w.value-is ∙ v.if-self-le2000000000.true, sym v.is_within.ensures ∙ sym v.value-is ∙ c.if-is_within.true)
      | else-self-ge1 w ↦ absurd (false≢true (sym w.if-self-ge1.false ∙ sym w.value-is ∙ v.if-self-le2000000000.true))
    ]
    | else-self-le2000000000 v ↦ absurd (false≢true (sym v.if-self-le2000000000.false ∙ sym v.value-is ∙ c.if-is_within.true))
  ]

pub overflow_add-self : goal.overflow_add-self
overflow_add-self c = let (low, high, first) = passed (goal.at.overflow_add-self c).Then-is_within in last_asked c.args.self c.requires (search rules) (search rules) (search rules) low high first

pub returns-then-is_within : goal.returns-then-is_within
returns-then-is_within c = let (low, high, first) = passed (goal.at.returns-then-is_within c).Then-is_within in
    result_is c.args.self c.requires (search rules) (search rules) (search rules) low high first c.is_within-then-is_within.ensures

pub returns-else-is_within : goal.returns-else-is_within
returns-else-is_within c = let fits_first : SFits w64 c.args.self.first = search rules in
    let fits_step : SFits w64 c.args.self.step = search rules in
    let many_fits : c.args.self.many < 4294967296 = search rules in
    c.if-is_within.false ∙ elim c.if-self-ge1.branch [
      | then-self-ge1 w ↦ elim c.if-self-le2000000000.branch [
        | then-self-le2000000000 v ↦ outside c.args.self c.requires fits_first fits_step many_fits (sym v.is_within.ensures ∙ sym v.value-is ∙ c.if-is_within.false)
        | else-self-le2000000000 v ↦ steep c.args.self c.requires fits_first fits_step many_fits (sym w.value-is ∙ v.if-self-le2000000000.false)
      ]
      | else-self-ge1 w ↦ flat c.args.self c.requires fits_first fits_step many_fits w.if-self-ge1.false
    ]
