-- `Class::clip` meets its contract.
use mathlib.Core.Path.{◌≡◌, refl, sym, ◌∙◌, ap, ap₂}
use mathlib.Core.Bool.{Bool, true, false}
use Prim.Native.Nat.{◌≤◌}
use borrow.Author.Rules.{rules}
use lib.Dec.{T}
use lib.Signed.{non_neg, yes_non_neg}
use mir.Syntax.{w32, w64}
use mir.Val.{Fits, SFits}
use mir.Facts.{to_z-of_z}
use Rattle.ints.specs.Floor.{floor_div, floor_mod}
use Rattle.ints.specs.Division.{DivisionLimits}
use Rattle.ints.proofs.{ℤ, pos, nat_abs, ◌+ℤ◌, ◌-ℤ◌, ◌*ℤ◌, ◌≤ℤ◌, ◌<ℤ◌, lt_z, List, [], ◌∷◌, arith, lin, ◌&◌, facts, prod, signed}
use Rattle.ints.proofs.Signed.{held}
use Rattle.ints.proofs.Order.{abs_nonneg}
use Rattle.ints.proofs.Floor.{mod_range, floor_range}
use Rattle.runs.specs.Run.{Run, empty}
use Rattle.runs.specs.Method.{Class, Interval, Clippable, lowest_in, steps, progression, clip}
use Rattle.runs.proofs.ClassInInterval.{steps_nonneg}
use Rattle.ints.proofs.Answers.{asked, answered, fits_limit}
use Rattle.runs.proofs.class.Class.clip.Goals as goal

-- each number on the way, and that it fits
module _ (c : Class) (i : Interval) (fair : Clippable c i) where
  abbrev apart : ℤ
  apart = c.first -ℤ i.low

  fits_first : SFits w64 c.first
  fits_first = lin (c.first ∷ i.low ∷ []) (fair.distance & fair.start) (search signed depth 20) (omega arith)

  fits_low : SFits w64 i.low
  fits_low = fits_limit fair.start

  limits_apart : DivisionLimits apart c.step
  limits_apart = record { dividend = fair.distance; divisor = fair.step; not_zero = lin (c.step ∷ []) fair.moves (search facts depth 20) (omega arith) }

  -- m is what the remainder gave
  module _ (m : ℤ) (e : m ≡ floor_mod (held (held c.first -ℤ held i.low)) (held c.step)) where
    m_is : m ≡ floor_mod apart c.step
    m_is =
        let e' : m ≡ floor_mod (held apart) (held c.step) = rw (to_z-of_z fits_first, to_z-of_z fits_low) at e in
        answered limits_apart floor_mod e'

    m_range : (pos 0 ≤ℤ m) × (m <ℤ c.step)
    m_range = rw m_is (mod_range apart c.step fair.moves)

    fits_m : SFits w64 m
    fits_m = lin (m ∷ c.step ∷ []) (m_range & fair.step) (search signed depth 20) (omega arith)

    fits_lowest : SFits w64 (i.low +ℤ m)
    fits_lowest = lin (m ∷ c.step ∷ i.low ∷ []) (m_range & fair.step & fair.start) (search signed depth 20) (omega arith)

    abbrev L : ℤ
    L = held (held i.low +ℤ held m)

    lowest_asked : SFits w64 (held i.low +ℤ held m)
    lowest_asked = rw (to_z-of_z fits_low, to_z-of_z fits_m) fits_lowest

    L_is : L ≡ lowest_in c i
    L_is = to_z-of_z lowest_asked ∙ ap₂ ◌+ℤ◌ (to_z-of_z fits_low) (to_z-of_z fits_m ∙ m_is)

    module _ (fits_high : SFits w64 i.high) where
      test_is : {b : Bool} → lt_z (held i.high) L ≡ b → lt_z i.high (lowest_in c i) ≡ b
      test_is t = ap₂ lt_z (sym (to_z-of_z fits_high)) (sym L_is) ∙ t

      none : (r : Run) → r ≡ empty → lt_z (held i.high) L ≡ true → r ≡ clip c i
      none r z t = rw (test_is t) z

      -- the test was passed over
      module _ (t : lt_z (held i.high) L ≡ false) where
        abbrev rest : ℤ
        rest = i.high -ℤ lowest_in c i

        abbrev ρ : List ℤ
        ρ = i.low ∷ i.high ∷ lowest_in c i ∷ c.step ∷ steps c i ∷ []

        room : lowest_in c i ≤ℤ i.high
        room = lin (i.high ∷ lowest_in c i ∷ []) (test_is t) (search facts depth 20) (omega arith)

        over : i.low ≤ℤ lowest_in c i
        over = lin (i.low ∷ floor_mod apart c.step ∷ []) (mod_range apart c.step fair.moves).0 (search facts depth 20) (omega arith)

        limits_rest : DivisionLimits rest c.step
        limits_rest = record {
          dividend = lin ρ (room & over & fair.low & fair.high) (search facts depth 20) (omega arith);
          divisor = fair.step;
          not_zero = lin ρ fair.moves (search facts depth 20) (omega arith);
        }

        rest_is : held i.high -ℤ L ≡ rest
        rest_is = ap₂ ◌-ℤ◌ (to_z-of_z fits_high) L_is

        rest_asked : SFits w64 (held i.high -ℤ L)
        rest_asked = rw rest_is (fits_limit limits_rest.dividend)

        quotient_asked : DivisionLimits (held (held i.high -ℤ L)) (held c.step)
        quotient_asked = rw rest_is (asked limits_rest)

        -- n is what the quotient gave
        module _ (n : ℤ) (d : n ≡ floor_div (held (held i.high -ℤ L)) (held c.step)) where
          n_is : n ≡ steps c i
          n_is =
              let e' : n ≡ floor_div (held rest) (held c.step) = rw rest_is at d in
              answered limits_rest floor_div e'

          n_low : pos 0 ≤ℤ n
          n_low = rw n_is (steps_nonneg c i fair room)

          n_high : n ≤ℤ pos 2000000000
          n_high =
              let one : pos 1 ≤ℤ c.step = lin (c.step ∷ []) fair.moves (search facts depth 20) (omega arith) in
              lin (n ∷ ρ) (n_is & prod one n_low & n_low & (floor_range rest c.step fair.moves).0 & ap (λ t. c.step *ℤ t) n_is & over & fair.low & fair.high) (search facts depth 20) (omega arith)

          fits_n : SFits w64 n
          fits_n = lin (n ∷ []) (n_low & n_high) (search signed depth 20) (omega arith)

          n_small : nat_abs n ≤ 2000000000
          n_small = lin (n ∷ pos (nat_abs n) ∷ []) (abs_nonneg n n_low & n_high) (search facts depth 20) (omega arith)

          cast_asked : T (non_neg (held n)) × Fits w32 (nat_abs (held n))
          cast_asked = rw (to_z-of_z fits_n) (yes_non_neg n_low, record { fits = omega (arith, n_small) })

          small_asked : nat_abs (held n) ≤ 2000000000
          small_asked = rw (to_z-of_z fits_n) n_small

          some : (r : Run) → r ≡ progression L (held c.step) (nat_abs (held n)) → r ≡ clip c i
          some r z = rw (test_is t) (z ∙ whole)
            where
              whole : progression L (held c.step) (nat_abs (held n)) ≡ progression (lowest_in c i) c.step (nat_abs (steps c i))
              whole = rw (to_z-of_z fits_n, to_z-of_z (fits_limit fair.step), n_is, L_is) refl

pub overflow_add-lowest : goal.overflow_add-lowest
overflow_add-lowest c = lowest_asked c.args.self c.args.to c.requires c.remainder.result c.remainder.ensures

pub returns-then-to-lowest : goal.returns-then-to-lowest
returns-then-to-lowest c = none c.args.self c.args.to c.requires c.remainder.result c.remainder.ensures
    (search rules) c.empty.result c.empty.ensures c.if-to-lowest.true

pub overflow_sub-to : goal.overflow_sub-to
overflow_sub-to c =
    rest_asked c.args.self c.args.to c.requires c.remainder.result c.remainder.ensures (search rules) c.if-to-lowest.false

pub quotient-steps-requires : goal.quotient-steps-requires
quotient-steps-requires c =
    quotient_asked c.args.self c.args.to c.requires c.remainder.result c.remainder.ensures (search rules) c.if-to-lowest.false

pub overflow_cast-steps : goal.overflow_cast-steps
overflow_cast-steps c =
    cast_asked c.args.self c.args.to c.requires c.remainder.result c.remainder.ensures (search rules) c.if-to-lowest.false
    c.quotient-steps.result c.quotient-steps.ensures

pub progression-requires : goal.progression-requires
progression-requires c =
    small_asked c.args.self c.args.to c.requires c.remainder.result c.remainder.ensures (search rules) c.if-to-lowest.false
    c.quotient-steps.result c.quotient-steps.ensures

pub returns : goal.returns
returns c =
    some c.args.self c.args.to c.requires c.remainder.result c.remainder.ensures (search rules) c.if-to-lowest.false
    c.quotient-steps.result c.quotient-steps.ensures c.progression.result c.progression.ensures
