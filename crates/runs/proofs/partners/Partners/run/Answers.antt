-- `Partners::run` meets its contract: it is `carry_by` of Method.antt, call by call.
use mathlib.Core.Path.{◌≡◌, sym, ◌∙◌, ap, ap₂}
use mathlib.Core.Bool.{Bool, true, false}
use mir.Syntax.{w64}
use mir.Val.{SFits, to_z}
use mir.Facts.{to_z-of_z}
use Rattle.ints.specs.Within.{Within}
use Rattle.ints.specs.Floor.{floor_div}
use Rattle.ints.specs.Division.{DivisionLimits, limit}
use Rattle.ints.proofs.{ℤ, pos, ◌-ℤ◌, ◌*ℤ◌, ◌≤ℤ◌, lt_z, [], ◌∷◌, arith, lin, ◌&◌, facts, signed}
use Rattle.ints.proofs.Signed.{held, cast}
use Rattle.ints.proofs.Answers.{fits_limit, asked, answered}
use Rattle.std.specs.Prelude.{Some}
use Rattle.runs.specs.Run.{Run, empty}
use Rattle.runs.specs.Workings.{Equation}
use Rattle.runs.specs.Method.{Class, Countable, Carriable, AllSolutions, places_with_partner, partners, last_place, more_in, rising, counted_run, carry_by}
use Rattle.runs.proofs.ClassOfRun.{sizes}
use Rattle.runs.proofs.SolutionPeriod.{period_above}
use Rattle.runs.proofs.CarryMethod.{carry_places, last_places, more_low, more_high, way_Within, lowest_Within, carry_Countable}
use Rattle.runs.proofs.Solved.{known}
use Rattle.runs.proofs.partners.Partners.run.Goals as goal

-- each number on the way, and that it fits
module _ {e : Equation} {q : Run} {j : Class} (p : Carriable e q × AllSolutions (places_with_partner e q) j) where
  many_is : to_z w64 q.many ≡ pos q.many
  many_is = cast q.many (lin (pos q.many ∷ []) (sizes p.0.form p.0.some).many (search facts depth 20) (omega arith))

  fits_last : SFits w64 (last_place q)
  fits_last = lin (pos q.many ∷ []) (sizes p.0.form p.0.some).many (search signed depth 20) (omega arith)

  fits_place : SFits w64 j.first
  fits_place = let k = carry_places p.0 p.1 in lin (j.first ∷ j.step ∷ []) (k.low & k.high & k.small) (search signed depth 20) (omega arith)

  abbrev last : ℤ
  last = held (to_z w64 q.many -ℤ pos 1)

  last_is : last ≡ last_place q
  last_is = rw many_is (to_z-of_z fits_last)

  test_is : {t : Bool} → lt_z last (held j.first) ≡ t → lt_z (last_place q) j.first ≡ t
  test_is test = ap₂ lt_z (sym last_is) (sym (to_z-of_z fits_place)) ∙ test

  past : lt_z last (held j.first) ≡ true → (r : Run) → r ≡ empty → r ≡ carry_by (Some j) e q
  past t r is = rw (test_is t) is

  -- the test was passed over
  module _ (test : lt_z last (held j.first) ≡ false) where
    room : j.first ≤ℤ last_place q
    room = lin (j.first ∷ pos q.many ∷ []) (test_is test) (search facts depth 20) (omega arith)

    abbrev rest : ℤ
    rest = last_place q -ℤ j.first

    limits_rest : DivisionLimits rest j.step
    limits_rest = record {
      dividend = lin (pos q.many ∷ j.first ∷ []) (last_places p.0 p.1 room) (search facts depth 20) (omega arith);
      divisor = let k = carry_places p.0 p.1 in lin (j.first ∷ j.step ∷ []) (k.low & k.high & k.small) (search facts depth 20) (omega arith);
      not_zero = λ z. lin (j.step ∷ []) (z & period_above p.1) (search facts depth 20) (omega arith);
    }

    rest_is : last -ℤ held j.first ≡ rest
    rest_is = ap₂ ◌-ℤ◌ last_is (to_z-of_z fits_place)

    limits_asked : DivisionLimits (held (last -ℤ held j.first)) (held j.step)
    limits_asked = rw rest_is (asked limits_rest)

    rest_asked : SFits w64 (last -ℤ held j.first)
    rest_asked = rw rest_is (fits_limit limits_rest.dividend)

    -- n is what the quotient gave
    module _ (n : ℤ) (d : n ≡ floor_div (held (last -ℤ held j.first)) (held j.step)) where
      n_is : n ≡ more_in q j
      n_is = let d' : n ≡ floor_div (held rest) (held j.step) = rw rest_is at d in answered limits_rest floor_div d'

      fits_more : SFits w64 (more_in q j)
      fits_more = lin (more_in q j ∷ []) (more_low p.0 p.1 room & more_high p.0 p.1 room) (search signed depth 20) (omega arith)

      held_n : held n ≡ more_in q j
      held_n = ap held n_is ∙ to_z-of_z fits_more

      -- c the class of the p, and u the same from the lowest on
      module _ (c : Class) (c-is : c ≡ partners e q j) where
        rising_asked : Within limit (c.step *ℤ held n) × Within limit (c.first -ℤ c.step *ℤ held n)
        rising_asked = rw (c-is, held_n) (way_Within p.0 p.1 room, lowest_Within p.0 p.1 room)

        module _ (u : Class) (u_is : u ≡ rising e c (held n)) where
          there : u ≡ rising e (partners e q j) (more_in q j)
          there = u_is ∙ ap₂ (rising e) c-is held_n

          Countable-asked : Countable u (held n)
          Countable-asked = rw (there, held_n) (carry_Countable p.0 p.1 room)

          result_is : (r : Run) → r ≡ counted_run u (held n) → r ≡ carry_by (Some j) e q
          result_is r is = rw (test_is test) (is ∙ ap₂ counted_run there held_n)

pub returns-then-last-self : goal.returns-then-last-self
returns-then-last-self c = past (known c.args.self) c.if-last-self.true c.empty.result c.empty.ensures

pub overflow_sub-last-2 : goal.overflow_sub-last-2
overflow_sub-last-2 c = rest_asked (known c.args.self) c.if-last-self.false

pub quotient-more-requires : goal.quotient-more-requires
quotient-more-requires c =
    limits_asked (known c.args.self) c.if-last-self.false

pub rising-requires : goal.rising-requires
rising-requires c =
    let both = rising_asked (known c.args.self) c.if-last-self.false c.quotient-more.result c.quotient-more.ensures c.class.result c.class.ensures in record { way = both.0; lowest = both.1 }

pub counted_run-requires : goal.counted_run-requires
counted_run-requires c =
    Countable-asked (known c.args.self) c.if-last-self.false c.quotient-more.result c.quotient-more.ensures c.class.result c.class.ensures c.rising.result c.rising.ensures

pub returns : goal.returns
returns c =
    result_is (known c.args.self) c.if-last-self.false c.quotient-more.result c.quotient-more.ensures c.class.result c.class.ensures c.rising.result c.rising.ensures
    c.counted_run.result c.counted_run.ensures
