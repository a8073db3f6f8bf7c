-- `Congruence::class_by` meets its contract: CongruenceSolutions.antt has the facts of numbers, and what is here hands it the result
-- of each call.
use mathlib.Core.Path.{◌≡◌}
use mir.Syntax.{w64}
use mir.Val.{SFits}
use mir.Facts.{to_z-of_z}
use Rattle.ints.specs.Within.{Within}
use Rattle.ints.specs.Floor.{floor_div, floor_mod}
use Rattle.ints.specs.Division.{DivisionLimits, limit}
use Rattle.ints.proofs.{ℤ, pos, ◌*ℤ◌, ◌≤ℤ◌, ◌<ℤ◌, [], ◌∷◌, arith, lin, ◌&◌, facts, Within-mul}
use Rattle.ints.proofs.Signed.{held}
use Rattle.ints.proofs.Floor.{floor-Within, mod_range}
use Rattle.euclid.specs.Factor.{IsFactor}
use Rattle.ints.proofs.Answers.{fits_limit, asked, answered}
use Rattle.euclid.proofs.Euclid.{cofactor_range}
use Rattle.runs.proofs.CongruenceSolutions.{limits, period_range, every_by, limits_value, limits_modulus}
use Rattle.runs.proofs.congruence.Congruence.class_by.Goals.{After-quotient, After-quotient-step, After-remainder-x, After-remainder-y, Start}
use Rattle.runs.proofs.congruence.Congruence.class_by.Goals as goal

-- ---- the arguments
module _ (s : Start) where
  abbrev d : ℤ
  d = s.args.self.d

  abbrev v : ℤ
  v = s.args.self.v

  abbrev g : ℤ
  g = s.args.f.gcd

  abbrev x : ℤ
  x = s.args.f.cofactor

  factor : IsFactor s.args.self.u d g x
  factor = s.requires.factor

  above : pos 0 <ℤ d
  above = s.args.self.in_reach.above

  most : d ≤ℤ pos 2000000000
  most = s.args.self.in_reach.modulus

  limits_d : DivisionLimits d g
  limits_d = limits_modulus s.args.self.in_reach factor

  limits_v : DivisionLimits v g
  limits_v = limits_value s.args.self.in_reach factor

-- ---- the step
module _ (c : After-quotient-step) where
  abbrev start : Start
  start = (goal.at.After-quotient-step c).Start

  abbrev step : ℤ
  step = c.quotient-step.result

  step_is : step ≡ floor_div (d start) (g start)
  step_is = answered (limits_d start) floor_div c.quotient-step.ensures

  step_range : (pos 0 <ℤ step) × (step ≤ℤ pos 2000000000)
  step_range =
      lin (step ∷ d start ∷ floor_div (d start) (g start) ∷ [])
      (step_is & period_range (factor start) (above start) & most start)
      (search facts depth 20) (omega arith)

  limits_step : {n : ℤ} → Within limit n → DivisionLimits n step
  limits_step h = limits h step_range.0 step_range.1

  limits_x : DivisionLimits (x start) step
  limits_x = limits_step (lin (x start ∷ d start ∷ []) (cofactor_range (factor start) (above start) & most start) (search facts depth 20) (omega arith))

  -- what a division by the step leaves
  rest_Within : {r : ℤ} (n : ℤ) → r ≡ floor_mod n step → Within 2000000000 r
  rest_Within {r} n e = lin (r ∷ step ∷ floor_mod n step ∷ []) (e & mod_range n step step_range.0 & step_range) (search facts depth 20) (omega arith)

-- ---- the cofactor, reduced
module _ (c : After-remainder-x) where
  abbrev stepped : After-quotient-step
  stepped = (goal.at.After-remainder-x c).After-quotient-step

  abbrev t : ℤ
  t = c.remainder-x.result

  t_is : t ≡ floor_mod (x (start stepped)) (step stepped)
  t_is = answered (limits_x stepped) floor_mod c.remainder-x.ensures

-- ---- v divided by the greatest common divisor
module _ (c : After-quotient) where
  abbrev reduced : After-remainder-x
  reduced = (goal.at.After-quotient c).After-remainder-x

  abbrev origin : Start
  origin = start (stepped reduced)

  abbrev w : ℤ
  w = c.quotient.result

  w_is : w ≡ floor_div (v origin) (g origin)
  w_is = answered (limits_v origin) floor_div c.quotient.ensures

  limits_w : DivisionLimits w (step (stepped reduced))
  limits_w =
      let small : Within limit (floor_div (v origin) (g origin)) = floor-Within (v origin) (g origin) (limits_v origin).not_zero (limits_v origin).dividend in
      limits_step (stepped reduced) (lin (w ∷ floor_div (v origin) (g origin) ∷ []) (w_is & small) (search facts depth 20) (omega arith))

-- ---- that too, reduced
module _ (c : After-remainder-y) where
  abbrev shared : After-quotient
  shared = (goal.at.After-remainder-y c).After-quotient

  abbrev before : After-quotient-step
  before = stepped (reduced shared)

  abbrev t' : ℤ
  t' = t (reduced shared)

  abbrev y : ℤ
  y = c.remainder-y.result

  y_is : y ≡ floor_mod (w shared) (step before)
  y_is = answered (limits_w shared) floor_mod c.remainder-y.ensures

  t_Within : Within 2000000000 t'
  t_Within = rest_Within before (x (start before)) (t_is (reduced shared))

  y_Within : Within 2000000000 y
  y_Within = rest_Within before (w shared) y_is

  limits_p : DivisionLimits (t' *ℤ y) (step before)
  limits_p = limits_step before (Within-mul t_Within y_Within)

  fits_t : SFits w64 t'
  fits_t = record { sfits = (reduced shared).remainder-x.type_inv }

  fits_y : SFits w64 y
  fits_y = record { sfits = c.remainder-y.type_inv }

  first_is : {r : ℤ} → r ≡ floor_mod (held (held t' *ℤ held y)) (held (step before)) →
      r ≡ floor_mod (t' *ℤ y) (step before)
  first_is {r} e =
      let e' : r ≡ floor_mod (held (t' *ℤ y)) (held (step before)) = rw (to_z-of_z fits_t, to_z-of_z fits_y) at e in
      answered limits_p floor_mod e'

pub quotient-step-requires : goal.quotient-step-requires
quotient-step-requires c = asked (limits_d (goal.at.quotient-step-requires c).Start)

pub remainder-x-requires : goal.remainder-x-requires
remainder-x-requires c = asked (limits_x (goal.at.remainder-x-requires c).After-quotient-step)

pub quotient-requires : goal.quotient-requires
quotient-requires c = asked (limits_v (start (stepped (goal.at.quotient-requires c).After-remainder-x)))

pub remainder-y-requires : goal.remainder-y-requires
remainder-y-requires c = asked (limits_w c)

pub overflow_mul-x : goal.overflow_mul-x
overflow_mul-x c = rw (to_z-of_z (fits_t c), to_z-of_z (fits_y c)) (fits_limit (limits_p c).dividend)

pub remainder-requires : goal.remainder-requires
remainder-requires c = rw (to_z-of_z (fits_t c), to_z-of_z (fits_y c)) (asked (limits_p c))

pub returns : goal.returns
returns c = let r = (goal.at.returns c).After-remainder-y in
    let s = start (before r) in
    let fits_step : SFits w64 (step (before r)) = record { sfits = (before r).quotient-step.type_inv } in
    let fits_first : SFits w64 c.remainder.result = record { sfits = c.remainder.type_inv } in
    rw (to_z-of_z fits_step, to_z-of_z fits_first)
    (every_by (factor s) (above s) (v s) (step (before r)) (t' r) (w (shared r)) (y r) c.remainder.result s.requires.gcd
    (step_is (before r))
    (t_is (reduced (shared r)))
    (w_is (shared r))
    (y_is r)
    (first_is r c.remainder.ensures))
