-- The method, as what the inner functions promise. Nothing here has to be believed, since the workings are proved equal
-- to Search.antt; it says how they get there: a run is the part of a residue class from a lowest to a highest number, so
-- two runs meet, and a run is carried, where a congruence is solved and an interval is clipped.
use Rattle.std.specs.Prelude.{◌↔◌, Bool, cond, ℕ, zero, suc, ◌≤◌, ℤ, pos, neg_ℤ, nat_abs, ◌+ℤ◌, ◌-ℤ◌, ◌*ℤ◌, ◌≤ℤ◌, ◌<ℤ◌}
use Rattle.std.specs.Int.{int_max, int_min}
use Rattle.std.specs.Int.Signed.{lt_z}
use Rattle.ints.specs.Within.{Within}
use Rattle.ints.specs.Floor.{floor_div, floor_mod}
use Rattle.ints.specs.Divides.{Congruent}
use Rattle.ints.specs.Division.{limit}
use Rattle.runs.specs.Run.{Run, OneForm, empty, full, bound}
use Rattle.runs.specs.Workings.{Equation, CarryLimits}
pub use Rattle.runs.specs.declared.class.Class.{Class}
pub use Rattle.runs.specs.declared.class.Interval.{Interval}
use Rattle.runs.specs.declared.congruence.Congruence as code
pub use Rattle.runs.specs.Reach.{InReach}
use Rattle.std.specs.Prelude.{Option, Some, None}

-- ---- u·i ≡ v (mod d)
pub record Congruence : Type 0 where
  pub u : ℤ
  pub v : ℤ
  pub d : ℤ

-- that of the struct, which is within reach
abbrev pub congruence_by : code.Congruence → Congruence
congruence_by s = record { u = s.u; v = s.v; d = s.d }

-- every solution: those of a class, whose first number is the least that is not negative
pub record AllSolutions (s : Congruence) (c : Class) : Type 0 where
  pub low : pos 0 ≤ℤ c.first
  pub high : c.first <ℤ c.step
  pub all : (i : ℤ) → Congruent s.d (s.u *ℤ i) s.v ↔ Congruent c.step i c.first

abbrev pub Solves : Congruence → Option Class → Type 0
Solves s None = (i : ℤ) → Congruent s.d (s.u *ℤ i) s.v → ⊥
Solves s (Some c) = AllSolutions s c

-- ---- intervals
pub record InInterval (i : Interval) (x : ℤ) : Type 0 where
  pub low : i.low ≤ℤ x
  pub high : x ≤ℤ i.high

abbrev pub common : Interval → Interval → Interval
common i j = record { low = int_max i.low j.low; high = int_min i.high j.high }

-- ---- a run of one number or more: a class from a lowest to a highest number
-- the step, and 1 where there is a single number: for that any modulus will do, and it needs no case of its own
abbrev pub stride_of : ℤ → ℕ → ℤ
stride_of step zero = step
stride_of step (suc zero) = pos 1
stride_of step (suc (suc n)) = step

abbrev pub stride : Run → ℤ
stride r = stride_of r.step r.many

-- from the first to the last number
abbrev pub span : Run → Interval
span r = record { low = r.first; high = r.first +ℤ r.step *ℤ (pos r.many -ℤ pos 1) }

-- ---- the members of a class in an interval
-- the lowest that is not below it
abbrev pub lowest_in : Class → Interval → ℤ
lowest_in c i = i.low +ℤ floor_mod (c.first -ℤ i.low) c.step

-- how many steps from there to the highest
abbrev pub steps : Class → Interval → ℤ
steps c i = floor_div (i.high -ℤ lowest_in c i) c.step

-- the run of n + 1 numbers in its one form
abbrev pub progression : ℤ → ℤ → ℕ → Run
progression first step zero = record { first = first; step = pos 0; many = 1 }
progression first step (suc n) = record { first = first; step = step; many = suc (suc n) }

abbrev pub clip : Class → Interval → Run
clip c i = cond (lt_z i.high (lowest_in c i)) empty (progression (lowest_in c i) c.step (nat_abs (steps c i)))

-- where this stays within 64 bits, and its numbers within ±1,000,000,000
pub record Clippable (c : Class) (i : Interval) : Type 0 where
  pub moves : pos 0 <ℤ c.step
  pub step : Within limit c.step
  pub distance : Within limit (c.first -ℤ i.low)
  pub start : Within limit i.low
  pub low : neg_ℤ (pos bound) ≤ℤ i.low
  pub high : i.high ≤ℤ pos bound

-- its first number and n more
abbrev pub counted : Class → ℤ → Interval
counted c n = record { low = c.first; high = c.first +ℤ c.step *ℤ n }

-- as far as they lie within ±1,000,000,000
abbrev pub counted_run : Class → ℤ → Run
counted_run c n = clip c (common (counted c n) (span full))

-- where this stays within 64 bits
pub record Countable (c : Class) (n : ℤ) : Type 0 where
  pub moves : pos 0 <ℤ c.step
  pub step : Within limit c.step
  pub low : pos 0 ≤ℤ n
  pub high : n ≤ℤ pos 2000000000
  pub first : Within 3000000000000000 c.first
  pub last : Within 3000000000000000 (c.first +ℤ c.step *ℤ n)

-- ---- meeting: the numbers first + stride·i of a that are congruent to b's first modulo b's stride
abbrev pub places_in : Run → Run → Congruence
places_in a b = record { u = stride a; v = b.first -ℤ a.first; d = stride b }

-- the places that a congruence gives
pub record Places (i : Class) : Type 0 where
  pub low : pos 0 ≤ℤ i.first
  pub high : i.first <ℤ i.step
  pub small : i.step ≤ℤ pos 2000000000

-- the numbers of a run at the places of a class
abbrev pub numbers_at : Run → Class → Class
numbers_at r i = record { first = r.first +ℤ stride r *ℤ i.first; step = stride r *ℤ i.step }

abbrev pub meet_by : Option Class → Run → Run → Run
meet_by None a b = empty
meet_by (Some i) a b = clip (numbers_at a i) (common (span a) (span b))

-- ---- carrying, for an equation with a above 0 and a run of one number or more
pub record Carriable (e : Equation) (q : Run) : Type 0 where
  pub limits : CarryLimits e
  pub above : pos 0 <ℤ e.a
  pub form : OneForm q
  pub some : 1 ≤ q.many

-- a·p, by its partner q
abbrev pub partner_value : Equation → ℤ → ℤ
partner_value e q = e.c -ℤ e.b *ℤ q

-- the places j of the q = first + stride·j for which that is divisible by a
abbrev pub places_with_partner : Equation → Run → Congruence
places_with_partner e q = record { u = e.b *ℤ stride q; v = partner_value e q.first; d = e.a }

-- from one p to the next, where q moves by a stride and has a partner once a period
abbrev pub step_of : Equation → Run → Class → ℤ
step_of e q j = floor_div (pos (nat_abs e.b) *ℤ stride q) (floor_div e.a j.step)

-- the class of the p whose partners are at those places
abbrev pub partners : Equation → Run → Class → Class
partners e q j = record { first = floor_div (partner_value e (numbers_at q j).first) e.a; step = step_of e q j }

-- the place of the last number
abbrev pub last_place : Run → ℤ
last_place q = pos q.many -ℤ pos 1

-- how many of the places of a class follow the first in the run
abbrev pub more_in : Run → Class → ℤ
more_in q j = floor_div (last_place q -ℤ j.first) j.step

-- with a positive b the p fall where q rises
abbrev pub falls : Equation → Bool
falls e = lt_z (pos 0) e.b

-- a p and n more, from the lowest on
abbrev pub rising : Equation → Class → ℤ → Class
rising e p n = cond (falls e) (record { first = p.first -ℤ p.step *ℤ n; step = p.step }) p

abbrev pub carry_by : Option Class → Equation → Run → Run
carry_by None e q = empty
carry_by (Some j) e q =
    cond (lt_z (last_place q) j.first) empty
    (counted_run (rising e (partners e q j) (more_in q j)) (more_in q j))

-- the same equation with a above 0
abbrev pub upright : Equation → Equation
upright e = cond (lt_z e.a (pos 0)) (record { a = neg_ℤ e.a; b = neg_ℤ e.b; c = neg_ℤ e.c }) e
