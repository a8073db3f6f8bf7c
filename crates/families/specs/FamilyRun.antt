-- The run of a variable in the family of its component: its step may have either sign. And where its numbers stand in another.
use Rattle.std.specs.Prelude.{◌≡◌, ◌≢◌, cond, ◌≤◌, ℤ, pos, neg_ℤ, ◌+ℤ◌, ◌-ℤ◌, ◌*ℤ◌}
use Rattle.std.specs.Int.Signed.{lt_z}
use Rattle.ints.specs.Equal.{is_equal}
use Rattle.ints.specs.Floor.{floor_div}
use Rattle.ints.specs.Within.{Within}
use Rattle.runs.specs.declared.Run.{Run}
use Rattle.runs.specs.Run.{InRun, bound}

-- the step is 0 exactly where there are fewer than two numbers
pub record Moves (r : Run) : Type 0 where
  pub moves : 2 ≤ r.many → r.step ≢ pos 0
  pub rests : r.many ≤ 1 → r.step ≡ pos 0

-- as in the one form, but that it may fall
pub record FamilyRun (r : Run) : Type 0 where
  pub moves : Moves r
  pub empty : r.many ≡ 0 → r.first ≡ pos 0
  pub inside : (x : ℤ) → InRun r x → Within bound x

-- the same numbers downwards: from the last to the first
abbrev pub turned : Run → Run
turned r = record { first = r.first +ℤ r.step *ℤ (pos r.many -ℤ pos 1); step = neg_ℤ r.step; many = r.many }

-- and upwards: turned where it falls
abbrev pub upward : Run → Run
upward r = cond (lt_z r.step (pos 0)) (turned r) r

-- ---- the quotient, and 0 where the divisor is 0
abbrev pub ratio : ℤ → ℤ → ℤ
ratio n d = cond (is_equal d (pos 0)) (pos 0) (floor_div n d)

-- the index of a number x, and of a step s
abbrev pub index_of : Run → ℤ → ℤ
index_of r x = ratio (x -ℤ r.first) r.step

abbrev pub stride_in : Run → ℤ → ℤ
stride_in r s = ratio s r.step

-- the partners q of the numbers p of R under a·p + b·q = c
abbrev pub across : ℤ → ℤ → ℤ → Run → Run
across a b c R = record { first = floor_div (c -ℤ a *ℤ R.first) b; step = floor_div (neg_ℤ (a *ℤ R.step)) b; many = R.many }
