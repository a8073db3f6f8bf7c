-- Document 02, #102: which equations join two counts, which group any other belongs to, and one form for both.
use Rattle.std.specs.Prelude.{◌≢◌, Bool, cond, not, ◌&&◌, ℕ, eqb, pos, ◌+ℤ◌}
use Rattle.ints.specs.Equal.{is_equal}
use Rattle.jobs.specs.Job.{Equation, Job, equation}

-- "An equation joins counts only if they differ and neither coefficient is 0." In the field, a binary constraint.
pub record Binary (e : Equation) : Type 0 where
  pub different : e.left ≢ e.right
  pub left_not_zero : e.a ≢ pos 0
  pub right_not_zero : e.b ≢ pos 0

-- the variable whose group an equation belongs to: "the group of a count with a nonzero coefficient, or of the left count when there is
-- none". One that joins two belongs to the group of both, and so to that of the left.
unfoldable pub home : Equation → ℕ
home e = cond (is_equal e.a (pos 0)) (cond (is_equal e.b (pos 0)) e.left e.right) e.left

-- ---- for the functions that compute; the demands do without them

-- `Binary` as a test (proofs/NormalForm.antt: the two agree)
unfoldable pub is_binary : Equation → Bool
is_binary e = not (eqb e.left e.right) && (not (is_equal e.a (pos 0)) && not (is_equal e.b (pos 0)))

-- as it stands where it is binary, and else coefficient · home = c. "With the same count the coefficient is the sum of the two"; of two
-- counts one has coefficient 0, and the sum is the other's. (proofs/NormalForm.antt: the value is the same for every list)
unfoldable pub normal : Equation → Equation
unfolding home is_binary
normal e = cond (is_binary e) e (record { left = home e; right = home e; a = e.a +ℤ e.b; b = pos 0; c = e.c })

abbrev pub normal_row : Job → ℕ → Equation
normal_row j k = normal (equation j k)
