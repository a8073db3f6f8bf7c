-- Document 01, "Workings": a run is a first number, a step and how many; in the field, an arithmetic progression.
use Rattle.std.specs.Prelude.{◌≡◌, Bool, ◌&&◌, List, ℕ, zero, suc, ◌≤◌, ◌<◌, ℤ, pos, negsuc, ◌+ℤ◌, ◌*ℤ◌, ◌≤ℤ◌}
use Rattle.std.specs.Int.Signed.{le_z}
use Rattle.ints.specs.Within.{Within, is_within}
use Rattle.ints.specs.Equal.{is_equal}
use Rattle.lists.specs.Keep.{every}
use Rattle.lists.specs.Table.{table}
-- the program's struct: first and step in ℤ, many in ℕ
pub use Rattle.runs.specs.declared.Run.{Run}

-- its number at place k
abbrev pub nth : Run → ℕ → ℤ
nth r k = r.first +ℤ r.step *ℤ pos k

-- its numbers, one after the other
unfoldable pub numbers : Run → List ℤ
unfolding table
numbers r = table (nth r) r.many

-- x is one of them (proofs/Members.antt: the two agree)
pub record InRun (r : Run) (x : ℤ) : Type 0 where
  pub place : ℕ
  pub below : place < r.many
  pub is : x ≡ nth r place

-- "All its numbers lie within ±1,000,000,000."
abbrev pub bound : ℕ
bound = 1000000000

-- "Empty is 0, 0, 0; one number has step 0; otherwise the step is at least 1."
pub record OneForm (r : Run) : Type 0 where
  pub empty : r.many ≡ 0 → (r.first ≡ pos 0) × (r.step ≡ pos 0)
  pub one : r.many ≡ 1 → r.step ≡ pos 0
  pub rises : 2 ≤ r.many → pos 1 ≤ℤ r.step
  pub inside : (x : ℤ) → InRun r x → Within bound x

-- the same as a test (proofs/Refusals.antt: the two agree)
abbrev pub is_formed : ℤ → ℤ → ℕ → Bool
is_formed first step zero = is_equal first (pos 0) && is_equal step (pos 0)
is_formed first step (suc zero) = is_equal step (pos 0)
is_formed first step (suc (suc many)) = le_z (pos 1) step

abbrev pub is_one_form : Run → Bool
is_one_form r = is_formed r.first r.step r.many && every (is_within bound) (numbers r)

abbrev pub empty : Run
empty = record { first = pos 0; step = pos 0; many = 0 }

-- "The full range is the run that an untied count begins with, before its bounds."
abbrev pub full : Run
full = record { first = negsuc 999999999; step = pos 1; many = 2000000001 }
