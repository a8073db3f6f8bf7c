-- Meeting and carrying as exhaustive search. `run_of` reads a run off any list; that the lists here are runs, and so the
-- numbers of `meet` and `carry` just those that are searched for, is proved: `in_meet` and `in_carry` (proofs/MeetAndCarry.antt).
use Rattle.std.specs.Prelude.{◌≡◌, Bool, List, [], ◌∷◌, length, ℤ, pos, neg_ℤ, ◌+ℤ◌, ◌-ℤ◌, ◌*ℤ◌}
use Rattle.ints.specs.Equal.{is_equal}
use Rattle.lists.specs.Keep.{keep, any, every}
use Rattle.lists.specs.Range.{range}
use Rattle.runs.specs.Run.{Run, numbers, InRun, empty, bound}

-- the run of a rising list that is one
unfoldable pub run_of : List ℤ → Run
run_of [] = empty
run_of (x ∷ []) = record { first = x; step = pos 0; many = 1 }
run_of (x ∷ y ∷ zs) = record { first = x; step = y -ℤ x; many = length (x ∷ y ∷ zs) }

-- is x among the numbers of r?
unfoldable pub is_in : Run → ℤ → Bool
unfolding any numbers
is_in r x = any (is_equal x) (numbers r)

-- "Two runs meet in the run of the numbers in both": those of a that are in b
unfoldable pub meet : Run → Run → Run
unfolding run_of keep is_in numbers
meet a b = run_of (keep (is_in b) (numbers a))

-- has p a partner q in the run, with a·p + b·q = c?
unfoldable pub has_partner : ℤ → ℤ → ℤ → Run → ℤ → Bool
unfolding any numbers
has_partner a b c r p = any (λ q. is_equal (a *ℤ p +ℤ b *ℤ q) c) (numbers r)

-- the same with quantifiers (proofs/CarryMembers.antt: the two agree)
pub record Partner (a b c : ℤ) (r : Run) (p : ℤ) : Type 0 where
  pub q : ℤ
  pub member : InRun r q
  pub holds : a *ℤ p +ℤ b *ℤ q ≡ c

-- the run of all numbers within ±1,000,000,000 that pass a test; there is no `unfolding` line, so that who opens this definition
-- does not open the two thousand million numbers too
unfoldable pub passing : (ℤ → Bool) → Run
passing test = run_of (keep test (range (neg_ℤ (pos bound)) (pos bound)))

-- "the run of all p within ±1,000,000,000 that have a partner q in the run"
unfoldable pub carry : ℤ → ℤ → ℤ → Run → Run
carry a b c q = passing (has_partner a b c q)

-- of a list of runs: the run of the numbers that are in every one of them
unfoldable pub meet_all : List Run → Run
meet_all rs = passing (λ x. every (λ r. is_in r x) rs)
