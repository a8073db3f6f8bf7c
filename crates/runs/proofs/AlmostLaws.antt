-- Statements that are nearly laws of meeting, and where they fail.
use mathlib.Core.Path.{◌≡◌, refl, sym, ap}
use Prim.Native.Nat.{ℕ}
use Rattle.ints.proofs.{pos, negsuc, nat_abs, arith}
use Rattle.reasons.specs.Answer.{gives}
use Rattle.reasons.proofs.Answers.{not_both}
use Rattle.lists.specs.Keep.{every}
use Rattle.runs.specs.Run.{Run, OneForm, numbers, empty, full}
use Rattle.runs.specs.Search.{meet}
use Rattle.runs.specs.Workings.{meeting}
use Rattle.runs.specs.Groupings.{meet_answers}
use Rattle.runs.proofs.Refusals.{OneForm-iff}

-- 5, 4, 3: not in its one form
abbrev falling : Run
falling = record { first = pos 5; step = negsuc 0; many = 3 }

-- 3, 4, 5
abbrev rising : Run
rising = record { first = pos 3; step = pos 1; many = 3 }

rising_formed : OneForm rising
unfolding every numbers
rising_formed = (OneForm-iff rising).0 refl

-- a run met with itself is not the full range
not_full : ¬ ((a : Run) → OneForm a → meet a a ≡ full)
unfolding meet
not_full law = let z : ◌≡◌ {A = ℕ} 3 2000000001 = ap (λ r. r.many) (law rising rising_formed) in omega arith

-- empty is not neutral
not_neutral : ¬ ((a : Run) → OneForm a → meet empty a ≡ a)
unfolding meet
not_neutral law = let z : ◌≡◌ {A = ℕ} 0 3 = ap (λ r. r.many) (law rising rising_formed) in omega arith

-- where only one is in its one form two runs cannot be exchanged: the first says the order
not_commutative : ¬ ((a b : Run) → OneForm a → meet a b ≡ meet b a)
unfolding meet
not_commutative law = let z : ◌≡◌ {A = ℕ} 3 5 = ap (λ r. nat_abs r.first) (law rising falling rising_formed) in omega arith

-- where one is not in its one form the workings come to no meet
not_met : ¬ ((a b c : Run) → meet_answers (meeting a b) (gives c) ≡ gives (meet a (meet b c)))
unfolding meet every numbers
not_met law = not_both (sym (law rising rising falling))
