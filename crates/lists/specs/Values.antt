-- The definitions at worked values, computed.
use Rattle.std.specs.Prelude.{◌≡◌, refl, true, false, ℕ, ◌*◌, ◌%◌, [], ◌∷◌, pos, negsuc, ◌*ℤ◌}
use Rattle.std.proofs.Common.{arith}
use Rattle.std.specs.Int.Signed.{le_z}
use mathlib.Core.List.Perm
use Rattle.lists.specs.Keep.{keep, every, any, place}
use Rattle.lists.specs.Permutation.{Permutation}
use Rattle.lists.specs.Table.{table}
use Rattle.lists.specs.Range.{range}
use Rattle.lists.specs.Lexicographic.{Lower, now, later}
use Rattle.lists.specs.Best.{best_of}
use Rattle.lists.specs.Sums.{sum, sum_of}

squares : table (λ k. k * k) 4 ≡ 0 ∷ 1 ∷ 4 ∷ 9 ∷ []
unfolding table
squares = refl

ranges : (range (negsuc 1) (pos 1) ≡ negsuc 1 ∷ negsuc 0 ∷ pos 0 ∷ pos 1 ∷ []) × (range (pos 3) (pos 3) ≡ pos 3 ∷ []) × (range (pos 3) (pos 2) ≡ [])
unfolding range
ranges = (refl, refl, refl)

kept : keep (λ x. le_z (pos 0) x) (range (negsuc 1) (pos 1)) ≡ pos 0 ∷ pos 1 ∷ []
unfolding keep range
kept = refl

tested : (every (λ x. le_z x (pos 1)) (range (negsuc 1) (pos 1)) ≡ true) × (any (λ x. le_z (pos 1) x) (range (negsuc 1) (pos 0)) ≡ false)
unfolding every any range
tested = (refl, refl)

-- two exchanged; and 1, 1 is not 1, since each member counts as often as it stands there
exchanged : Permutation (pos 1 ∷ pos 2 ∷ pos 3 ∷ []) (pos 2 ∷ pos 1 ∷ pos 3 ∷ [])
exchanged = Perm.swap (pos 2) (pos 1) (pos 3 ∷ [])

as_often : ¬ (Permutation (pos 1 ∷ pos 1 ∷ []) (pos 1 ∷ []))
as_often h = let e = Perm.length-eq h in let z : ◌≡◌ {A = ℕ} 0 1 = cc in omega arith

-- two members come before the first that is above 0
placed : place (λ x. le_z (pos 1) x) (range (negsuc 0) (pos 2)) ≡ 2
unfolding place range
placed = refl

-- 2 and −2 have the greatest square, and −2 comes first
bests : best_of (λ x. x *ℤ x) (pos 0) (range (negsuc 1) (pos 2)) ≡ negsuc 1
unfolding best_of range
bests = refl

-- 0 + 1 + 2 + 3 + 4, and its odd part
sums : (sum 5 pos ≡ pos 10) × (sum_of (λ i. i % 2) 1 5 pos ≡ pos 4)
unfolding sum
sums = (refl, refl)

lowers : Lower (pos 1 ∷ pos 2 ∷ pos 9 ∷ []) (pos 1 ∷ pos 3 ∷ pos 0 ∷ [])
lowers = later refl (now record { lt = tt })
