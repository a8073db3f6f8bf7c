-- The laws put to use.
use mathlib.Core.Path.{◌≡◌, refl}
use mathlib.Core.Bool.{Bool, true}
use Prim.Native.Nat.{ℕ, zero, suc, ◌%◌, ◌<◌}
use lib.ListN.{get_or}
use Rattle.ints.proofs.{ℤ, pos, ◌<ℤ◌, le_z, List, [], ◌∷◌, arith}
use Rattle.ints.proofs.Order.{lt_asym, lt_trans, le_true}
use Rattle.ints.specs.Within.{Within}
use Rattle.lists.specs.Members.{◌∈◌}
use Rattle.lists.specs.Rising.{Rising}
use Rattle.lists.specs.Keep.{keep, every}
use Rattle.lists.specs.Range.{range}
use Rattle.lists.specs.Lexicographic.{Lower}
use Rattle.lists.specs.Best.{Best, best_of}
use Rattle.lists.specs.Sums.{sum, sum_of}
use Rattle.lists.proofs.Rising.{same_members}
use Rattle.lists.proofs.Keep.{in-keep, Rising-keep, every_iff}
use Rattle.lists.proofs.Range.{in-range, Rising-range}
use Rattle.lists.proofs.Best.{first_best_lem, is_best_of}
use Rattle.lists.proofs.Sums.{regroup, sum-Within}
use Rattle.lists.proofs.Lexicographic.{Lower-asym, Lower-trans, Lower-at}

-- two tests, in either order, keep the same list: both rise, and they have the same members
either_order : (p q : ℤ → Bool) (lo hi : ℤ) → keep p (keep q (range lo hi)) ≡ keep q (keep p (range lo hi))
either_order p q lo hi = same_members lt_asym (rising p q) (rising q p) (λ z. (both p q z, both q p z))
  where
    rising : (p q : ℤ → Bool) → Rising ◌<ℤ◌ (keep p (keep q (range lo hi)))
    rising p q = Rising-keep p (Rising-keep q (Rising-range lo hi))

    both : (p q : ℤ → Bool) (z : ℤ) → z ∈ keep p (keep q (range lo hi)) → z ∈ keep q (keep p (range lo hi))
    both p q z h =
        let (k, pz) = (in-keep p (keep q (range lo hi)) z).0 h in
        let (m, qz) = (in-keep q (range lo hi) z).0 k in
        (in-keep q (keep p (range lo hi)) z).1 ((in-keep p (range lo hi) z).1 (m, pz), qz)

-- a range that begins at its first number has a best, whatever the value is
has_Best : (value : ℤ → ℤ) (x y : ℤ) (xs : List ℤ) → range x y ≡ x ∷ xs → Best value ◌<ℤ◌ (range x y) (best_of value (pos 0) (range x y))
unfolding best_of
has_Best value x y xs e = rw e (first_best_lem value lt_trans x xs (rw e at (Rising-range x y)))

-- a sum by parity
by_parity : (n : ℕ) (f : ℕ → ℤ) → sum n f ≡ sum 2 (λ g. sum_of (λ i. i % 2) g n f)
by_parity n f = regroup (λ i. i % 2) 2 n f (λ i h. omega arith)

-- a sum of 256 weights times numbers fits 64 bits with room to spare
fits : (f : ℕ → ℤ) → ((i : ℕ) → i < 256 → Within 1000000000000000 (f i)) → Within 256000000000000000 (sum 256 f)
fits f h = sum-Within 256 1000000000000000 f h

-- every member of a range passes a test that its ends allow
none_below : (lo hi : ℤ) → every (le_z lo) (range lo hi) ≡ true
none_below lo hi = (every_iff (le_z lo) (range lo hi)).1 (λ z h. (le_true lo z).1 ((in-range lo hi z).0 h).0)

-- ---- lists of numbers: the first place where they differ decides
second_place : Lower (pos 1 ∷ pos 2 ∷ pos 9 ∷ []) (pos 1 ∷ pos 3 ∷ pos 0 ∷ [])
second_place = Lower-at (pos 1 ∷ pos 2 ∷ pos 9 ∷ []) (pos 1 ∷ pos 3 ∷ pos 0 ∷ []) 1 (omega arith) (omega arith) same record { lt = tt }
  where
    same : (j : ℕ) → j < 1 → get_or (pos 1 ∷ pos 2 ∷ pos 9 ∷ []) j (pos 0) ≡ get_or (pos 1 ∷ pos 3 ∷ pos 0 ∷ []) j (pos 0)
    same zero h = refl
    same (suc j) h = absurd (omega arith)

-- of any rising list of lists there is one best: the one that `best_of` finds
one_best : (value : List ℤ → ℤ) (xs : List (List ℤ)) (x : List ℤ) → Rising Lower xs → Best value Lower xs x → x ≡ best_of value [] xs
one_best value xs x r b = is_best_of value Lower-asym Lower-trans [] r b
