-- The laws of the tie-break: it is a strict total order on the lists of one length, and `earliest_first` puts a list in it that stands in
-- lexicographic order. Which of two numbers comes first is known here, and in families where the choice meets it (`tie` in
-- BestOfComponent) and where a list is taken apart (`Earlier-ByParts` in BestOfJob).
use mathlib.Core.Path.{◌≡◌}
use mathlib.Core.Logic.{◌↔◌, ◌⊎◌, inl, inr}
use lib.ListN.{length}
use Rattle.ints.proofs.{ℤ, List}
use Rattle.lists.specs.Members.{◌∈◌}
use Rattle.lists.specs.Rising.{Rising}
use Rattle.lists.specs.Lexicographic.{Lower}
use Rattle.lists.proofs.Reverse.{in-reverse, Rising-reverse}
use Rattle.lists.proofs.Lexicographic.{Lower-asym, Lower-trans, Compared, lower, equal, higher, compared}
use Rattle.jobs.specs.TieBreak.{Earlier, earliest_first}

pub Rising-earliest_first : {xs : List (List ℤ)} → Rising Lower xs → Rising Earlier (earliest_first xs)
Rising-earliest_first r = Rising-reverse r

pub in-earliest_first : (xs : List (List ℤ)) (x : List ℤ) → x ∈ earliest_first xs ↔ x ∈ xs
in-earliest_first xs x = in-reverse xs x

pub Earlier-asym : (x y : List ℤ) → Earlier x y → Earlier y x → ⊥
Earlier-asym x y = Lower-asym _ _

pub Earlier-trans : (x y z : List ℤ) → Earlier x y → Earlier y z → Earlier x z
Earlier-trans x y z h k = Lower-trans _ _ _ k h

pub Earlier-compared : (x y : List ℤ) → length x ≡ length y → (x ≡ y) ⊎ (Earlier x y ⊎ Earlier y x)
Earlier-compared x y e = go (compared x y e)
  where
    go : Compared x y → (x ≡ y) ⊎ (Earlier x y ⊎ Earlier y x)
    go (lower h) = inr (inr h)
    go (equal h) = inl h
    go (higher h) = inr (inl h)
