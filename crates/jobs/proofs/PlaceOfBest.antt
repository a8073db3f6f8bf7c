-- Where the best stands among the solutions: 01's chosen k of a component.
use mathlib.Core.Path.{◌≡◌, refl, ◌∙◌, ap, ap₂}
use mathlib.Core.Logic.{◌≢◌}
use mathlib.Core.Bool.{Bool, true, false, false≢true, and-eq-true_iff}
use Prim.Native.Nat.{ℕ, ◌<◌}
use lib.ListN.{length, get_or}
use Rattle.ints.specs.Equal.{is_equal}
use Rattle.ints.proofs.{ℤ, List, [], ◌∷◌}
use Rattle.ints.proofs.Equal.{equal_true}
use Rattle.lists.specs.Rising.{Rising}
use Rattle.lists.specs.Keep.{place}
use Rattle.lists.specs.Lexicographic.{Lower}
use Rattle.lists.proofs.Rising.{Rising-at}
use Rattle.lists.proofs.Keep.{place_at}
use Rattle.lists.proofs.Lexicographic.{Lower-asym}
use Rattle.jobs.specs.Job.{Job}
use Rattle.jobs.specs.Solution.{solutions, best}
use Rattle.jobs.specs.Family.{fits, agree, chosen}
use Rattle.jobs.proofs.Solutions.{Rising-solutions}

-- ---- `agree` tells whether two lists are equal
agree_out : (xs ys : List ℤ) → agree xs ys ≡ true → xs ≡ ys
agree_out [] [] t = refl
agree_out [] (y ∷ ys) t = absurd (false≢true t)
agree_out (x ∷ xs) [] t = absurd (false≢true t)
agree_out (x ∷ xs) (y ∷ ys) t = let (a, b) = (and-eq-true_iff (is_equal x y) (agree xs ys)).0 t in ap₂ ◌∷◌ ((equal_true x y).0 a) (agree_out xs ys b)

agree_self : (xs : List ℤ) → agree xs xs ≡ true
agree_self [] = refl
agree_self (x ∷ xs) = (and-eq-true_iff (is_equal x x) (agree xs xs)).1 ((equal_true x x).1 refl, agree_self xs)

agree_false : (xs ys : List ℤ) → xs ≢ ys → agree xs ys ≡ false
agree_false xs ys n = go (agree xs ys) refl
  where
    go : (t : Bool) → agree xs ys ≡ t → t ≡ false
    go true e = absurd (n (agree_out xs ys e))
    go false e = refl

-- ---- no two members of a rising list are equal, so a member is found at its own place
place-agree : {xs : List (List ℤ)} → Rising Lower xs → (k : ℕ) → k < length xs → place (agree (get_or xs k [])) xs ≡ k
place-agree {xs} r k h = place_at (agree (get_or xs k [])) xs k [] h (agree_self (get_or xs k [])) other
  where
    apart : (x y : List ℤ) → Lower x y → y ≢ x
    apart x y l e = let q : Lower x x = rw e at l in Lower-asym x x q q

    other : (i : ℕ) → i < k → agree (get_or xs k []) (get_or xs i []) ≡ false
    other i l = agree_false (get_or xs k []) (get_or xs i []) (apart (get_or xs i []) (get_or xs k []) (Rising-at r i k [] l h))

-- the best solution stands at k
pub chosen_at : (c : Job) (k : ℕ) → k < fits c → best c ≡ get_or (solutions c) k [] → chosen c ≡ k
unfolding chosen fits
chosen_at c k h e = ap (λ x. place (agree x) (solutions c)) e ∙ place-agree (Rising-solutions c) k h
