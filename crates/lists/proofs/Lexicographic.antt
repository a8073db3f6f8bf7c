-- Lexicographic order is a strict total order on the lists of one length, and the first place where they differ decides.
use mathlib.Core.Path.{◌≡◌, refl, sym, ◌∙◌, ap₂}
use mathlib.Core.Logic.{◌⊎◌, inl, inr}
use Prim.Native.Nat.{ℕ, zero, suc, ◌<◌}
use lib.ListN.{length, get_or}
use Rattle.ints.proofs.{ℤ, pos, ◌<ℤ◌, ◌≤ℤ◌, List, [], ◌∷◌, arith, le_or_lt}
use Rattle.ints.proofs.Order.{lt_asym, lt_ne, lt_trans, le_antisym}
use Rattle.lists.specs.Lexicographic.{Lower, now, later}

pub Lower-asym : (xs ys : List ℤ) → Lower xs ys → Lower ys xs → ⊥
Lower-asym [] ys h k = elim h [ ]
Lower-asym (x ∷ xs) [] h k = elim h [ ]
Lower-asym (x ∷ xs) (y ∷ ys) (now h) (now k) = lt_asym x y h k
Lower-asym (x ∷ xs) (y ∷ ys) (now h) (later e k) = lt_ne x y h (sym e)
Lower-asym (x ∷ xs) (y ∷ ys) (later e h) (now k) = lt_ne y x k (sym e)
Lower-asym (x ∷ xs) (y ∷ ys) (later e h) (later e' k) = Lower-asym xs ys h k

pub Lower-trans : (xs ys zs : List ℤ) → Lower xs ys → Lower ys zs → Lower xs zs
Lower-trans [] ys zs h k = elim h [ ]
Lower-trans (x ∷ xs) [] zs h k = elim h [ ]
Lower-trans (x ∷ xs) (y ∷ ys) [] h k = elim k [ ]
Lower-trans (x ∷ xs) (y ∷ ys) (z ∷ zs) (now h) (now k) = now (lt_trans x y z h k)
Lower-trans (x ∷ xs) (y ∷ ys) (z ∷ zs) (now h) (later e k) = now (rw e at h)
Lower-trans (x ∷ xs) (y ∷ ys) (z ∷ zs) (later e h) (now k) = now (rw (sym e) at k)
Lower-trans (x ∷ xs) (y ∷ ys) (z ∷ zs) (later e h) (later e' k) = later (e ∙ e') (Lower-trans xs ys zs h k)

-- one of three
pub data Compared (xs ys : List ℤ) : Type 0 where
  lower : Lower xs ys → Compared xs ys
  equal : xs ≡ ys → Compared xs ys
  higher : Lower ys xs → Compared xs ys

pub compared : (xs ys : List ℤ) → length xs ≡ length ys → Compared xs ys
compared [] [] e = equal refl
compared [] (y ∷ ys) e = absurd (let e' : 0 ≡ suc (length ys) = e in omega arith)
compared (x ∷ xs) [] e = absurd (let e' : suc (length xs) ≡ 0 = e in omega arith)
compared (x ∷ xs) (y ∷ ys) e = go (le_or_lt y x) (le_or_lt x y) (compared xs ys (let e' : suc (length xs) ≡ suc (length ys) = e in omega arith))
  where
    tails : x ≡ y → Compared xs ys → Compared (x ∷ xs) (y ∷ ys)
    tails q (lower h) = lower (later q h)
    tails q (equal h) = equal (ap₂ ◌∷◌ q h)
    tails q (higher h) = higher (later (sym q) h)

    go : (y ≤ℤ x) ⊎ (x <ℤ y) → (x ≤ℤ y) ⊎ (y <ℤ x) → Compared xs ys → Compared (x ∷ xs) (y ∷ ys)
    go (inr h) k c = lower (now h)
    go (inl h) (inr k) c = higher (now k)
    go (inl h) (inl k) c = tails (le_antisym x y k h) c

-- the first place where they differ
pub Lower-at : (xs ys : List ℤ) (i : ℕ) → i < length xs → i < length ys →
    ((j : ℕ) → j < i → get_or xs j (pos 0) ≡ get_or ys j (pos 0)) → get_or xs i (pos 0) <ℤ get_or ys i (pos 0) → Lower xs ys
Lower-at [] ys i a b s l = absurd (omega arith)
Lower-at (x ∷ xs) [] i a b s l = absurd (omega arith)
Lower-at (x ∷ xs) (y ∷ ys) zero a b s l = now l
Lower-at (x ∷ xs) (y ∷ ys) (suc i) a b s l =
    later (s 0 (omega arith)) (Lower-at xs ys i (omega arith) (omega arith) (λ j h. s (suc j) (omega arith)) l)

-- and the other way: where one is lower there is such a place
pub record FirstLower (xs ys : List ℤ) : Type 0 where
  pub at : ℕ
  pub left : at < length xs
  pub right : at < length ys
  pub same : (j : ℕ) → j < at → get_or xs j (pos 0) ≡ get_or ys j (pos 0)
  pub less : get_or xs at (pos 0) <ℤ get_or ys at (pos 0)

pub first_lower : {xs ys : List ℤ} → Lower xs ys → FirstLower xs ys
first_lower (now h) = record { at = 0; left = omega arith; right = omega arith; same = λ j k. absurd (omega arith); less = h }
first_lower (later {x} {y} {xs} {ys} e h) = further (first_lower h)
  where
    further : FirstLower xs ys → FirstLower (x ∷ xs) (y ∷ ys)
    further p = record { at = suc p.at; left = omega (arith, p.left); right = omega (arith, p.right); same = same'; less = p.less }
      where
        same' : (j : ℕ) → j < suc p.at → get_or (x ∷ xs) j (pos 0) ≡ get_or (y ∷ ys) j (pos 0)
        same' zero k = e
        same' (suc j) k = p.same j (omega arith)
