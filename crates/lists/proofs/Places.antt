-- What stands at each place: of a list behind another, of one that is mapped, and of parts of one width behind each other.
use mathlib.Core.Path.{◌≡◌, ◌∙◌}
use mathlib.Core.List.{List, [], ◌∷◌, ◌++◌, flat_map}
use Prim.Native.Nat.{ℕ, zero, suc, ◌+◌, ◌*◌, ◌<◌}
use native.Mathlib.Omega.{arith}
use lib.ListN.{length, get_or, length-append, get_or-append}
-- the standard library's, by the names that the proofs here use: two lists of one length with the same at each place; past the first of
-- two lists; a function put to each member
pub use Rattle.std.proofs.lemmas.List.{ext_get_or as same_places, get_or-append-add as get_d_past, get_or-map as map_at}
pub use Rattle.std.proofs.Math.Seq.{drop-append_seam as drop_past}

-- two lists, one behind the other
pub length_both : {A : Type 0} (xs ys : List A) {m n : ℕ} → length xs ≡ m → length ys ≡ n → length (xs ++ ys) ≡ m + n
length_both xs ys e f = length-append xs ys ∙ omega (arith, e, f)

-- parts of width w, one for each member
module _ {A B : Type 0} (f : A → List B) (w : ℕ) (wide : (x : A) → length (f x) ≡ w) where
  pub length-flat_map : (xs : List A) → length (flat_map f xs) ≡ w * length xs
  unfolding flat_map
  length-flat_map [] = omega arith
  length-flat_map (x ∷ xs) = length-append (f x) (flat_map f xs) ∙ omega (arith, wide x, length-flat_map xs)

  pub flat_map_at : (xs : List A) (k i : ℕ) (c : A) (d : B) → k < length xs → i < w → get_or (flat_map f xs) (w * k + i) d ≡ get_or (f (get_or xs k c)) i d
  unfolding flat_map
  flat_map_at [] k i c d h l = absurd (omega arith)
  flat_map_at (x ∷ xs) zero i c d h l = let e : w * 0 + i ≡ i = omega arith in rw e (get_or-append (f x) (flat_map f xs) d i (omega (arith, wide x)))
  flat_map_at (x ∷ xs) (suc k) i c d h l =
      let e : w * suc k + i ≡ length (f x) + (w * k + i) = omega (arith, wide x) in
      rw e (get_d_past (f x) (flat_map f xs) (w * k + i) d ∙ flat_map_at xs k i c d (omega arith) l)
