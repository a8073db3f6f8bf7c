-- A report: a header, and behind it two lists of rows, each row w bytes. How long it is, and where a number is read in it, with
-- anything behind it.
use mathlib.Core.Path.{◌≡◌, ◌∙◌, ap}
use mathlib.Core.List.{List, ◌++◌, flat_map}
use Prim.Native.Nat.{ℕ, zero, suc, ◌+◌, ◌*◌, ◌≤◌, ◌<◌}
use native.Mathlib.Decide.{ℕ_discrete}
use native.Mathlib.Omega.{arith}
use lib.ListN.{length, get_or}
use Rattle.lists.proofs.Places.{length_both, length-flat_map}
use Rattle.little_endian.specs.LittleEndian.{unsigned}
use Rattle.little_endian.proofs.LittleEndian.{unsigned_first, unsigned_past, unsigned_part}

-- row i of n ends where they end, or before
pub row_inside : (w i n : ℕ) → i < n → w * i + w ≤ w * n
row_inside w i zero h = absurd (omega arith)
row_inside w i (suc n) h = go (ℕ_discrete i n) (λ l. row_inside w i n l)
  where
    go : Dec (i ≡ n) → (i < n → w * i + w ≤ w * n) → w * i + w ≤ w * suc n
    go (yes e) f = rw e (omega arith)
    go (no e) f = omega (arith, f (omega arith))

module _ {A B : Type 0} (header : List ℕ) (f : A → List ℕ) (xs : List A) (g : B → List ℕ) (ys : List B) {h : ℕ} (w : ℕ)
    (high : length header ≡ h) (wide : (x : A) → length (f x) ≡ w) (broad : (y : B) → length (g y) ≡ w) where
  abbrev front : List ℕ
  front = header ++ flat_map f xs

  length-front : length front ≡ h + w * length xs
  length-front = length_both header (flat_map f xs) high (length-flat_map f w wide xs)

  pub length_report : length (header ++ flat_map f xs ++ flat_map g ys) ≡ h + w * length xs + w * length ys
  length_report = length_both front (flat_map g ys) length-front (length-flat_map g w broad ys)

  module _ (rest : List ℕ) (k : ℕ) where
    in_report : (at : ℕ) → at + k ≤ h + w * length xs + w * length ys → unsigned k (front ++ flat_map g ys ++ rest) at ≡ unsigned k (front ++ flat_map g ys) at
    in_report at l = unsigned_first k (front ++ flat_map g ys) rest at (omega (arith, l, length_report))

    in_front : (at : ℕ) → at + k ≤ h + w * length xs → unsigned k (front ++ flat_map g ys ++ rest) at ≡ unsigned k front at
    in_front at l = in_report at (omega (arith, l)) ∙ unsigned_first k front (flat_map g ys) at (omega (arith, l, length-front))

    pub in_header : (at : ℕ) → at + k ≤ h → unsigned k (header ++ flat_map f xs ++ flat_map g ys ++ rest) at ≡ unsigned k header at
    in_header at l = in_front at (omega (arith, l)) ∙ unsigned_first k header (flat_map f xs) at (omega (arith, l, high))

    pub in_first : (i at : ℕ) (c : A) → i < length xs → at + k ≤ w → unsigned k (header ++ flat_map f xs ++ flat_map g ys ++ rest) (h + w * i + at) ≡ unsigned k (f (get_or xs i c)) at
    in_first i at c b l =
        let e : h + w * i + at ≡ h + (w * i + at) = omega arith in
        in_front (h + w * i + at) (omega (arith, l, row_inside w i (length xs) b))
        ∙ ap (unsigned k front) e
        ∙ unsigned_past k header (flat_map f xs) (w * i + at) high
        ∙ unsigned_part f w wide xs c k i at b l

    pub in_second : (i at : ℕ) (c : B) → i < length ys → at + k ≤ w → unsigned k (header ++ flat_map f xs ++ flat_map g ys ++ rest) (h + w * length xs + w * i + at) ≡ unsigned k (g (get_or ys i c)) at
    in_second i at c b l =
        let e : h + w * length xs + w * i + at ≡ h + w * length xs + (w * i + at) = omega arith in
        in_report (h + w * length xs + w * i + at) (omega (arith, l, row_inside w i (length ys) b))
        ∙ ap (unsigned k (front ++ flat_map g ys)) e
        ∙ unsigned_past k front (flat_map g ys) (w * i + at) length-front
        ∙ unsigned_part g w broad ys c k i at b l
