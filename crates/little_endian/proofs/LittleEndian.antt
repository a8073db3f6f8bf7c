-- Numbers in bytes: byte by byte, where a number is read in a longer list, and that k bytes of a number read as that number.
use mathlib.Core.Path.{◌≡◌, refl, ap, ap₂}
use mathlib.Core.List.{List, [], ◌∷◌, ◌++◌, flat_map}
use Prim.Native.Nat.{ℕ, zero, suc, ◌+◌, ◌*◌, ◌/◌, ◌%◌, ◌^◌, ◌≤◌, ◌<◌}
use native.Mathlib.Nat.{pow-succ'}
use native.Mathlib.Omega.{arith}
use lib.ListN.{length, get_or, get_or-append}
use Rattle.lists.proofs.Places.{get_d_past, flat_map_at}
use Rattle.little_endian.specs.LittleEndian.{unsigned, bytes_of}

-- ---- where a number is read: only its own k bytes count
unsigned_same : (k : ℕ) (s t : List ℕ) (a b : ℕ) → ((i : ℕ) → i < k → get_or s (a + i) 0 ≡ get_or t (b + i) 0) → unsigned k s a ≡ unsigned k t b
unfolding unsigned
unsigned_same zero s t a b f = refl
unsigned_same (suc k) s t a b f = ap₂ (λ u v. u + 256 * v) (head (f 0 (omega arith))) (unsigned_same k s t (a + 1) (b + 1) later)
  where
    head : get_or s (a + 0) 0 ≡ get_or t (b + 0) 0 → get_or s a 0 ≡ get_or t b 0
    head e = let p : a + 0 ≡ a = omega arith in let q : b + 0 ≡ b = omega arith in rw (p, q) at e

    later : (i : ℕ) → i < k → get_or s (a + 1 + i) 0 ≡ get_or t (b + 1 + i) 0
    later i h =
        let p : a + 1 + i ≡ a + suc i = omega arith in
        let q : b + 1 + i ≡ b + suc i = omega arith in
        rw (p, q) (f (suc i) (omega arith))

-- in the first of two lists, and past it
pub unsigned_first : (k : ℕ) (xs ys : List ℕ) (at : ℕ) → at + k ≤ length xs → unsigned k (xs ++ ys) at ≡ unsigned k xs at
unsigned_first k xs ys at h = unsigned_same k (xs ++ ys) xs at at (λ i l. get_or-append xs ys 0 (at + i) (omega arith))

pub unsigned_past : (k : ℕ) (xs ys : List ℕ) {m : ℕ} (at : ℕ) → length xs ≡ m → unsigned k (xs ++ ys) (m + at) ≡ unsigned k ys at
unsigned_past k xs ys {m} at e = unsigned_same k (xs ++ ys) ys (m + at) at byte
  where
    byte : (i : ℕ) → i < k → get_or (xs ++ ys) (m + at + i) 0 ≡ get_or ys (at + i) 0
    byte i h = let p : m + at + i ≡ length xs + (at + i) = omega (arith, e) in rw p (get_d_past xs ys (at + i) 0)

-- in one of many parts of width w
pub unsigned_part : {A : Type 0} (f : A → List ℕ) (w : ℕ) → ((x : A) → length (f x) ≡ w) → (xs : List A) (c : A) (k g at : ℕ) →
    g < length xs → at + k ≤ w → unsigned k (flat_map f xs) (w * g + at) ≡ unsigned k (f (get_or xs g c)) at
unsigned_part f w wide xs c k g at h l = unsigned_same k (flat_map f xs) (f (get_or xs g c)) (w * g + at) at byte
  where
    byte : (i : ℕ) → i < k → get_or (flat_map f xs) (w * g + at + i) 0 ≡ get_or (f (get_or xs g c)) (at + i) 0
    byte i m = let p : w * g + at + i ≡ w * g + (at + i) = omega arith in rw p (flat_map_at f w wide xs g (at + i) c 0 h (omega arith))

-- ---- k bytes of a number
pub unsigned-bytes_of : (k x : ℕ) → x < 256 ^ k → unsigned k (bytes_of k x) 0 ≡ x
unfolding unsigned bytes_of
unsigned-bytes_of zero x h = omega (arith, h)
unsigned-bytes_of (suc k) x h =
    let l : x < 256 * 256 ^ k = rw (pow-succ' 256 k) at h in
    rw (unsigned_past k ((x % 256) ∷ []) (bytes_of k (x / 256)) 0 refl, unsigned-bytes_of k (x / 256) (omega arith)) (omega arith)

pub length-bytes_of : (k x : ℕ) → length (bytes_of k x) ≡ k
unfolding bytes_of
length-bytes_of zero x = refl
length-bytes_of (suc k) x = ap suc (length-bytes_of k (x / 256))

-- ---- as the code reads them: one byte more in front
pub unsigned_none : (s : List ℕ) (at : ℕ) → 0 ≡ unsigned 0 s at
unfolding unsigned
unsigned_none s at = refl

pub unsigned_more : (k : ℕ) (s : List ℕ) (at : ℕ) {x : ℕ} → x ≡ unsigned k s (at + 1) → 256 * x + get_or s at 0 ≡ unsigned (suc k) s at
unfolding unsigned
unsigned_more k s at e = rw (← e) (omega arith)

pub below_more : (k : ℕ) {x b : ℕ} → x < 256 ^ k → b < 256 → 256 * x + b < 256 ^ suc k
below_more k h l = rw (pow-succ' 256 k) (omega arith)

-- ---- as the code writes them: one byte more behind
-- what is left of x after i bytes
abbrev pub shifted : ℕ → ℕ → ℕ
shifted zero x = x
shifted (suc i) x = shifted i (x / 256)

pub shifted_next : (i x : ℕ) → shifted i x / 256 ≡ shifted (suc i) x
shifted_next zero x = refl
shifted_next (suc i) x = shifted_next i (x / 256)

pub bytes_next : (i x : ℕ) → bytes_of i x ++ (shifted i x % 256) ∷ [] ≡ bytes_of (suc i) x
unfolding bytes_of
bytes_next zero x = refl
bytes_next (suc i) x = ap (λ r. (x % 256) ∷ r) (bytes_next i (x / 256))
