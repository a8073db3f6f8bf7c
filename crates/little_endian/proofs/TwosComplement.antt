-- Numbers below 0 in bytes: the k bytes of a number, in two's complement, say that number.
use mathlib.Core.Path.{◌≡◌, refl, sym, ◌∙◌, ap}
use mathlib.Core.Logic.{◌⊎◌, inl, inr}
use mathlib.Core.Bool.{cond}
use mathlib.Core.List.{List}
use Prim.Native.Nat.{ℕ, ◌+◌, ◌*◌, ◌-◌, ◌^◌, ◌≤◌, ◌<◌}
use lib.Dec.{ltb}
use lib.ListN.{length}
use borrow.Author.Tests.{lt-ltb, le-ltb}
use mir.Syntax.{w64}
use mir.Val.{SFits}
use mir.Facts.{to_z-of_z}
use Rattle.ints.specs.Within.{Within}
use Rattle.ints.specs.Floor.{floor_mod}
use Rattle.ints.proofs.{ℤ, pos, neg_ℤ, nat_abs, ◌+ℤ◌, ◌-ℤ◌, ◌*ℤ◌, ◌≤ℤ◌, ◌<ℤ◌, [], ◌∷◌, arith, le_or_lt, lin, ◌&◌, facts}
use Rattle.ints.proofs.Order.{abs_nonneg, abs_nonpos}
use Rattle.ints.proofs.Residues.{residue_below, residue_whole}
use Rattle.ints.proofs.Signed.{held}
use Rattle.little_endian.specs.LittleEndian.{unsigned, twos_complement, bytes_of, signed_bytes}
use Rattle.little_endian.proofs.LittleEndian.{unsigned-bytes_of, length-bytes_of}

-- ---- written and read back
module _ (p : ℕ) (x : ℤ) (a : neg_ℤ (pos p) ≤ℤ (pos 2 *ℤ x)) (b : (pos 2 *ℤ x) <ℤ pos p) where
  abbrev ρ : List ℤ
  ρ = x ∷ pos (nat_abs x) ∷ pos p ∷ pos (nat_abs (floor_mod x (pos p))) ∷ []

  -- what is left of a number from −p/2 to p/2: itself, or p more where it is negative
  abbrev Left : ℕ → Type 0
  Left r = ((pos 0 ≤ℤ x) × (x ≡ pos r)) ⊎ ((x <ℤ pos 0) × (x +ℤ pos p ≡ pos r))

  residue : Left (nat_abs (floor_mod x (pos p)))
  residue = go (le_or_lt (pos 0) x)
    where
      go : (pos 0 ≤ℤ x) ⊎ (x <ℤ pos 0) → Left (nat_abs (floor_mod x (pos p)))
      go (inl h) =
          let e = abs_nonneg x h in
          inl (h, e ∙ ap pos (residue_whole x p h (lin ρ (e & b & h) (search facts depth 20) (omega arith))))
      go (inr h) =
          let e = abs_nonpos x (lin ρ h (search facts depth 20) (omega arith)) in
          let l : nat_abs x ≤ p = lin ρ (e & a & h) (search facts depth 20) (omega arith) in
          let q : p - nat_abs x ≡ nat_abs (floor_mod x (pos p)) = residue_below x p (p - nat_abs x) h (omega arith) in
          let w : nat_abs (floor_mod x (pos p)) + nat_abs x ≡ p = omega arith in
          inr (h, lin ρ (e & w) (search facts depth 20) (omega arith))

  back : let r = nat_abs (floor_mod x (pos p)) in cond (ltb (2 * r) p) (pos r) (pos r -ℤ pos p) ≡ x
  back = go (nat_abs (floor_mod x (pos p))) residue
    where
      go : (r : ℕ) → Left r → cond (ltb (2 * r) p) (pos r) (pos r -ℤ pos p) ≡ x
      go r (inl (h, e)) = rw (lt-ltb (2 * r) p (lin (x ∷ pos r ∷ pos p ∷ []) (b & e) (search facts depth 20) (omega arith))) (sym e)
      go r (inr (h, e)) =
          rw (le-ltb (2 * r) p (lin (x ∷ pos r ∷ pos p ∷ []) (a & e) (search facts depth 20) (omega arith)))
          (lin (x ∷ pos r ∷ pos p ∷ []) e (search facts depth 20) (omega arith))

  below : nat_abs (floor_mod x (pos p)) < p
  below = go (nat_abs (floor_mod x (pos p))) residue
    where
      go : (r : ℕ) → Left r → r < p
      go r (inl (h, e)) = lin (x ∷ pos r ∷ pos p ∷ []) (b & e) (search facts depth 20) (omega arith)
      go r (inr (h, e)) = lin (x ∷ pos r ∷ pos p ∷ []) (h & e) (search facts depth 20) (omega arith)

-- the numbers that k bytes hold in two's complement: from −256ᵏ/2 to below 256ᵏ/2
pub record FitsBytes (k : ℕ) (x : ℤ) : Type 0 where
  pub low : neg_ℤ (pos (256 ^ k)) ≤ℤ (pos 2 *ℤ x)
  pub high : (pos 2 *ℤ x) <ℤ pos (256 ^ k)

double : (p m : ℕ) (x : ℤ) → 2 * m < p → Within m x → (neg_ℤ (pos p) ≤ℤ (pos 2 *ℤ x)) × ((pos 2 *ℤ x) <ℤ pos p)
double p m x h w = lin (x ∷ pos p ∷ []) w (search facts depth 20) (omega arith)

pub Within-fits : (k m : ℕ) (x : ℤ) → 2 * m < 256 ^ k → Within m x → FitsBytes k x
Within-fits k m x h w = let (a, b) = double (256 ^ k) m x h w in record { low = a; high = b }

twos_complement_back : (k : ℕ) (x : ℤ) → FitsBytes k x → twos_complement k (nat_abs (floor_mod x (pos (256 ^ k)))) ≡ x
twos_complement_back k x h = back (256 ^ k) x h.low h.high

pub signed_bytes_is : (k : ℕ) (x : ℤ) → signed_bytes k x ≡ bytes_of k (nat_abs (floor_mod x (pos (256 ^ k))))
unfolding signed_bytes
signed_bytes_is k x = refl

-- so k bytes of such a number read as that number
pub signed_back : (k : ℕ) (x : ℤ) → FitsBytes k x → twos_complement k (unsigned k (signed_bytes k x) 0) ≡ x
signed_back k x h =
    let r = nat_abs (floor_mod x (pos (256 ^ k))) in
    ap (twos_complement k) (ap (λ s. unsigned k s 0) (signed_bytes_is k x) ∙ unsigned-bytes_of k r (below (256 ^ k) x h.low h.high))
    ∙ twos_complement_back k x h

-- and so does a field that holds them
pub signed_field : (k : ℕ) {u : ℕ} (x : ℤ) → u ≡ unsigned k (signed_bytes k x) 0 → FitsBytes k x → twos_complement k u ≡ x
signed_field k x e h = ap (twos_complement k) e ∙ signed_back k x h

-- r is what x says in two's complement, at the width that holds numbers up to most
pub record Residue (most : ℕ) (x : ℤ) (r : ℕ) : Type 0 where
  pub same : (k : ℕ) → most + 1 ≡ 256 ^ k → r ≡ nat_abs (floor_mod x (pos (256 ^ k)))

-- and its bytes are those of a number that a local holds
pub signed_bytes_lem : (k most : ℕ) {x : ℤ} (r : ℕ) → most + 1 ≡ 256 ^ k → SFits w64 x → Residue most (held x) r → bytes_of k r ≡ signed_bytes k x
unfolding signed_bytes
signed_bytes_lem k most r e f h = ap (bytes_of k) (h.same k e ∙ ap (λ x. nat_abs (floor_mod x (pos (256 ^ k)))) (to_z-of_z f))

pub length-signed_bytes : (k : ℕ) (x : ℤ) → length (signed_bytes k x) ≡ k
unfolding signed_bytes
length-signed_bytes k x = length-bytes_of k (nat_abs (floor_mod x (pos (256 ^ k))))
