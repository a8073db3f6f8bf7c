-- The residue of a whole number modulo d by its size: two's complement at any width.
use mathlib.Core.Path.{◌≡◌, ap}
use Prim.Native.Nat.{ℕ, ◌+◌, ◌≤◌, ◌<◌}
use lib.IntN.{ℤ, pos, negsuc, nat_abs, ◌+ℤ◌}
use lib.Signed.{◌≤ℤ◌, ◌<ℤ◌}
use mathlib.Core.List.{[], ◌∷◌}
use native.Mathlib.Omega.{arith}
use Rattle.ints.specs.Floor.{floor_mod}
use Rattle.ints.proofs.Order.{abs_nonneg, abs_nonpos}
use Rattle.ints.proofs.Linear.{lin, lin₀, ◌&◌, facts}
use Rattle.ints.proofs.Floor.{div_mod_unique}

module _ (x : ℤ) where
  -- below 0 a number and its size leave nothing
  with_size : x <ℤ pos 0 → x +ℤ pos (nat_abs x) ≡ pos 0
  with_size h =
      let l : x ≤ℤ pos 0 = lin (x ∷ []) h (search facts depth 20) (omega arith) in
      lin (x ∷ pos (nat_abs x) ∷ []) (abs_nonpos x l) (search facts depth 20) (omega arith)

  pub size_above : x <ℤ pos 0 → 1 ≤ nat_abs x
  size_above h = lin (x ∷ pos (nat_abs x) ∷ []) (h & with_size h) (search facts depth 20) (omega arith)

  module _ (d : ℕ) where
    -- and its residue is what its size leaves of d
    pub residue_below : (r : ℕ) → x <ℤ pos 0 → r + nat_abs x ≡ d → r ≡ nat_abs (floor_mod x (pos d))
    residue_below r h e =
        let ρ = x ∷ pos d ∷ pos r ∷ pos (nat_abs x) ∷ [] in
        ap nat_abs
        (div_mod_unique x (pos d) (negsuc 0) (pos r)
        (lin ρ (e & size_above h) (search facts depth 20) (omega arith))
        (lin ρ (e & with_size h) (search facts depth 20) (omega arith))
        (lin₀ ρ (search facts depth 20) (omega arith))
        (lin ρ (e & size_above h) (search facts depth 20) (omega arith))).1

    -- from 0 on it is the number itself
    pub residue_whole : pos 0 ≤ℤ x → nat_abs x < d → nat_abs x ≡ nat_abs (floor_mod x (pos d))
    residue_whole h l =
        let ρ = x ∷ pos d ∷ pos (nat_abs x) ∷ [] in
        ap nat_abs
        (div_mod_unique x (pos d) (pos 0) x
        (lin ρ l (search facts depth 20) (omega arith))
        (lin₀ ρ (search facts depth 20) (omega arith))
        h
        (lin ρ (abs_nonneg x h & l) (search facts depth 20) (omega arith))).1
