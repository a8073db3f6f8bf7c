-- What `to_le_bytes` gives: the bytes of a natural number, and below 0 those of two's complement. A writer's proof is then
--
--     over_same at _ _ (c.to_le_bytes.ensures ∙ u16_bytes _) c.put_bytes.ensures
--     over_same at _ _ (i64_bytes c.ranges.x c.to_le_bytes.ensures) c.put_bytes.ensures
use mathlib.Core.Path.{◌≡◌, refl, sym, ◌∙◌, ap, ap₂}
use mathlib.Core.List.{List, [], ◌∷◌}
use Prim.Native.Nat.{ℕ, suc, ◌+◌, ◌-◌, ◌/◌, ◌%◌, ◌^◌, ◌<◌}
use native.Mathlib.Omega.{arith}
use lib.IntN.{ℤ, pos, negsuc, nat_abs}
use lib.Signed.{lt_z_yes}
use mir.Syntax.{w16, w32, w64}
use mir.Val.{SFits, to_z, of_z}
use mir.Facts.{to_z-of_z}
use Rattle.std.specs.Int.{to_le_bytes}
use Rattle.ints.specs.Within.{Within}
use Rattle.ints.specs.Floor.{floor_mod}
use Rattle.ints.proofs.Linear.{lin}
use Rattle.ints.proofs.Signed.{held, signed}
use Rattle.ints.proofs.Order.{nat_nonneg}
use Rattle.ints.proofs.Residues.{residue_below, residue_whole}
use Rattle.little_endian.specs.LittleEndian.{bytes_of, signed_bytes}
use Rattle.little_endian.proofs.TwosComplement.{Residue, signed_bytes_lem}

pub u16_bytes : (n : ℕ) → to_le_bytes w16 n ≡ bytes_of 2 n
unfolding bytes_of
u16_bytes n = refl

pub u32_bytes : (n : ℕ) → to_le_bytes w32 n ≡ bytes_of 4 n
unfolding bytes_of
u32_bytes n =
    let third : n / 65536 % 256 ≡ n / 256 / 256 % 256 = omega arith in
    let fourth : n / 16777216 % 256 ≡ n / 256 / 256 / 256 % 256 = omega arith in
    rw (third, fourth) refl

pub u64_bytes : (n : ℕ) → to_le_bytes w64 n ≡ bytes_of 8 n
unfolding bytes_of
u64_bytes n =
    let third : n / 65536 % 256 ≡ n / 256 / 256 % 256 = omega arith in
    let fourth : n / 16777216 % 256 ≡ n / 256 / 256 / 256 % 256 = omega arith in
    let fifth : n / 4294967296 % 256 ≡ n / 256 / 256 / 256 / 256 % 256 = omega arith in
    let sixth : n / 1099511627776 % 256 ≡ n / 256 / 256 / 256 / 256 / 256 % 256 = omega arith in
    let seventh : n / 281474976710656 % 256 ≡ n / 256 / 256 / 256 / 256 / 256 / 256 % 256 = omega arith in
    let eighth : n / 72057594037927936 % 256 ≡ n / 256 / 256 / 256 / 256 / 256 / 256 / 256 % 256 = omega arith in
    rw (third, fourth, fifth, sixth, seventh, eighth) refl

-- ---- the bits of a whole number are what is left of it modulo its width
bits_4 : (x : ℤ) → SFits w32 x → of_z w32 x ≡ nat_abs (floor_mod x (pos (256 ^ 4)))
bits_4 (pos n) f = residue_whole (pos n) (256 ^ 4) (nat_nonneg n) (omega (arith, f.sfits))
bits_4 (negsuc n) f = residue_below (negsuc n) (256 ^ 4) (4294967296 - suc n) (lt_z_yes tt) (omega (arith, f.sfits))

wider : (x : ℤ) → SFits w32 x → SFits w64 x
wider (pos n) f = record { sfits = omega (arith, f.sfits) }
wider (negsuc n) f = record { sfits = omega (arith, f.sfits) }

bits_8 : (x : ℤ) → SFits w64 x → of_z w64 x ≡ nat_abs (floor_mod x (pos (256 ^ 8)))
bits_8 (pos n) f = residue_whole (pos n) (256 ^ 8) (nat_nonneg n) (omega (arith, f.sfits))
bits_8 (negsuc n) f = residue_below (negsuc n) (256 ^ 8) (18446744073709551616 - suc n) (lt_z_yes tt) (omega (arith, f.sfits))

-- so they are its residue at that width
residue_of : (k most : ℕ) {x : ℤ} {r : ℕ} → SFits w64 x → most + 1 ≡ 256 ^ k → r ≡ nat_abs (floor_mod x (pos (256 ^ k))) → Residue most (held x) r
residue_of k most {x} f m e = record { same = λ l n. e ∙ ap₂ (λ y p. nat_abs (floor_mod y (pos p))) (sym (to_z-of_z f)) (sym m ∙ n) }

-- ---- as a call on a local has them
module _ {x : ℤ} {b : List ℕ} where
  pub i32_bytes : SFits w32 x → b ≡ to_le_bytes w32 (of_z w32 (to_z w32 (of_z w32 x))) → b ≡ signed_bytes 4 x
  i32_bytes f e =
      let g : SFits w64 x = wider x f in
      e
      ∙ ap (λ y. to_le_bytes w32 (of_z w32 y)) (to_z-of_z f)
      ∙ u32_bytes (of_z w32 x)
      ∙ signed_bytes_lem 4 4294967295 (of_z w32 x) refl g (residue_of 4 4294967295 g refl (bits_4 x f))

  pub i64_bytes : SFits w64 x → b ≡ to_le_bytes w64 (of_z w64 (held x)) → b ≡ signed_bytes 8 x
  i64_bytes f e =
      e
      ∙ ap (λ y. to_le_bytes w64 (of_z w64 y)) (to_z-of_z f)
      ∙ u64_bytes (of_z w64 x)
      ∙ signed_bytes_lem 8 18446744073709551615 (of_z w64 x) refl f (residue_of 8 18446744073709551615 f refl (bits_8 x f))

  -- a local of 64 bits that is cast to 32
  pub cast_bytes : {m : ℕ} → SFits w64 x → Within m x → m < 2147483648 → b ≡ to_le_bytes w32 (of_z w32 (to_z w32 (of_z w32 (held x)))) → b ≡ signed_bytes 4 x
  cast_bytes f h l e =
      i32_bytes (lin (x ∷ []) h (search signed depth 20) (omega (arith, l))) (e ∙ ap (λ y. to_le_bytes w32 (of_z w32 (to_z w32 (of_z w32 y)))) (to_z-of_z f))
