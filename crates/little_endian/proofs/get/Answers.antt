-- `get` meets its contract: from the highest byte down, what is read is the number in the bytes above.
use mathlib.Core.Path.{◌≡◌, ◌∙◌, ap}
use mathlib.Core.List.{List}
use Prim.Native.Nat.{ℕ, suc, ◌+◌, ◌*◌, ◌-◌, ◌^◌, ◌≤◌, ◌<◌}
use native.Mathlib.Nat.{pow-le-pow_right}
use native.Mathlib.Omega.{arith}
use lib.ListN.{get_or}
use Rattle.little_endian.specs.LittleEndian.{unsigned}
use Rattle.little_endian.proofs.LittleEndian.{unsigned_none, unsigned_more, below_more}
use Rattle.little_endian.proofs.get.Goals as goal
use Rattle.little_endian.proofs.get.Invariants.{Read}

-- one byte more: as many as 8 fit 64 bits
module _ {s : List ℕ} {at width x i : ℕ} (r : Read s at width x i) (more : i < width) (most : width ≤ 8) where
  one_more : suc i ≡ i + 1
  one_more = omega arith

  next_below : {b : ℕ} → b < 256 → 256 * x + b < 256 ^ (i + 1)
  next_below h = rw (← one_more) (below_more i r.below h)

  fits : {b : ℕ} → b < 256 → 256 * x + b < 18446744073709551616
  fits h =
      let powers : 256 ^ (i + 1) ≤ 256 ^ 8 = pow-le-pow_right {n = 256} (omega arith) {j = 8} (omega arith) in
      omega (arith, next_below h)

  next : {b : ℕ} → b ≡ get_or s (at + (width - 1 - i)) 0 → b < 256 → Read s at width (256 * x + b) (i + 1)
  next e h =
      let place : at + (width - i) ≡ at + (width - 1 - i) + 1 = omega arith in
      let here : at + (width - (i + 1)) ≡ at + (width - 1 - i) = omega arith in
      record { is = rw (here, e) (rw (← one_more) (unsigned_more i s (at + (width - 1 - i)) (r.is ∙ ap (unsigned i s) place))); below = next_below h }

pub loop-i-init : goal.loop-i-init
loop-i-init c = record { is = unsigned_none c.args.s.now _; below = omega arith }

pub overflow_mul-x : goal.overflow_mul-x
overflow_mul-x c = record { fits = omega (arith, fits c.loop-i.invariant (omega arith) c.requires.at_most_8 {b = 0} (omega arith)) }

byte : (c : goal.After-from) → c.from.result < 256
byte c = let b = c.type_inv.s (c.args.at + (c.args.width - 1 - c.loop-i.i)) in rw c.from.ensures b.fits

pub overflow_add-x : goal.overflow_add-x
overflow_add-x c = record { fits = fits c.loop-i.invariant (omega arith) c.requires.at_most_8 (byte c) }

pub loop-i-preserved : goal.loop-i-preserved
loop-i-preserved c = next c.loop-i.invariant (omega arith) c.requires.at_most_8 c.from.ensures (byte c)
