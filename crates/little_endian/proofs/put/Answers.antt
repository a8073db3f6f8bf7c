-- `put` meets its contract: byte for byte.
use mathlib.Core.Path.{◌≡◌, refl, sym, ◌∙◌, ap, ap₂}
use mathlib.Core.List.{List, [], ◌∷◌}
use Prim.Native.Nat.{ℕ, suc, ◌+◌, ◌≤◌, ◌<◌, ◌/◌, ◌%◌}
use native.Mathlib.Omega.{arith}
use lib.ListN.{length, set}
use Rattle.little_endian.specs.LittleEndian.{bytes_of}
use Rattle.little_endian.specs.Over.{over}
use Rattle.little_endian.proofs.LittleEndian.{shifted, shifted_next, bytes_next, length-bytes_of}
use Rattle.little_endian.proofs.Over.{over_none, over_set, over-over, length-over}
use Rattle.little_endian.proofs.put.Goals as goal
use Rattle.little_endian.proofs.put.Invariants.{Put}

start : (at x : ℕ) (a : List ℕ) → at ≤ length a → a ≡ over at (bytes_of 0 x) a
unfolding bytes_of
start at x a h = sym (over_none at a h)

-- one byte more
module _ {a₀ a : List ℕ} {at i x rest : ℕ} (p : Put a₀ a at x rest i) (h : at + i < length a₀) where
  more : suc i ≡ i + 1
  more = omega arith

  inside : at + i < length a
  inside = let e : length a ≡ length a₀ = ap length p.is ∙ length-over at (bytes_of i x) a₀ (omega (arith, length-bytes_of i x)) in omega (arith, e, h)

  next : Put a₀ (set a (at + i) (rest % 256)) at x (rest / 256) (i + 1)
  next = record {
    left = ap (λ r. r / 256) p.left ∙ shifted_next i x ∙ ap (λ k. shifted k x) more;
    is =
        over_set a (at + i) (rest % 256) inside
        ∙ ap₂ (λ r t. over (at + i) ((r % 256) ∷ []) t) p.left p.is
        ∙ over-over at (bytes_of i x) ((shifted i x % 256) ∷ []) a₀ (omega (arith, length-bytes_of i x)) (omega (arith, length-bytes_of i x))
        ∙ ap (λ b. over at b a₀) (bytes_next i x ∙ ap (λ k. bytes_of k x) more);
  }

pub loop-i-init : goal.loop-i-init
loop-i-init c = record { left = refl; is = start c.args.at c.args.x c.args.area.now (omega (arith, c.requires)) }

pub loop-i-preserved : goal.loop-i-preserved
loop-i-preserved c = next c.loop-i.invariant (omega (arith, c.requires))
