-- Weights times numbers, added up in 64 bits.
use mathlib.Core.Path.{◌≡◌, sym, ◌∙◌, ap, ap₂, subst}
use mathlib.Core.Bool.{Bool, true, false}
use Prim.Native.Nat.{ℕ, ◌≤◌, ◌<◌}
use mir.Syntax.{w64}
use mir.Val.{SFits}
use mir.Facts.{to_z-of_z}
use lib.Dec.{eqb}
use Rattle.ints.specs.Within.{Within}
use Rattle.ints.proofs.{ℤ, ◌+ℤ◌, ◌*ℤ◌, [], ◌∷◌, arith, lin, ◌&◌, facts, Within-mul}
use Rattle.ints.proofs.Signed.{held}
use Rattle.lists.specs.Sums.{sum, pick, sum_of}
use Rattle.lists.proofs.Sums.{sum-Within}
use Rattle.solver.proofs.In64Bits.{fits_64}

-- ---- one product more. The locals hold s', w' and x'; a product is at most 2,000,000,000,000,000 in size.
module _ {s w x s' w' x' : ℤ} (p : s' ≡ s) (q : w' ≡ w) (r : x' ≡ x) (a : Within 1000000 w) (b : Within 2000000000 x) (c : Within 600000000000000000 s) where
  product : w' *ℤ x' ≡ w *ℤ x
  product = ap₂ ◌*ℤ◌ q r

  Within-product : Within 2000000000000000 (w *ℤ x)
  Within-product = Within-mul a b

  pub fits_product : SFits w64 (w' *ℤ x')
  fits_product = subst (SFits w64) (sym product) (fits_64 2000000000000000 (omega arith) Within-product)

  total : s' +ℤ held (w' *ℤ x') ≡ s +ℤ w *ℤ x
  total = ap₂ ◌+ℤ◌ p (to_z-of_z fits_product ∙ product)

  fits_sum : SFits w64 (s +ℤ w *ℤ x)
  fits_sum = fits_64 700000000000000000 (omega arith) (lin (s ∷ (w *ℤ x) ∷ []) (c & Within-product) (search facts depth 20) (omega arith))

  pub fits_total : SFits w64 (s' +ℤ held (w' *ℤ x'))
  fits_total = subst (SFits w64) (sym total) fits_sum

  pub total_is : held (s' +ℤ held (w' *ℤ x')) ≡ s +ℤ w *ℤ x
  total_is = ap held total ∙ to_z-of_z fits_sum

-- ---- sums over the first i of n variables: those of one label, and all
module _ {n : ℕ} (small : n ≤ 256) (w x : ℕ → ℤ) (a : (k : ℕ) → k < n → Within 1000000 (w k)) (b : (k : ℕ) → k < n → Within 2000000000 (x k)) where
  pub sums_Within : (g : ℕ → ℕ) (l i : ℕ) → i ≤ n → Within 600000000000000000 (sum_of g l i (λ k. w k *ℤ x k))
  sums_Within g l i h =
      let f = sum-Within i 2000000000000000 (λ k. pick (eqb (g k) l) (w k *ℤ x k)) (λ k d. picked (eqb (g k) l) (omega (arith, d))) in
      record { size = omega (arith, f.size, small) }
    where
      picked : {k : ℕ} (t : Bool) → k < n → Within 2000000000000000 (pick t (w k *ℤ x k))
      picked {k} true d = Within-mul (a k d) (b k d)
      picked {k} false d = record { size = omega arith }

  pub total_Within : (i : ℕ) → i ≤ n → Within 600000000000000000 (sum i (λ k. w k *ℤ x k))
  total_Within i h =
      let f = sum-Within i 2000000000000000 (λ k. w k *ℤ x k) (λ k d. Within-mul (a k (omega (arith, d))) (b k (omega (arith, d)))) in
      record { size = omega (arith, f.size, small) }
