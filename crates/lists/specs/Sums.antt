-- Sums over ℕ → ℤ.
use Rattle.std.specs.Prelude.{Bool, true, false, ℕ, zero, suc, eqb, ℤ, pos, ◌+ℤ◌}

-- f 0 + f 1 + .. + f (n − 1)
unfoldable pub sum : ℕ → (ℕ → ℤ) → ℤ
sum zero f = pos 0
sum (suc n) f = sum n f +ℤ f n

-- the number itself, or 0
abbrev pub pick : Bool → ℤ → ℤ
pick true x = x
pick false x = pos 0

-- the same sum over those i alone whose label is g
abbrev pub sum_of : (ℕ → ℕ) → ℕ → ℕ → (ℕ → ℤ) → ℤ
sum_of label g n f = sum n (λ i. pick (eqb (label i) g) (f i))
