-- Divisibility over ℤ, for divisors of either sign.
use Rattle.std.specs.Prelude.{◌≡◌, ℤ, pos, ◌-ℤ◌, ◌*ℤ◌, ◌≤ℤ◌}

-- d divides n
infix 50 ◌∣ℤ◌
pub record ◌∣ℤ◌ (d n : ℤ) : Type 0 where
  pub factor : ℤ
  pub exact : n ≡ d *ℤ factor

-- x ≡ y (mod d)
abbrev pub Congruent : ℤ → ℤ → ℤ → Type 0
Congruent d x y = d ∣ℤ (x -ℤ y)

-- g is the greatest common divisor of a and b
pub record IsGcd (a b g : ℤ) : Type 0 where
  pub not_negative : pos 0 ≤ℤ g
  pub left : g ∣ℤ a
  pub right : g ∣ℤ b
  pub greatest : (d : ℤ) → d ∣ℤ a → d ∣ℤ b → d ∣ℤ g
