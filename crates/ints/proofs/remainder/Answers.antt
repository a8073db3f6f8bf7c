-- `ints::remainder` meets its contract: the product is the dividend less the remainder, so it fits.
use mathlib.Core.Path.{◌≡◌, ◌∙◌, ap, ap₂}
use mathlib.Core.List.{List, [], ◌∷◌}
use native.Mathlib.Omega.{arith}
use lib.IntN.{ℤ, ◌+ℤ◌, ◌-ℤ◌, ◌*ℤ◌}
use mir.Syntax.{w64}
use mir.Val.{SFits}
use mir.Facts.{to_z-of_z}
use Rattle.ints.specs.Floor.{floor_div, floor_mod}
use Rattle.ints.proofs.Linear.{lin, ◌&◌, facts}
use Rattle.ints.proofs.Signed.{signed}
use Rattle.ints.proofs.Floor.{div_mod, mod-Within}
use Rattle.ints.proofs.remainder.Goals.{After-quotient}
use Rattle.ints.proofs.remainder.Goals as goal

module _ (c : After-quotient) where
  abbrev n : ℤ
  n = c.args.n

  abbrev d : ℤ
  d = c.args.d

  abbrev q : ℤ
  q = c.quotient.result

  abbrev ρ : List ℤ
  ρ = n ∷ d ∷ q ∷ floor_mod n d ∷ []

  q_is : q ≡ floor_div n d
  q_is = rw (to_z-of_z c.ranges.n, to_z-of_z c.ranges.d) at c.quotient.ensures

  -- d·q and the remainder make n
  sum : d *ℤ q +ℤ floor_mod n d ≡ n
  sum = ap (λ t. d *ℤ t +ℤ floor_mod n d) q_is ∙ div_mod n d

  fits_q : SFits w64 q
  fits_q = record { sfits = c.quotient.type_inv }

  fits_p : SFits w64 (d *ℤ q)
  fits_p = lin ρ (sum & mod-Within n d c.requires.not_zero c.requires.divisor & c.requires.dividend) (search signed depth 20) (omega arith)

pub overflow_mul-result : goal.overflow_mul-result
overflow_mul-result c = rw (to_z-of_z c.ranges.d, to_z-of_z (fits_q c)) (fits_p c)

pub overflow_sub-result : goal.overflow_sub-result
overflow_sub-result c = lin (ρ c) (sum c & mod-Within (n c) (d c) c.requires.not_zero c.requires.divisor)
    (search (signed, c.ranges.n, c.ranges.d, fits_q c, overflow_mul-result c) depth 20) (omega arith)

pub returns : goal.returns
returns c = let rest : n c -ℤ d c *ℤ q c ≡ floor_mod (n c) (d c) = lin (ρ c) (sum c) (search facts depth 20) (omega arith) in
    to_z-of_z (overflow_sub-result c) ∙ ap₂ ◌-ℤ◌ (to_z-of_z c.ranges.n) (to_z-of_z (overflow_mul-result c) ∙ ap₂ ◌*ℤ◌ (to_z-of_z c.ranges.d) (to_z-of_z (fits_q c))) ∙ rest
