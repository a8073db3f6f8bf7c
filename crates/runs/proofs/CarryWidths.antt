-- How large the numbers are that carrying works with: within the limits each fits 64 bits.
use mathlib.Core.Path.{◌≡◌, ◌∙◌, ap}
use mir.Syntax.{w64}
use mir.Val.{SFits}
use mir.Facts.{to_z-of_z}
use Rattle.ints.specs.Within.{Within}
use Rattle.ints.proofs.{ℤ, ◌*ℤ◌, [], ◌∷◌, arith, lin, ◌&◌, facts, Within-mul, signed}
use Rattle.ints.proofs.Signed.{held}
use Rattle.ints.proofs.Answers.{asked, answered}
use Rattle.runs.specs.Run.{bound}
use Rattle.runs.specs.Workings.{Equation, CarryLimits}
use Rattle.runs.specs.Method.{partner_value}
use Rattle.ints.specs.Division.{DivisionLimits}

module _ {e : Equation} (lim : CarryLimits e) where
  pub fits_a : SFits w64 e.a
  fits_a = lin (e.a ∷ []) lim.left (search signed depth 20) (omega arith)

  pub fits_b : SFits w64 e.b
  fits_b = lin (e.b ∷ []) lim.right (search signed depth 20) (omega arith)

  pub fits_c : SFits w64 e.c
  fits_c = lin (e.c ∷ []) lim.constant (search signed depth 20) (omega arith)

  -- c − b·q of a number within the range
  module _ {q : ℤ} (w : Within bound q) where
    pub fits_q : SFits w64 q
    fits_q = lin (q ∷ []) w (search signed depth 20) (omega arith)

    pub fits_product : SFits w64 (e.b *ℤ q)
    fits_product = lin (e.b ∷ q ∷ []) (Within-mul lim.right w) (search signed depth 20) (omega arith)

    pub value_Within : Within 3000000000000000 (partner_value e q)
    value_Within = lin (e.b ∷ e.c ∷ q ∷ []) (lim.constant & Within-mul lim.right w) (search facts depth 20) (omega arith)

    pub fits_value : SFits w64 (partner_value e q)
    fits_value = lin (partner_value e q ∷ []) value_Within (search signed depth 20) (omega arith)

    -- v is what the program's value of q came to, and r what it was divided to
    module _ (v : ℤ) (is : v ≡ partner_value e (held q)) where
      v_is : v ≡ partner_value e q
      v_is = is ∙ ap (partner_value e) (to_z-of_z fits_q)

      limits_v : DivisionLimits v e.a
      limits_v = rw v_is record {
        dividend = lin (partner_value e q ∷ []) value_Within (search facts depth 20) (omega arith);
        divisor = lin (e.a ∷ []) lim.left (search facts depth 20) (omega arith);
        not_zero = lim.left_not_zero;
      }

      pub divided_asked : DivisionLimits (held v) (held e.a)
      divided_asked = asked limits_v

      pub divided_is : (op : ℤ → ℤ → ℤ) (r : ℤ) → SFits w64 r → r ≡ op (held v) (held e.a) → held r ≡ op (partner_value e q) e.a
      divided_is op r fits d = to_z-of_z fits ∙ answered limits_v op d ∙ ap (λ t. op t e.a) v_is
