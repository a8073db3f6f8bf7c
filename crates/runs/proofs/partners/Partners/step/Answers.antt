-- `Partners::step` meets its contract.
use mathlib.Core.Path.{◌≡◌, refl, ◌∙◌, ap}
use mir.Syntax.{w64}
use mir.Val.{SFits}
use mir.Facts.{to_z-of_z}
use Rattle.ints.specs.Within.{Within}
use Rattle.ints.specs.Floor.{floor_div}
use Rattle.ints.specs.Division.{DivisionLimits, limit}
use Rattle.ints.proofs.{ℤ, pos, nat_abs, ◌*ℤ◌, [], ◌∷◌, arith, lin, ◌&◌, facts, signed}
use Rattle.ints.proofs.Floor.{floor-Within}
use Rattle.ints.proofs.Answers.{fits_limit, asked, answered}
use Rattle.runs.specs.Run.{Run}
use Rattle.runs.specs.Workings.{Equation}
use Rattle.runs.specs.Method.{Class, Carriable, AllSolutions, stride, places_with_partner, step_of}
use Rattle.runs.proofs.ClassOfRun.{stride_small}
use Rattle.runs.proofs.SolutionPeriod.{period_above, period_within}
use Rattle.runs.proofs.CarryMethod.{product_small, parts_above}
use Rattle.ints.proofs.Signed.{held}
use Rattle.runs.proofs.CarryWidths.{fits_b}
use Rattle.runs.proofs.Solved.{known}
use Rattle.runs.proofs.partners.Partners.step.Goals as goal

-- n is the size of b, t the stride and g a divided by the period
module _ {e : Equation} {q : Run} {j : Class} (p : Carriable e q × AllSolutions (places_with_partner e q) j) where
  abbrev G : ℤ
  G = floor_div e.a j.step

  limits_a : DivisionLimits e.a j.step
  limits_a = record {
    dividend = lin (e.a ∷ []) p.0.limits.left (search facts depth 20) (omega arith);
    divisor = lin (e.a ∷ j.step ∷ []) (p.0.limits.left & period_within p.1 p.0.above & period_above p.1) (search facts depth 20) (omega arith);
    not_zero = λ z. lin (j.step ∷ []) (z & period_above p.1) (search facts depth 20) (omega arith);
  }

  module _ (n : ℤ) (is : n ≡ pos (nat_abs (held e.b))) where
    n_is : n ≡ pos (nat_abs e.b)
    n_is = is ∙ ap (λ b. pos (nat_abs b)) (to_z-of_z (fits_b p.0.limits))

    n_small : Within 1000000 n
    n_small = rw n_is record { size = p.0.limits.right.size }

    fits_n : SFits w64 n
    fits_n = lin (n ∷ []) n_small (search signed depth 20) (omega arith)

    module _ (t : ℤ) (t_is : t ≡ stride q) where
      fits_t : SFits w64 t
      fits_t = rw t_is (lin (stride q ∷ []) (stride_small p.0.form p.0.some) (search signed depth 20) (omega arith))

      product_Within : Within limit (n *ℤ t)
      product_Within = rw (n_is, t_is) (lin (pos (nat_abs e.b) ∷ stride q ∷ []) (product_small p.0) (search facts depth 20) (omega arith))

      product_asked : SFits w64 (held n *ℤ held t)
      product_asked = rw (to_z-of_z fits_n, to_z-of_z fits_t) (fits_limit product_Within)

      module _ (g : ℤ) (eq : g ≡ floor_div (held e.a) (held j.step)) where
        g_is : g ≡ G
        g_is = answered limits_a floor_div eq

        limits_g : DivisionLimits (n *ℤ t) g
        limits_g = record {
          dividend = product_Within;
          divisor = rw g_is (floor-Within e.a j.step limits_a.not_zero limits_a.dividend);
          not_zero = rw g_is (lin (G ∷ []) (parts_above p.0 p.1) (search facts depth 20) (omega arith));
        }

        limits_asked : DivisionLimits (held (held n *ℤ held t)) (held g)
        limits_asked = rw (to_z-of_z fits_n, to_z-of_z fits_t) (asked limits_g)

        result_is : (r : ℤ) → SFits w64 r → r ≡ floor_div (held (held n *ℤ held t)) (held g) → held r ≡ step_of e q j
        result_is r fits h =
            let h' : r ≡ floor_div (held (n *ℤ t)) (held g) = rw (to_z-of_z fits_n, to_z-of_z fits_t) at h in
            to_z-of_z fits ∙ answered limits_g floor_div h' ∙ rw (n_is, t_is, g_is) refl

pub overflow_mul-abs : goal.overflow_mul-abs
overflow_mul-abs c = product_asked (known c.args.self) c.abs.result c.abs.ensures.value c.stride.result c.stride.ensures

pub quotient-requires : goal.quotient-requires
quotient-requires c = asked (limits_a (known c.args.self))

pub quotient-requires-2 : goal.quotient-requires-2
quotient-requires-2 c = limits_asked (known c.args.self) c.abs.result c.abs.ensures.value c.stride.result c.stride.ensures c.quotient.result c.quotient.ensures

pub returns : goal.returns
returns c = result_is (known c.args.self) c.abs.result c.abs.ensures.value c.stride.result c.stride.ensures c.quotient.result c.quotient.ensures
    c.quotient-2.result record { sfits = c.quotient-2.type_inv } c.quotient-2.ensures
