-- `inside` meets its contract: it is `cycle` of the model.
use mathlib.Core.Path.{◌≡◌, refl, sym, ◌∙◌, ap, ap₂}
use mathlib.Core.Logic.{◌≢◌}
use mathlib.Core.Option.{none, some}
use lib.Dec.{eqb}
use borrow.Author.Tests.{eq-eqb, ne_eqb}
use mir.Syntax.{w64}
use mir.Val.{SFits, of_z}
use mir.Facts.{to_z-of_z}
use Rattle.ints.specs.Within.{Within}
use Rattle.ints.specs.Equal.{is_equal}
use Rattle.ints.proofs.{ℤ, pos, ◌+ℤ◌, ◌-ℤ◌, ◌*ℤ◌, [], ◌∷◌, arith, lin, ◌&◌, facts, Within-mul}
use Rattle.ints.proofs.Signed.{held, bits_zero}
use Rattle.runs.specs.declared.Run.{Run}
use Rattle.runs.specs.declared.Equation.{Equation}
use Rattle.runs.specs.Run.{empty}
use Rattle.families.specs.FamilyRun.{FamilyRun}
use Rattle.families.specs.Model.{coefficient, residual, candidate, cycle}
use Rattle.families.proofs.FamilySizes.{first-Within, step-Within}
use Rattle.solver.specs.Widths.{Combinable}
use Rattle.solver.proofs.In64Bits.{fits_64, held-first, held-step, crossable}
use Rattle.solver.proofs.cycle.inside.Goals.{After-combined}
use Rattle.solver.proofs.cycle.inside.Goals as goal

-- the arguments of the two combinations
module _ {r : Run} (f : FamilyRun r) where
  step_asked : Within 2000000000 (held r.step)
  step_asked = rw (held-step (crossable f)) (step-Within f)

  first_asked : Within 2000000000 (held r.first)
  first_asked = rw (held-first (crossable f)) (lin (r.first ∷ []) (first-Within f) (search facts depth 20) (omega arith))

-- d and u are the two combinations
record Known (e : Equation) (P Q : Run) (d u : ℤ) : Type 0 where
  lim : Combinable e
  left : FamilyRun P
  right : FamilyRun Q
  d_is : d ≡ e.a *ℤ held P.step +ℤ e.b *ℤ held Q.step
  d_fits : SFits w64 d
  u_is : u ≡ e.a *ℤ held P.first +ℤ e.b *ℤ held Q.first
  u_fits : SFits w64 u

-- the size of such a combination
sum-Within : (e : Equation) (x y z : ℤ) → Combinable e → Within 2000000000 x → Within 2000000000 y → z ≡ e.a *ℤ x +ℤ e.b *ℤ y → Within 8000000000000000 z
sum-Within e x y z lim v w h =
    lin (e.a ∷ e.b ∷ x ∷ y ∷ z ∷ []) (Within-mul lim.left v & Within-mul lim.right w & h) (search facts depth 20) (omega arith)

module _ {e : Equation} {P Q : Run} {d u : ℤ} (k : Known e P Q d u) where
  d_there : d ≡ coefficient e P Q
  d_there = k.d_is ∙ ap₂ (λ x y. e.a *ℤ x +ℤ e.b *ℤ y) (held-step (crossable k.left)) (held-step (crossable k.right))

  u_there : u ≡ e.a *ℤ P.first +ℤ e.b *ℤ Q.first
  u_there = k.u_is ∙ ap₂ (λ x y. e.a *ℤ x +ℤ e.b *ℤ y) (held-first (crossable k.left)) (held-first (crossable k.right))

  d_Within : Within 8000000000000000 d
  d_Within = sum-Within e (held P.step) (held Q.step) d k.lim (step_asked k.left) (step_asked k.right) k.d_is

  u_Within : Within 8000000000000000 u
  u_Within = sum-Within e (held P.first) (held Q.first) u k.lim (first_asked k.left) (first_asked k.right) k.u_is

  fits_c : SFits w64 e.c
  fits_c = fits_64 2000000000000000 (omega arith) k.lim.constant

  v_Within : Within 10000000000000000 (e.c -ℤ u)
  v_Within = lin (e.c ∷ u ∷ []) (k.lim.constant & u_Within) (search facts depth 20) (omega arith)

  fits_v : SFits w64 (e.c -ℤ u)
  fits_v = fits_64 10000000000000000 (omega arith) v_Within

  v_asked : SFits w64 (held e.c -ℤ held u)
  v_asked = rw (to_z-of_z fits_c, to_z-of_z k.u_fits) fits_v

  -- as a local holds it
  v_held : held (held e.c -ℤ held u) ≡ residual e P Q
  v_held = rw (to_z-of_z fits_c, to_z-of_z k.u_fits) (to_z-of_z fits_v ∙ ap (λ t. e.c -ℤ t) u_there)

  -- the tests, on the bits
  abbrev v : ℤ
  v = held e.c -ℤ held u

  v_zero : eqb (of_z w64 v) 0 ≡ is_equal (residual e P Q) (pos 0)
  v_zero = bits_zero w64 v v_asked ∙ ap (λ t. is_equal t (pos 0)) (sym (to_z-of_z v_asked) ∙ v_held)

  d_zero : eqb (of_z w64 d) 0 ≡ is_equal (coefficient e P Q) (pos 0)
  d_zero = bits_zero w64 d k.d_fits ∙ ap (λ t. is_equal t (pos 0)) d_there

  module _ (h : of_z w64 d ≢ 0) where
    candidate_asked : Within 10000000000000000 (held v) × (Within 10000000000000000 (held d) × (held d ≢ pos 0))
    candidate_asked = rw (to_z-of_z k.d_fits) (
      rw v_held (rw u_there at v_Within),
      (lin (d ∷ []) d_Within (search facts depth 20) (omega arith), λ z. h (ap (of_z w64) z)),
    )

    leaves : (r : Run) → r ≡ candidate (held v) (held d) P.many → some r ≡ cycle e P Q
    leaves r q =
        let there : candidate (held v) (held d) P.many ≡ candidate (residual e P Q) (coefficient e P Q) P.many =
        ap₂ (λ v d. candidate v d P.many) v_held (to_z-of_z k.d_fits ∙ d_there) in
        rw (sym d_zero ∙ ne_eqb (of_z w64 d) 0 h) (ap some (q ∙ there))

  module _ (z : of_z w64 d ≡ 0) where
    nothing : of_z w64 v ≢ 0 → (r : Run) → r ≡ empty → some r ≡ cycle e P Q
    nothing h r q = rw (sym d_zero ∙ eq-eqb (of_z w64 d) 0 z, sym v_zero ∙ ne_eqb (of_z w64 v) 0 h) (ap some q)

    everything : of_z w64 v ≡ 0 → none ≡ cycle e P Q
    everything h = rw (sym d_zero ∙ eq-eqb (of_z w64 d) 0 z, sym v_zero ∙ eq-eqb (of_z w64 v) 0 h) refl

pub combined-coefficient-requires : goal.combined-coefficient-requires
combined-coefficient-requires c = record { combinable = c.requires.combinable; small_x = step_asked c.requires.left_family; small_y = step_asked c.requires.right_family }

pub combined-requires : goal.combined-requires
combined-requires c = record { combinable = c.requires.combinable; small_x = first_asked c.requires.left_family; small_y = first_asked c.requires.right_family }

-- after both
module _ (c : After-combined) where
  abbrev known : Known c.args.e c.args.p c.args.q c.combined-coefficient.result c.combined.result
  known = record {
    lim = c.requires.combinable;
    left = c.requires.left_family;
    right = c.requires.right_family;
    d_is = c.combined-coefficient.ensures;
    d_fits = record { sfits = c.combined-coefficient.type_inv };
    u_is = c.combined.ensures;
    u_fits = record { sfits = c.combined.type_inv };
  }

pub overflow_sub-value : goal.overflow_sub-value
overflow_sub-value c = v_asked (known (goal.at.overflow_sub-value c).After-combined)

pub candidate-requires : goal.candidate-requires
candidate-requires c = let both = candidate_asked (known (goal.at.candidate-requires c).After-combined) c.if-coefficient-ne0.true in record { small_value = both.0; small_coefficient = both.1.0; coefficient_nonzero = both.1.1 }

pub returns-then-coefficient-ne0 : goal.returns-then-coefficient-ne0
returns-then-coefficient-ne0 c = leaves (known (goal.at.returns-then-coefficient-ne0 c).After-combined) c.if-coefficient-ne0.true c.candidate.result c.candidate.ensures

pub returns-then-value-ne0 : goal.returns-then-value-ne0
returns-then-value-ne0 c = nothing (known (goal.at.returns-then-value-ne0 c).After-combined) c.if-coefficient-ne0.false c.if-value-ne0.true c.empty.result c.empty.ensures

pub returns : goal.returns
returns c = everything (known (goal.at.returns c).After-combined) c.if-coefficient-ne0.false c.if-value-ne0.false
