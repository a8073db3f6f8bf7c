-- Document 02's sentences on equations that join no two counts: such a one says coefficient · home = c, where the coefficient is the sum
-- of the two; "0 = c with c not 0 leaves that group without a fit", and 0 = 0 leaves everything.
use mathlib.Core.Path.{◌≡◌, sym, ◌∙◌, ap}
use mathlib.Core.Logic.{◌≢◌}
use mathlib.Core.List.{List, [], ◌∷◌}
use Prim.Native.Nat.{ℕ, ◌<◌}
use lib.ListN.{length}
use Rattle.ints.proofs.{ℤ, pos, ◌+ℤ◌, ◌*ℤ◌, arith, lin, lin₀, facts}
use Rattle.jobs.specs.Job.{Equation, Job, equation}
use Rattle.jobs.specs.NormalForm.{Binary, home}
use Rattle.jobs.specs.Solution.{number, value}
use Rattle.jobs.specs.Component.{Joined}
use Rattle.jobs.specs.Demands.{SolvesGroup}
use Rattle.jobs.proofs.NormalForm.{normal-unary, normal-value}

one_term : (d h : ℤ) → d *ℤ h +ℤ pos 0 *ℤ h ≡ d *ℤ h
one_term d h = lin₀ (d ∷ h ∷ []) (search facts depth 20) (omega arith)

nothing : (d h : ℤ) → d ≡ pos 0 → d *ℤ h ≡ pos 0
nothing d h z = lin (d ∷ h ∷ []) (ap (λ t. t *ℤ h) z) (search facts depth 20) (omega arith)

module _ (e : Equation) (unary : ¬ Binary e) (x : List ℤ) where
  abbrev coefficient : ℤ
  coefficient = e.a +ℤ e.b

  pub value_is : value e x ≡ (e.a +ℤ e.b) *ℤ number x (home e)
  value_is = sym (normal-value e x) ∙ ap (λ e. value e x) (normal-unary e unary) ∙ one_term coefficient (number x (home e))

  -- 0 = 0 holds of every list, and 0 = c of none
  pub always : e.a +ℤ e.b ≡ pos 0 → e.c ≡ pos 0 → value e x ≡ e.c
  always z w = value_is ∙ nothing coefficient (number x (home e)) z ∙ sym w

  pub never : e.a +ℤ e.b ≡ pos 0 → e.c ≢ pos 0 → value e x ≢ e.c
  never z n q = n (sym q ∙ value_is ∙ nothing coefficient (number x (home e)) z)

-- ---- in the group that it belongs to
module _ (j : Job) (k : ℕ) (h : k < length j.equations) (unary : ¬ Binary (equation j k)) (l : ℕ) (inside : Joined j l (home (equation j k))) (x : List ℤ) where
  -- every fit-out keeps coefficient · home = c
  pub fixed : SolvesGroup j l x → ((equation j k).a +ℤ (equation j k).b) *ℤ number x (home (equation j k)) ≡ (equation j k).c
  fixed s = sym (value_is (equation j k) unary x) ∙ s.holds k h inside

  pub leaves_none : (equation j k).a +ℤ (equation j k).b ≡ pos 0 → (equation j k).c ≢ pos 0 → ¬ SolvesGroup j l x
  leaves_none z n s = never (equation j k) unary x z n (s.holds k h inside)
