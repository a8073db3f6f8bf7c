-- A working by a test: it gives its value where the test passes, and refuses elsewhere.
use mathlib.Core.Path.{◌≡◌, refl, sym, ◌∙◌, ap}
use mathlib.Core.Bool.{Bool, true, false, ◌&&◌, and-eq-true_iff}
use mathlib.Core.Logic.{◌↔◌}
use native.Mathlib.Omega.{arith}
use Prim.Native.Nat.{ℕ}
use Rattle.reasons.specs.Answer.{WorkingAnswer, gives, refused, answer_if, RefusedUnless}

-- two tests, of which the second is made where the first passes
pub and_iff : {s t : Bool} {P Q : Type 0} → (s ≡ true) ↔ P → (t ≡ true) ↔ Q → (s && t ≡ true) ↔ (P × Q)
and_iff {s} {t} h k = (λ e. let (a, b) = (and-eq-true_iff s t).0 e in (h.0 a, k.0 b), λ p. (and-eq-true_iff s t).1 (h.1 p.0, k.1 p.1))

pub not_both : {A : Type 0} {x : A} {m n : ℕ} → gives x ≡ refused m n → ⊥
not_both e = let z : ◌≡◌ {A = ℕ} 0 1 = cc in omega arith

module _ {A P : Type 0} {test : Bool} (iff : (test ≡ true) ↔ P) (x : A) where
  pub gives_where : P → answer_if test x ≡ gives x
  gives_where p = ap (λ t. answer_if t x) (iff.1 p)

  pub refuses_where : ¬ P → answer_if test x ≡ refused 9 0
  refuses_where h = go test refl
    where
      go : (t : Bool) → test ≡ t → answer_if t x ≡ refused 9 0
      go true e = absurd (h (iff.0 e))
      go false e = refl

  -- the same in one: refused exactly where P does not hold
  pub refused_unless : {y : WorkingAnswer A} → y ≡ answer_if test x → RefusedUnless P y
  refused_unless e = (λ z p. not_both (sym (gives_where p) ∙ sym e ∙ z), λ h. e ∙ refuses_where h)
