-- The normal form of an equation: it has the same value for every list (`normal-value`), and two variables exactly where it joins them.
use mathlib.Core.Path.{◌≡◌, refl, sym, ◌∙◌, ap, subst}
use mathlib.Core.Logic.Iff
use mathlib.Core.Logic.{◌↔◌, ◌⊎◌, inl, inr, ⊎_map, ◌≢◌}
use mathlib.Core.Bool.{Bool, true, false, cond, not}
use mathlib.Core.List.{List, [], ◌∷◌}
use Prim.Native.Nat.{ℕ, ◌<◌}
use native.Mathlib.Decide.{ℕ_discrete}
use lib.Dec.{eqb}
use borrow.Author.Tests.{ne_eqb, eqb-false, not-true}
use Rattle.reasons.proofs.Answers.{and_iff}
use Rattle.ints.specs.Equal.{is_equal}
use Rattle.ints.proofs.{ℤ, pos, ◌+ℤ◌, ◌*ℤ◌, arith, lin, lin₀, ◌&◌, facts}
use Rattle.ints.proofs.Equal.{equal_true, equal_false, other_true}
use Rattle.runs.specs.Workings.{CarryLimits}
use Rattle.jobs.specs.Job.{Equation, form}
use Rattle.jobs.specs.NormalForm.{Binary, home, is_binary, normal}
use Rattle.jobs.specs.Solution.{number, value}
use Rattle.jobs.specs.Decide.{tested}
use Rattle.jobs.specs.ReasonTable.{Coefficients}

zero? : (x : ℤ) → Dec (x ≡ pos 0)
zero? x = tested (is_equal x (pos 0)) (equal_true x (pos 0))

-- a coefficient that is 0 may stand anywhere
moved : (a h p : ℤ) → (a ≡ pos 0) ⊎ (h ≡ p) → a *ℤ h ≡ a *ℤ p
moved a h p (inl z) = rw z (lin₀ (h ∷ p ∷ []) (search facts depth 20) (omega arith))
moved a h p (inr e) = ap (λ t. a *ℤ t) e

sum_at : (a b h p q : ℤ) → (a ≡ pos 0) ⊎ (h ≡ p) → (b ≡ pos 0) ⊎ (h ≡ q) → (a +ℤ b) *ℤ h +ℤ pos 0 *ℤ h ≡ a *ℤ p +ℤ b *ℤ q
sum_at a b h p q l r = lin (a ∷ b ∷ h ∷ p ∷ q ∷ []) (moved a h p l & moved b h q r) (search facts depth 20) (omega arith)

module _ (e : Equation) where
  pub Binary-iff : (is_binary e ≡ true) ↔ Binary e
  unfolding is_binary
  Binary-iff = Iff.trans (and_iff different_iff (and_iff (other_true e.a (pos 0)) (other_true e.b (pos 0)))) (
    λ p. record { different = p.0; left_not_zero = p.1.0; right_not_zero = p.1.1 },
    λ b. (b.different, (b.left_not_zero, b.right_not_zero)),
  )
    where
      different_iff : (not (eqb e.left e.right) ≡ true) ↔ (e.left ≢ e.right)
      different_iff = (λ t. eqb-false e.left e.right (not-true (eqb e.left e.right) t), λ d. ap not (ne_eqb e.left e.right d))

  pub Binary-false : ¬ Binary e → is_binary e ≡ false
  Binary-false n = go (is_binary e) refl
    where
      go : (t : Bool) → is_binary e ≡ t → t ≡ false
      go true t = absurd (n (Binary-iff.0 t))
      go false t = refl

  pub binary? : Dec (Binary e)
  binary? = tested (is_binary e) Binary-iff

  -- ---- the home
  pub home-left : e.a ≢ pos 0 → home e ≡ e.left
  unfolding home
  home-left n = ap (λ t. cond t (cond (is_equal e.b (pos 0)) e.left e.right) e.left) (equal_false e.a (pos 0) n)

  pub home-right : e.a ≡ pos 0 → e.b ≢ pos 0 → home e ≡ e.right
  unfolding home
  home-right z n = rw ((equal_true e.a (pos 0)).1 z, equal_false e.b (pos 0) n) refl

  pub home_none : e.a ≡ pos 0 → e.b ≡ pos 0 → home e ≡ e.left
  unfolding home
  home_none z w = rw ((equal_true e.a (pos 0)).1 z, (equal_true e.b (pos 0)).1 w) refl

  -- it is one of the two variables
  data Homed : Type 0 where
    by_left : e.a ≢ pos 0 → home e ≡ e.left → Homed
    by_right : e.a ≡ pos 0 → e.b ≢ pos 0 → home e ≡ e.right → Homed
    by_neither : e.a ≡ pos 0 → e.b ≡ pos 0 → home e ≡ e.left → Homed

  homed : Homed
  homed = go (zero? e.a) (zero? e.b)
    where
      go : Dec (e.a ≡ pos 0) → Dec (e.b ≡ pos 0) → Homed
      go (no n) d = by_left n (home-left n)
      go (yes z) (no n) = by_right z n (home-right z n)
      go (yes z) (yes w) = by_neither z w (home_none z w)

  -- ---- the normal form
  abbrev pub unary : Equation
  unary = record { left = home e; right = home e; a = e.a +ℤ e.b; b = pos 0; c = e.c }

  pub normal-Binary : Binary e → normal e ≡ e
  unfolding normal
  normal-Binary b = ap (λ t. cond t e unary) (Binary-iff.1 b)

  pub normal-unary : ¬ Binary e → normal e ≡ unary
  unfolding normal
  normal-unary n = ap (λ t. cond t e unary) (Binary-false n)

  -- what holds of either holds of it
  pub normal_cases : (P : Equation → Type 0) → (Binary e → P e) → (¬ Binary e → P unary) → P (normal e)
  normal_cases P two one = go binary?
    where
      go : Dec (Binary e) → P (normal e)
      go (yes b) = subst P (sym (normal-Binary b)) (two b)
      go (no n) = subst P (sym (normal-unary n)) (one n)

  pub normal_constant : (normal e).c ≡ e.c
  normal_constant = normal_cases (λ n. n.c ≡ e.c) (λ b. refl) (λ n. refl)

  pub normal-home : (normal e).left ≡ home e
  normal-home = normal_cases (λ n. n.left ≡ home e) (λ b. sym (home-left b.left_not_zero)) (λ n. refl)

  -- two variables only where it is binary
  pub normal_two : (normal e).left ≢ (normal e).right → Binary e
  normal_two = normal_cases (λ n. n.left ≢ n.right → Binary e) (λ b d. b) (λ n d. absurd (d refl))

  pub normal_one : ¬ Binary e → (normal e).left ≡ (normal e).right
  normal_one = normal_cases (λ n. ¬ Binary e → n.left ≡ n.right) (λ b n. absurd (n b)) (λ u n. refl)

  -- ---- the same value
  -- a variable other than the home has coefficient 0
  left_or_zero : (e.a ≡ pos 0) ⊎ (home e ≡ e.left)
  left_or_zero = go homed
    where
      go : Homed → (e.a ≡ pos 0) ⊎ (home e ≡ e.left)
      go (by_left n h) = inr h
      go (by_right z n h) = inl z
      go (by_neither z w h) = inl z

  right_or_zero : ¬ Binary e → (e.b ≡ pos 0) ⊎ (home e ≡ e.right)
  right_or_zero not-binary = go homed (ℕ_discrete e.left e.right) (zero? e.b)
    where
      go : Homed → Dec (e.left ≡ e.right) → Dec (e.b ≡ pos 0) → (e.b ≡ pos 0) ⊎ (home e ≡ e.right)
      go o d (yes w) = inl w
      go (by_left n h) (yes l) (no m) = inr (h ∙ l)
      go (by_left n h) (no d) (no m) = absurd (not-binary (record { different = d; left_not_zero = n; right_not_zero = m }))
      go (by_right z n h) d (no m) = inr h
      go (by_neither z w h) d (no m) = inl w

  pub normal-value : (x : List ℤ) → value (normal e) x ≡ value e x
  normal-value x = normal_cases (λ n. value n x ≡ value e x) (λ b. refl) (λ n.
      sum_at e.a e.b (number x (home e)) (number x e.left) (number x e.right)
      (⊎_map (λ z. z) (ap (number x)) left_or_zero) (⊎_map (λ z. z) (ap (number x)) (right_or_zero n))
      )

  -- ---- of a lawful row
  module _ (n : ℕ) (left : e.left < n) (right : e.right < n) where
    pub home_below : home e < n
    home_below = go homed
      where
        go : Homed → home e < n
        go (by_left z h) = omega (arith, h)
        go (by_right z w h) = omega (arith, h)
        go (by_neither z w h) = omega (arith, h)

    pub normal-left_below : (normal e).left < n
    normal-left_below = omega (arith, normal-home, home_below)

    pub normal-right_below : (normal e).right < n
    normal-right_below = normal_cases (λ m. m.right < n) (λ b. right) (λ u. home_below)

  -- with two variables it can be carried
  pub normal_carries : Coefficients e → (normal e).left ≢ (normal e).right → CarryLimits (form (normal e))
  normal_carries f = normal_cases (λ n. n.left ≢ n.right → CarryLimits (form n)) (λ b d. record {
    left = f.left;
    left_not_zero = b.left_not_zero;
    right = f.right;
    right_not_zero = b.right_not_zero;
    constant = f.constant;
  }) (λ n d. absurd (d refl))
