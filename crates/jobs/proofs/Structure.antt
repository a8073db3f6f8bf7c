-- How a job hangs together: the kind of an equation tells whether it joins two sets; and how often a variable is named, equation by
-- equation.
use mathlib.Core.Path.{◌≡◌, refl, ◌∙◌, ap}
use mathlib.Core.Logic.{◌↔◌, ◌≢◌}
use mathlib.Core.Bool.{Bool, true, false, cond}
use mathlib.Core.List.{[], ◌∷◌}
use Prim.Native.Nat.{ℕ, ◌+◌, ◌≤◌}
use native.Mathlib.Decide.{ℕ_discrete}
use native.Mathlib.Omega.{arith}
use lib.ListN.{length, length-append}
use borrow.Author.Tests.{eq-eqb, ne_eqb}
use Rattle.lists.specs.Keep.{keep}
use Rattle.lists.specs.Table.{up_to}
use Rattle.lists.proofs.Keep.{keep_both, length-keep}
use Rattle.lists.proofs.Table.{table_next, length-up_to}
use Rattle.jobs.specs.Job.{Equation, Job, equation}
use Rattle.jobs.specs.NormalForm.{Binary, is_binary}
use Rattle.jobs.specs.Component.{Chain, Joins, lowest_by}
use Rattle.jobs.specs.Structure.{names, degree_by, kind_by, kind}
use Rattle.jobs.proofs.NormalForm.{Binary-iff, Binary-false, binary?}
use Rattle.jobs.proofs.Components.{Chain-iff}

-- 3 where it is not binary, 2 where two labels are equal, and 1 elsewhere
pub kind_unary : (t : Bool) (l r : ℕ) → t ≡ false → kind_by t l r ≡ 3
kind_unary t l r e = ap (λ t. kind_by t l r) e

pub kind_same : (t : Bool) (l r : ℕ) → t ≡ true → l ≡ r → kind_by t l r ≡ 2
kind_same t l r b e = rw (b, eq-eqb l r e)

pub kind_other : (t : Bool) (l r : ℕ) → t ≡ true → l ≢ r → kind_by t l r ≡ 1
kind_other t l r b d = rw (b, ne_eqb l r d)

module _ (j : Job) where
  module _ (k : ℕ) where
    abbrev e : Equation
    e = equation j k

    abbrev left : ℕ
    left = lowest_by j k e.left

    abbrev right : ℕ
    right = lowest_by j k e.right

    -- the three kinds
    data Kinds : Type 0 where
      joins : kind j k ≡ 1 → Joins j k → Kinds
      closes : kind j k ≡ 2 → Binary e → ¬ Joins j k → Kinds
      alone : kind j k ≡ 3 → ¬ Binary e → Kinds

    kinds : Kinds
    unfolding kind
    kinds = go (binary? e) (ℕ_discrete left right)
      where
        chain : Chain j k e.left e.right ↔ (left ≡ right)
        chain = Chain-iff j k e.left e.right

        go : Dec (Binary e) → Dec (left ≡ right) → Kinds
        go (no n) d = alone (kind_unary (is_binary e) left right (Binary-false e n)) n
        go (yes b) (yes q) = closes (kind_same (is_binary e) left right ((Binary-iff e).1 b) q) b (λ h. h.1 (chain.1 q))
        go (yes b) (no d) = joins (kind_other (is_binary e) left right ((Binary-iff e).1 b) d) (b, λ c. d (chain.0 c))

    pub kind-Joins : (kind j k ≡ 1) ↔ Joins j k
    kind-Joins = go kinds
      where
        go : Kinds → (kind j k ≡ 1) ↔ Joins j k
        go (joins q y) = (λ h. y, λ h. q)
        go (closes q b n) = (λ h. absurd (omega (arith, h, q)), λ y. absurd (n y))
        go (alone q n) = (λ h. absurd (omega (arith, h, q)), λ y. absurd (n y.0))

    pub kind_rings : (kind j k ≡ 2) ↔ (Binary (equation j k) × (¬ Joins j k))
    kind_rings = go kinds
      where
        go : Kinds → (kind j k ≡ 2) ↔ (Binary e × (¬ Joins j k))
        go (joins q y) = (λ h. absurd (omega (arith, h, q)), λ n. absurd (n.1 y))
        go (closes q b n) = (λ h. (b, n), λ h. q)
        go (alone q n) = (λ h. absurd (omega (arith, h, q)), λ y. absurd (n y.0))

    pub kind_fixes : (kind j k ≡ 3) ↔ (¬ Binary (equation j k))
    kind_fixes = go kinds
      where
        go : Kinds → (kind j k ≡ 3) ↔ (¬ Binary e)
        go (joins q y) = (λ h. absurd (omega (arith, h, q)), λ n. absurd (n y.0))
        go (closes q b n) = (λ h. absurd (omega (arith, h, q)), λ m. absurd (m b))
        go (alone q n) = (λ h. n, λ h. q)

    pub kind_small : kind j k ≤ 3
    kind_small = go kinds
      where
        go : Kinds → kind j k ≤ 3
        go (joins q y) = omega (arith, q)
        go (closes q b n) = omega (arith, q)
        go (alone q n) = omega (arith, q)

  -- ---- how many equations name a variable
  module _ (i : ℕ) where
    abbrev naming : ℕ → Bool
    naming k = names (equation j k) i

    pub degree_none : degree_by j 0 i ≡ 0
    unfolding degree_by
    degree_none = refl

    pub degree_most : (m : ℕ) → degree_by j m i ≤ m
    unfolding degree_by
    degree_most m = omega (arith, length-keep naming (up_to m), length-up_to m)

    next : (m : ℕ) → degree_by j (m + 1) i ≡ degree_by j m i + length (keep naming (m ∷ []))
    unfolding degree_by
    next m = ap (λ ks. length (keep naming ks)) (table_next (λ k. k) m) ∙ ap length (keep_both naming (up_to m) (m ∷ [])) ∙ length-append (keep naming (up_to m)) (keep naming (m ∷ []))

    pub degree_named : (m : ℕ) → names (equation j m) i ≡ true → degree_by j (m + 1) i ≡ degree_by j m i + 1
    unfolding keep
    degree_named m e = next m ∙ ap (λ t. degree_by j m i + length (cond t (m ∷ []) [])) e

    pub degree_other : (m : ℕ) → names (equation j m) i ≡ false → degree_by j (m + 1) i ≡ degree_by j m i
    unfolding keep
    degree_other m e = next m ∙ ap (λ t. degree_by j m i + length (cond t (m ∷ []) [])) e ∙ omega arith
