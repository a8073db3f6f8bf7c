-- The pass over the equations, one equation at a time: what has been found of those before k.
use mathlib.Core.Path.{◌≡◌, refl, sym, ◌∙◌, ap, ap₂, subst}
use mathlib.Core.Logic.{◌≢◌}
use mathlib.Core.Bool.{Bool, true, false, cond, ◌||◌, or-true}
use mathlib.Core.List.{List}
use Prim.Native.Nat.{ℕ, ◌+◌, ◌≤◌, ◌<◌}
use native.Mathlib.Decide.{ℕ_discrete}
use native.Mathlib.Omega.{arith}
use lib.Dec.{eqb}
use lib.ListN.{length, get_or, set, replicate, length-set, length-replicate}
use lib.Seq.{get_or-set_same, get_or-set_other}
use borrow.Author.Tests.{eq-eqb, ne_eqb}
use Rattle.lists.specs.Table.{Tabulates}
use Rattle.lists.proofs.ArrayPass.{all_same, Filled, unfilled, filled}
use Rattle.jobs.specs.declared.Equation.{Equation}
use Rattle.jobs.specs.Job.{Job, job_of, equation}
use Rattle.jobs.specs.NormalForm.{Binary, home, is_binary, normal, normal_row}
use Rattle.jobs.specs.Component.{lowest_by}
use Rattle.jobs.specs.Structure.{names, degree_by, kind_by, kind}
use Rattle.jobs.proofs.NormalForm.{binary?, Binary-false, normal-Binary, normal-home}
use Rattle.jobs.proofs.Structure.{kind_unary, degree_none, degree_most, degree_named, degree_other}
use Rattle.solver.specs.Labels.{Labels}
use Rattle.solver.proofs.LawfulRows.{Sizes, n_most, m_most, left_below, right_below, normal_left, normal_right}
use Rattle.solver.specs.Structured.{added}

-- labels and degrees of n variables, homes and kinds of k equations
pub record Through (j : Job) (n k : ℕ) (labels degrees homes kinds : List ℕ) : Type 0 where
  pub labelled : Labels j k n labels
  pub wide : length degrees ≡ 256
  pub named : Tabulates 0 (degree_by j k) n degrees
  pub belongs : Filled 1024 0 (λ k. home (equation j k)) k homes
  pub sorts : Filled 1024 0 (kind j) k kinds

pub begins : (j : Job) (n : ℕ) (labels homes kinds : List ℕ) → Labels j 0 n labels → length homes ≡ 1024 → length kinds ≡ 1024 → Through j n 0 labels (replicate 256 0) homes kinds
begins j n labels homes kinds a p q = record {
  labelled = a;
  wide = length-replicate {A = ℕ} 256 0;
  named = record { at = λ i h. all_same 256 i 0 ∙ sym (degree_none j i) };
  belongs = unfilled 0 (λ k. home (equation j k)) homes p;
  sorts = unfilled 0 (kind j) kinds q;
}

-- ---- an equation more adds one to each of its two variables, and one to a variable that it names twice
abbrev pub more : List ℕ → ℕ → List ℕ
more degrees i = set degrees i (get_or degrees i 0 + 1)

abbrev counted : List ℕ → ℕ → ℕ → List ℕ
counted degrees l r = set (more degrees l) r (get_or (more degrees l) r 0 + added l r)

module _ (j : Job) (k n : ℕ) (degrees : List ℕ) (wide : length degrees ≡ 256) (small : n ≤ 256) (d : Tabulates 0 (degree_by j k) n degrees)
    (left : (equation j k).left < n) (right : (equation j k).right < n) where
  abbrev l : ℕ
  l = (equation j k).left

  abbrev r : ℕ
  r = (equation j k).right

  -- how many equations name a variable so far
  pub degree_small : (i : ℕ) → i < n → get_or degrees i 0 ≤ k
  degree_small i h = omega (arith, d.at i h, degree_most j i k)

  named : (i : ℕ) → (i ≡ l) → names (equation j k) i ≡ true
  named i e = ap (λ t. t || eqb r i) (eq-eqb l i (sym e))

  named_right : (i : ℕ) → (i ≡ r) → names (equation j k) i ≡ true
  named_right i e = rw (eq-eqb r i (sym e), or-true (eqb l i)) refl

  not_named : (i : ℕ) → i ≢ l → i ≢ r → names (equation j k) i ≡ false
  not_named i p q = rw (ne_eqb l i (λ e. p (sym e)), ne_eqb r i (λ e. q (sym e))) refl

  -- what the right variable's number is, when the left one is counted
  left_done : get_or (more degrees l) l 0 ≡ degree_by j (k + 1) l
  left_done =
      get_or-set_same degrees l (get_or degrees l 0 + 1) 0 (omega (arith, left, small, wide))
      ∙ ap (λ x. x + 1) (d.at l left) ∙ sym (degree_named j l k (named l refl))

  right_done : Dec (l ≡ r) → get_or (more degrees l) r 0 + added l r ≡ degree_by j (k + 1) r
  right_done (yes e) =
      ap (λ t. get_or (more degrees l) r 0 + cond t 0 1) (eq-eqb l r e) ∙ omega arith
      ∙ subst (λ i. get_or (more degrees l) i 0 ≡ degree_by j (k + 1) i) e left_done
  right_done (no p) =
      ap (λ t. get_or (more degrees l) r 0 + cond t 0 1) (ne_eqb l r p)
      ∙ ap (λ x. x + 1) (get_or-set_other degrees l r (get_or degrees l 0 + 1) 0 (λ e. p (sym e)) ∙ d.at r right)
      ∙ sym (degree_named j r k (named_right r refl))

  -- and so it is as small
  pub right_small : get_or (set degrees (equation j k).left (get_or degrees (equation j k).left 0 + 1)) (equation j k).right 0 ≤ k + 1
  right_small = omega (arith, right_done (ℕ_discrete l r), degree_most j r (k + 1))

  abbrev after : List ℕ
  after = counted degrees l r

  pub degrees_next : Tabulates 0 (degree_by j (k + 1)) n (counted degrees (equation j k).left (equation j k).right)
  degrees_next = record { at = λ i h. go i h (ℕ_discrete i r) (ℕ_discrete i l) }
    where
      go : (i : ℕ) → i < n → Dec (i ≡ r) → Dec (i ≡ l) → get_or after i 0 ≡ degree_by j (k + 1) i
      go i h (yes e) q =
          ap (λ i. get_or after i 0) e
          ∙ get_or-set_same (more degrees l) r (get_or (more degrees l) r 0 + added l r) 0 (omega (arith, right, small, wide, length-set degrees l (get_or degrees l 0 + 1)))
          ∙ right_done (ℕ_discrete l r)
          ∙ ap (degree_by j (k + 1)) (sym e)
      go i h (no p) (yes e) =
          get_or-set_other (more degrees l) r i (get_or (more degrees l) r 0 + added l r) 0 p
          ∙ subst (λ i. get_or (more degrees l) i 0 ≡ degree_by j (k + 1) i) (sym e) left_done
      go i h (no p) (no q) =
          get_or-set_other (more degrees l) r i (get_or (more degrees l) r 0 + added l r) 0 p
          ∙ get_or-set_other degrees l i (get_or degrees l 0 + 1) 0 q
          ∙ d.at i h
          ∙ sym (degree_other j i k (not_named i q p))

-- ---- the kind of an equation, by the labels that the earlier ones leave to its normal form
kind_by_lem : (j : Job) (k n : ℕ) (labels : List ℕ) → Labels j k n labels → (equation j k).left < n → (equation j k).right < n →
    kind_by (is_binary (equation j k)) (get_or labels (normal_row j k).left 0) (get_or labels (normal_row j k).right 0) ≡ kind j k
unfolding kind
kind_by_lem j k n labels a p q = go (binary? (equation j k))
  where
    go : Dec (Binary (equation j k)) →
        kind_by (is_binary (equation j k)) (get_or labels (normal_row j k).left 0) (get_or labels (normal_row j k).right 0) ≡ kind j k
    go (yes b) = rw (normal-Binary (equation j k) b, a.at (equation j k).left p, a.at (equation j k).right q) refl
    go (no u) = let e = Binary-false (equation j k) u in
        kind_unary (is_binary (equation j k)) (get_or labels (normal_row j k).left 0) (get_or labels (normal_row j k).right 0) e
        ∙ sym (kind_unary (is_binary (equation j k)) (lowest_by j k (equation j k).left) (lowest_by j k (equation j k).right) e)

-- ---- equation k, whose row is e, and x in normal form: what the program asks of them
pub record Row (n k : ℕ) (degrees : List ℕ) (e x : Equation) : Type 0 where
  pub few : n ≤ 256
  pub below : k < 1024
  pub home : x.left < n
  pub other : x.right < n
  pub left : e.left < n
  pub right : e.right < n
  pub left_small : get_or degrees e.left 0 ≤ k
  pub right_small : get_or (more degrees e.left) e.right 0 ≤ k + 1
  pub added_small : added e.left e.right ≤ 1

pub row : {s labels degrees homes kinds : List ℕ} {n m k : ℕ} → Sizes s n m → k < m → Through (job_of s) n k labels degrees homes kinds →
    (e x : Equation) → e ≡ equation (job_of s) k → x ≡ normal e → Row n k degrees e x
row {s} {degrees = degrees} {n = n} {k = k} z h t e x is normal_is = record {
  few = n_most z;
  below = omega (arith, h, m_most z);
  home = normal_left z k h x x_is;
  other = normal_right z k h x x_is;
  left = rw is left;
  right = rw is right;
  left_small = rw is (degree_small j k n degrees t.wide few t.named left right (equation j k).left left);
  right_small = rw is (right_small j k n degrees t.wide few t.named left right);
  added_small = at_most (eqb e.left e.right);
}
  where
    j : Job
    j = job_of s

    at_most : (b : Bool) → cond b 0 1 ≤ 1
    at_most true = omega arith
    at_most false = omega arith

    few : n ≤ 256
    few = n_most z

    left : (equation j k).left < n
    left = left_below z k h

    right : (equation j k).right < n
    right = right_below z k h

    x_is : x ≡ normal_row j k
    x_is = normal_is ∙ ap normal is

-- and what is found with it
module _ {j : Job} {n k : ℕ} {labels degrees homes kinds : List ℕ} (t : Through j n k labels degrees homes kinds) (e x : Equation)
    (is : e ≡ equation j k) (normal_is : x ≡ normal e) (r : Row n k degrees e x) where
  left : (equation j k).left < n
  left = subst (λ e. e.left < n) is r.left

  right : (equation j k).right < n
  right = subst (λ e. e.right < n) is r.right

  x_is : x ≡ normal_row j k
  x_is = normal_is ∙ ap normal is

  -- with the labels after it, and what was found of its kind and of what it adds to its right variable
  pub onward : (after : List ℕ) → Labels j (k + 1) n after → (b : Bool) → b ≡ is_binary e → {l r : ℕ} → l ≡ get_or labels x.left 0 → r ≡ get_or labels x.right 0 →
      (y : ℕ) → y ≡ kind_by b l r → (z : ℕ) → z ≡ added e.left e.right →
      Through j n (k + 1) after (set (more degrees e.left) e.right (get_or (more degrees e.left) e.right 0 + z)) (set homes k x.left) (set kinds k y)
  onward after a b f u v y q z w = record {
    labelled = a;
    wide =
        length-set (more degrees e.left) e.right (get_or (more degrees e.left) e.right 0 + z)
        ∙ length-set degrees e.left (get_or degrees e.left 0 + 1) ∙ t.wide;
    named =
        subst (λ z. Tabulates 0 (degree_by j (k + 1)) n (set (more degrees e.left) e.right (get_or (more degrees e.left) e.right 0 + z))) (sym w)
        (subst (λ e. Tabulates 0 (degree_by j (k + 1)) n (counted degrees e.left e.right)) (sym is) (degrees_next j k n degrees t.wide r.few t.named left right));
    belongs = filled 0 (λ k. home (equation j k)) k homes t.belongs x.left r.below (ap (λ e. e.left) x_is ∙ normal-home (equation j k));
    sorts = filled 0 (kind j) k kinds t.sorts y r.below (q ∙ ap₂ (kind_by b) u v ∙ kinds_same ∙ kind_by_lem j k n labels t.labelled left right);
  }
    where
      kinds_same : kind_by b (get_or labels x.left 0) (get_or labels x.right 0)
          ≡ kind_by (is_binary (equation j k)) (get_or labels (normal_row j k).left 0) (get_or labels (normal_row j k).right 0)
      kinds_same = ap₂ (λ b x. kind_by b (get_or labels x.left 0) (get_or labels x.right 0)) (f ∙ ap is_binary is) x_is
