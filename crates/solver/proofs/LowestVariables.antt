-- The lowest variables of the components, as a pass over the variables meets them; g gives the label of each variable.
use mathlib.Core.Path.{◌≡◌, refl, sym, ◌∙◌, ap, subst}
use mathlib.Core.Logic.{◌≢◌}
use mathlib.Core.Bool.{Bool, true, false, cond}
use mathlib.Core.List.{List, [], ◌∷◌, ◌++◌, append-nil}
use Prim.Native.Nat.{ℕ, zero, suc, ◌+◌, ◌-◌, ◌≤◌, ◌<◌}
use native.Mathlib.Omega.{arith}
use native.Mathlib.Decide.{ℕ_discrete}
use borrow.Author.Tests.{eq-eqb, ne_eqb, lt-ltb, le-ltb}
use lib.Dec.{eqb, ltb}
use lib.ListN.{length, get_or, set, length-append}
use Rattle.lists.specs.Members.{◌∈◌}
use Rattle.lists.specs.Keep.{keep}
use Rattle.lists.specs.Table.{up_to}
use Rattle.lists.proofs.Keep.{in-keep, length-keep, keep_all, keep_both}
use Rattle.lists.proofs.Table.{table_next, in-up_to, length-up_to}
use Rattle.lists.proofs.ArrayPass.{Filled, filled}
use Rattle.solver.specs.StateArrays.{label_in}
use Rattle.solver.specs.Labels.{Lowest}
use Rattle.families.specs.ModelFindings.{leads_by, component_by}

-- one member more of a list, if it passes
one_yes : (p : ℕ → Bool) (i : ℕ) → p i ≡ true → keep p (i ∷ []) ≡ i ∷ []
unfolding keep
one_yes p i t = ap (λ b. cond b (i ∷ []) []) t

one_no : (p : ℕ → Bool) (i : ℕ) → p i ≡ false → keep p (i ∷ []) ≡ []
unfolding keep
one_no p i t = ap (λ b. cond b (i ∷ []) []) t

module _ (g : ℕ → ℕ) where
  abbrev leads : ℕ → Bool
  leads i = eqb (g i) i

  next : (i : ℕ) → leads_by g (i + 1) ≡ leads_by g i ++ keep leads (i ∷ [])
  unfolding leads_by
  next i = ap (keep leads) (table_next (λ k. k) i) ∙ keep_both leads (up_to i) (i ∷ [])

  -- none, and one variable more
  pub leads_none : leads_by g 0 ≡ []
  unfolding leads_by
  leads_none = refl

  pub leads_yes : (i : ℕ) → g i ≡ i → leads_by g (i + 1) ≡ leads_by g i ++ i ∷ []
  leads_yes i e = next i ∙ ap (λ r. leads_by g i ++ r) (one_yes leads i (eq-eqb (g i) i e))

  pub leads_no : (i : ℕ) → g i ≢ i → leads_by g (i + 1) ≡ leads_by g i
  leads_no i d = next i ∙ ap (λ r. leads_by g i ++ r) (one_no leads i (ne_eqb (g i) i d)) ∙ append-nil (leads_by g i)

  -- how many there are, with one variable more
  pub leads_counted : (i : ℕ) → ((g i ≡ i) → length (leads_by g (i + 1)) ≡ length (leads_by g i) + 1) × ((g i ≢ i) → length (leads_by g (i + 1)) ≡ length (leads_by g i))
  leads_counted i = (λ e. ap length (leads_yes i e) ∙ length-append (leads_by g i) (i ∷ []), λ d. ap length (leads_no i d))

  pub leads_below : (i z : ℕ) → z ∈ leads_by g i → z < i
  unfolding leads_by
  leads_below i z m = (in-up_to i z).0 ((in-keep leads (up_to i) z).0 m).0

  pub leads_length : (i : ℕ) → length (leads_by g i) ≤ i
  unfolding leads_by
  leads_length i = omega (arith, length-keep leads (up_to i), length-up_to i)

  -- what holds of the first i variables and stays with one more holds of all
  all : (P : ℕ → Type 0) (i : ℕ) → P i → ((k : ℕ) → i ≤ k → P k → P (k + 1)) → (n : ℕ) → i ≤ n → P n
  all P i z s n h = subst P e (go (n - i))
    where
      e : i + (n - i) ≡ n
      e = omega arith

      go : (d : ℕ) → P (i + d)
      go zero = let q : i ≡ i + 0 = omega arith in subst P q z
      go (suc d) = let q : i + d + 1 ≡ i + suc d = omega arith in subst P q (s (i + d) (omega arith) (go d))

  pub leads_mono : (i n : ℕ) → i ≤ n → length (leads_by g i) ≤ length (leads_by g n)
  leads_mono i n = all (λ n. length (leads_by g i) ≤ length (leads_by g n)) i (omega arith) step n
    where
      step : (k : ℕ) → i ≤ k → length (leads_by g i) ≤ length (leads_by g k) → length (leads_by g i) ≤ length (leads_by g (k + 1))
      step k h m = omega (arith, m, ap length (next k) ∙ length-append (leads_by g k) (keep leads (k ∷ [])))

  -- those below i of all are those of the first i variables
  rank : (i n : ℕ) → i ≤ n → keep (λ l. ltb l i) (leads_by g n) ≡ leads_by g i
  rank i n = all (λ n. keep (λ l. ltb l i) (leads_by g n) ≡ leads_by g i) i own step n
    where
      own : keep (λ l. ltb l i) (leads_by g i) ≡ leads_by g i
      own = keep_all (λ l. ltb l i) (leads_by g i) (λ z m. lt-ltb z i (leads_below i z m))

      step : (k : ℕ) → i ≤ k → keep (λ l. ltb l i) (leads_by g k) ≡ leads_by g i → keep (λ l. ltb l i) (leads_by g (k + 1)) ≡ leads_by g i
      step k h e = go (ℕ_discrete (g k) k)
        where
          go : Dec (g k ≡ k) → keep (λ l. ltb l i) (leads_by g (k + 1)) ≡ leads_by g i
          go (yes q) =
              ap (keep (λ l. ltb l i)) (leads_yes k q) ∙ keep_both (λ l. ltb l i) (leads_by g k) (k ∷ [])
              ∙ ap (λ r. keep (λ l. ltb l i) (leads_by g k) ++ r) (one_no (λ l. ltb l i) k (le-ltb k i h)) ∙ append-nil (keep (λ l. ltb l i) (leads_by g k)) ∙ e
          go (no d) = ap (keep (λ l. ltb l i)) (leads_no k d) ∙ e

  -- so the number of the group of i, if i is its lowest variable, is how many came before
  pub component_lead : (n i : ℕ) → i ≤ n → g i ≡ i → component_by g n i ≡ length (leads_by g i)
  unfolding component_by
  component_lead n i h e = ap (λ v. length (keep (λ l. ltb l v) (leads_by g n))) e ∙ ap length (rank i n h)

  -- and variables of one component have one number
  pub component_same : (n i k : ℕ) → g i ≡ g k → component_by g n i ≡ component_by g n k
  unfolding component_by
  component_same n i k e = ap (λ v. length (keep (λ l. ltb l v) (leads_by g n))) e

-- the numbers of the variables before i, and of i: a lowest variable takes the next number, and another that of its lowest variable
module _ (labels : List ℕ) (n i : ℕ) (numbers : List ℕ) (small : n ≤ 256) (h : i < n) (f : Filled 256 0 (component_by (label_in labels) n) i numbers) where
  pub next_numbered : (next : ℕ) → next ≡ length (leads_by (label_in labels) i) → label_in labels i ≡ i →
      Filled 256 0 (component_by (label_in labels) n) (i + 1) (set numbers i next)
  next_numbered next e q = filled 0 (component_by (label_in labels) n) i numbers f next (omega arith) (e ∙ sym (component_lead (label_in labels) n i (omega arith) q))

  pub same_numbered : Lowest labels n → label_in labels i ≢ i →
      Filled 256 0 (component_by (label_in labels) n) (i + 1) (set numbers i (get_or numbers (label_in labels i) 0))
  same_numbered w d =
      filled 0 (component_by (label_in labels) n) i numbers f (get_or numbers (label_in labels i) 0) (omega arith)
      (f.done (label_in labels i) (omega (arith, w.low i h, d)) ∙ component_same (label_in labels) n (label_in labels i) i (w.self i h))
