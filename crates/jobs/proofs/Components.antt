-- Two variables are joined exactly when they have the same lowest variable, which is joined to them and the lowest that is;
-- and components are numbered in the order of their lowest variable.
use mathlib.Core.Path.{◌≡◌, refl, sym, ◌∙◌, ap, subst}
use mathlib.Core.Logic.Iff
use mathlib.Core.Logic.{◌↔◌, ◌⊎◌, inl, inr, ◌≢◌}
use mathlib.Core.Bool.{true, or-true}
use Prim.Native.Nat.{ℕ, zero, suc, ◌≤◌, ◌<◌, min}
use native.Mathlib.Decide.{ℕ_discrete}
use native.Mathlib.Omega.{arith, min_cases}
use lib.Dec.{eqb}
use lib.ListN.{length, get_or}
use borrow.Author.Tests.{eqb-true, eq-eqb, ne_eqb}
use Rattle.lists.specs.Members.{◌∈◌}
use Rattle.lists.specs.Rising.{Rising}
use Rattle.lists.specs.Table.{up_to}
use Rattle.lists.proofs.Members.{member_at, place_of}
use Rattle.lists.proofs.Keep.{in-keep, Rising-keep, length-keep, rank_at}
use Rattle.lists.proofs.Table.{in-up_to, Rising-up_to, length-up_to}
use Rattle.jobs.specs.Job.{Equation, Job, equation}
use Rattle.jobs.specs.NormalForm.{Binary, normal_row}
use Rattle.jobs.specs.Component.{Connects, forth, back, Chain, stay, onward, Joined, Joins, merged, lowest_by, lowest, leads, component_count, component}
use Rattle.jobs.proofs.NormalForm.{binary?, normal-Binary, normal_one, normal_two}

-- ---- chains of equations
module _ {j : Job} where
  pub Chain-more : {m n p q : ℕ} → m ≤ n → Chain j m p q → Chain j n p q
  Chain-more l (stay e) = stay e
  Chain-more l (onward k h s t) = onward k (omega arith) (Chain-more l s) t

  pub Chain-then : {m p q r : ℕ} → Chain j m p q → Chain j m q r → Chain j m p r
  Chain-then s (stay e) = rw e at s
  Chain-then s (onward k h t u) = onward k h (Chain-then s t) u

  pub Chain-edge : {m p q : ℕ} (k : ℕ) → k < m → Connects (equation j k) p q → Chain j m p q
  Chain-edge k h t = onward k h (stay refl) t

  pub Chain-back : {m p q : ℕ} → Chain j m p q → Chain j m q p
  Chain-back (stay e) = stay (sym e)
  Chain-back (onward k h s t) = Chain-then (Chain-edge k h (turn t)) (Chain-back s)
    where
      turn : {e : Equation} {p q : ℕ} → Connects e p q → Connects e q p
      turn (forth t a b) = back t a b
      turn (back t a b) = forth t a b

-- ---- one equation more: p and q, the lowest variables of the components that it joins, become the lower of them
pub merged_one : (p q i : ℕ) → (i ≡ p) ⊎ (i ≡ q) → merged p q i ≡ min p q
merged_one p q i (inl e) = rw (eq-eqb i p e)
merged_one p q i (inr e) = rw (eq-eqb i q e, or-true (eqb i p))

-- and every other stays
pub data Merged (p q i : ℕ) : Type 0 where
  first : i ≡ p → merged p q i ≡ min p q → Merged p q i
  second : i ≡ q → merged p q i ≡ min p q → Merged p q i
  other : i ≢ p → i ≢ q → merged p q i ≡ i → Merged p q i

pub Merged-cases : (p q i : ℕ) → Merged p q i
Merged-cases p q i = go (ℕ_discrete i p) (ℕ_discrete i q)
  where
    go : Dec (i ≡ p) → Dec (i ≡ q) → Merged p q i
    go (yes e) d = first e (merged_one p q i (inl e))
    go (no n) (yes e) = second e (merged_one p q i (inr e))
    go (no n) (no m) = other n m (rw (ne_eqb i p n, ne_eqb i q m))

merged-le : (p q i : ℕ) → merged p q i ≤ i
merged-le p q i = go (Merged-cases p q i)
  where
    go : Merged p q i → merged p q i ≤ i
    go (first e l) = omega (arith, e, l)
    go (second e l) = omega (arith, e, l)
    go (other n m l) = omega (arith, l)

merged-Chain : {j : Job} {m : ℕ} (p q i : ℕ) → Chain j m p q → Chain j m i (merged p q i)
merged-Chain {j} {m} p q i s = go (Merged-cases p q i)
  where
    low : Chain j m p (min p q)
    low = min_cases p q (Chain j m p (min p q)) (λ l e. stay (sym e)) (λ l e. rw e s)

    go : Merged p q i → Chain j m i (merged p q i)
    go (first e l) = rw (l, e) low
    go (second e l) = rw (l, e) (Chain-then (Chain-back s) low)
    go (other n m l) = stay (sym l)

-- ---- the lowest variable, along the first m equations
module _ (j : Job) where
  -- before equation m is used, those of its two variables
  abbrev left : ℕ → ℕ
  left m = lowest_by j m (normal_row j m).left

  abbrev right : ℕ → ℕ
  right m = lowest_by j m (normal_row j m).right

  lowest_start : (i : ℕ) → lowest_by j 0 i ≡ i
  unfolding lowest_by
  lowest_start i = refl

  pub lowest_next : (m i : ℕ) → lowest_by j (suc m) i ≡ merged (left m) (right m) (lowest_by j m i)
  unfolding lowest_by
  lowest_next m i = refl

  pub lowest_by-le : (m i : ℕ) → lowest_by j m i ≤ i
  lowest_by-le zero i = omega (arith, lowest_start i)
  lowest_by-le (suc m) i = omega (arith, lowest_next m i, lowest_by-le m i, merged-le (left m) (right m) (lowest_by j m i))

  -- it is joined: along equation m where that is binary, and else no way is needed
  pub Chain-lowest_by : (m i : ℕ) → Chain j m i (lowest_by j m i)
  Chain-lowest_by zero i = stay (sym (lowest_start i))
  Chain-lowest_by (suc m) i =
      rw (lowest_next m i) (Chain-then (longer (Chain-lowest_by m i)) (merged-Chain (left m) (right m) (lowest_by j m i) (across (Chain-lowest_by m) (binary? (equation j m)))))
    where
      longer : {a b : ℕ} → Chain j m a b → Chain j (suc m) a b
      longer = Chain-more (omega arith)

      across : ((i : ℕ) → Chain j m i (lowest_by j m i)) → Dec (Binary (equation j m)) → Chain j (suc m) (left m) (right m)
      across to (no n) = stay (ap (lowest_by j m) (normal_one (equation j m) n))
      across to (yes b) =
          let e = normal-Binary (equation j m) b in
          Chain-then (Chain-back (longer (to (normal_row j m).left)))
          (Chain-then (Chain-edge m (omega arith) (forth b (sym (ap (λ e. e.left) e)) (sym (ap (λ e. e.right) e)))) (longer (to (normal_row j m).right)))

  -- each of these equations has its variables in one component
  pub one_component : (m k : ℕ) → k < m → lowest_by j m (normal_row j k).left ≡ lowest_by j m (normal_row j k).right
  one_component zero k h = absurd (omega arith)
  one_component (suc m) k h =
      lowest_next m (normal_row j k).left ∙ go (ℕ_discrete k m) (one_component m k) ∙ sym (lowest_next m (normal_row j k).right)
    where
      go : Dec (k ≡ m) → (k < m → lowest_by j m (normal_row j k).left ≡ lowest_by j m (normal_row j k).right) →
          merged (left m) (right m) (lowest_by j m (normal_row j k).left) ≡ merged (left m) (right m) (lowest_by j m (normal_row j k).right)
      go (yes e) f = rw e (merged_one (left m) (right m) (left m) (inl refl) ∙ sym (merged_one (left m) (right m) (right m) (inr refl)))
      go (no n) f = ap (merged (left m) (right m)) (f (omega arith))

  -- so a chain leads to a variable with the same lowest variable
  Chain-same : {m p q : ℕ} → Chain j m p q → lowest_by j m p ≡ lowest_by j m q
  Chain-same {m} (stay e) = ap (lowest_by j m) e
  Chain-same {m} (onward {q} {r} k h s t) = Chain-same s ∙ step t
    where
      -- a binary equation is its own normal form
      tied : Binary (equation j k) → lowest_by j m (equation j k).left ≡ lowest_by j m (equation j k).right
      tied b = let e = normal-Binary (equation j k) b in subst (λ e. lowest_by j m e.left ≡ lowest_by j m e.right) e (one_component m k h)

      step : Connects (equation j k) q r → lowest_by j m q ≡ lowest_by j m r
      step (forth t a b) = ap (lowest_by j m) (sym a) ∙ tied t ∙ ap (lowest_by j m) b
      step (back t a b) = ap (lowest_by j m) (sym b) ∙ sym (tied t) ∙ ap (lowest_by j m) a

  pub Chain-iff : (m p q : ℕ) → Chain j m p q ↔ (lowest_by j m p ≡ lowest_by j m q)
  Chain-iff m p q = (Chain-same, from)
    where
      from : lowest_by j m p ≡ lowest_by j m q → Chain j m p q
      from e = Chain-then (Chain-lowest_by m p) (rw e (Chain-back (Chain-lowest_by m q)))

  pub Joins-iff : (k : ℕ) → Joins j k ↔ (left k ≢ right k)
  Joins-iff k = (λ (b, n) e. n ((Chain-iff k (equation j k).left (equation j k).right).1 (as_written b e)), from)
    where
      as_written : Binary (equation j k) → left k ≡ right k → lowest_by j k (equation j k).left ≡ lowest_by j k (equation j k).right
      as_written b = subst (λ e. lowest_by j k e.left ≡ lowest_by j k e.right) (normal-Binary (equation j k) b)

      from : left k ≢ right k → Joins j k
      from n =
          let b = normal_two (equation j k) (λ e. n (ap (lowest_by j k) e)) in
          (b, λ c. n (subst (λ e. lowest_by j k e.left ≡ lowest_by j k e.right) (sym (normal-Binary (equation j k) b)) (Chain-same c)))

  pub lowest_by_self : (m i : ℕ) → lowest_by j m (lowest_by j m i) ≡ lowest_by j m i
  lowest_by_self m i = sym (Chain-same (Chain-lowest_by m i))

  -- and the lowest that is
  pub lowest_by_least : (m i k : ℕ) → Chain j m i k → lowest_by j m i ≤ k
  lowest_by_least m i k s = omega (arith, Chain-same s, lowest_by-le m k)

  -- ---- along all the equations
  pub Joined-iff : (p q : ℕ) → Joined j p q ↔ (lowest j p ≡ lowest j q)
  unfolding lowest
  Joined-iff = Chain-iff (length j.equations)

  pub lowest-Joined : (i : ℕ) → Joined j i (lowest j i)
  unfolding lowest
  lowest-Joined = Chain-lowest_by (length j.equations)

  pub lowest_least : (i k : ℕ) → Joined j i k → lowest j i ≤ k
  unfolding lowest
  lowest_least = lowest_by_least (length j.equations)

  pub lowest-le : (i : ℕ) → lowest j i ≤ i
  unfolding lowest
  lowest-le = lowest_by-le (length j.equations)

  pub lowest_self : (i : ℕ) → lowest j (lowest j i) ≡ lowest j i
  unfolding lowest
  lowest_self = lowest_by_self (length j.equations)

  -- ---- components, numbered in the order of their lowest variable
  pub in-leads : (l : ℕ) → (l ∈ leads j) ↔ ((l < length j.variables) × (lowest j l ≡ l))
  unfolding leads
  in-leads l = Iff.trans (in-keep (λ i. eqb (lowest j i) i) (up_to (length j.variables)) l) (to, from)
    where
      to : (l ∈ up_to (length j.variables)) × (eqb (lowest j l) l ≡ true) → (l < length j.variables) × (lowest j l ≡ l)
      to (h, t) = ((in-up_to (length j.variables) l).0 h, eqb-true (lowest j l) l t)

      from : (l < length j.variables) × (lowest j l ≡ l) → (l ∈ up_to (length j.variables)) × (eqb (lowest j l) l ≡ true)
      from (b, e) = ((in-up_to (length j.variables) l).1 b, eq-eqb (lowest j l) l e)

  pub Rising-leads : Rising ◌<◌ (leads j)
  unfolding leads
  Rising-leads = Rising-keep (λ i. eqb (lowest j i) i) (Rising-up_to (length j.variables))

  -- there are no more of them than variables
  pub length_leads : component_count j ≤ length j.variables
  unfolding leads
  length_leads = omega (arith, length-keep (λ i. eqb (lowest j i) i) (up_to (length j.variables)), length-up_to (length j.variables))

  -- the lowest variable of every variable's component is among them
  pub lead_in : (i : ℕ) → i < length j.variables → lowest j i ∈ leads j
  lead_in i h = (in-leads (lowest j i)).1 (omega (arith, lowest-le i), lowest_self i)

  -- a variable whose lowest is that of component g is in component g
  component_of : (g i : ℕ) → g < component_count j → lowest j i ≡ get_or (leads j) g 0 → component j i ≡ g
  unfolding component
  component_of g i h e = rw e (rank_at Rising-leads g h)

  pub component_at : (g : ℕ) → g < component_count j → component j (get_or (leads j) g 0) ≡ g
  component_at g h = component_of g (get_or (leads j) g 0) h ((in-leads (get_or (leads j) g 0)).0 (member_at (leads j) g 0 h)).1

  placed : (i : ℕ) → i < length j.variables → (component j i < component_count j) × (get_or (leads j) (component j i) 0 ≡ lowest j i)
  placed i h = go (place_of (leads j) 0 (lead_in i h))
    where
      go : (g : ℕ) × (g < component_count j) × (lowest j i ≡ get_or (leads j) g 0) → (component j i < component_count j) × (get_or (leads j) (component j i) 0 ≡ lowest j i)
      go (g, l, e) = rw (component_of g i l e) (l, sym e)

  -- a variable's component is one of them, and has its lowest variable
  pub component_below : (i : ℕ) → i < length j.variables → component j i < component_count j
  component_below i h = (placed i h).0

  pub component_lead : (i : ℕ) → i < length j.variables → get_or (leads j) (component j i) 0 ≡ lowest j i
  component_lead i h = (placed i h).1

  pub component_iff : (i k : ℕ) → i < length j.variables → k < length j.variables → (component j i ≡ component j k) ↔ Joined j i k
  component_iff i k h l = (to, from)
    where
      to : component j i ≡ component j k → Joined j i k
      to e = (Joined-iff i k).1 (sym (component_lead i h) ∙ ap (λ g. get_or (leads j) g 0) e ∙ component_lead k l)

      from : Joined j i k → component j i ≡ component j k
      from s = component_of (component j k) i (component_below k l) ((Joined-iff i k).0 s ∙ sym (component_lead k l))
