-- The choice in one component, where its solutions in order are base + step·k, k = 0 to fits − 1: the last of them is the best where
-- the slope is 0 or more, and the first elsewhere. c is the component's own job, and its slope is `slope c`.
use mathlib.Core.Path.{◌≡◌, refl, sym, ◌∙◌, ap}
use mathlib.Core.Logic.{◌⊎◌, inl, inr}
use mathlib.Core.Bool.{Bool, true, false, cond}
use Prim.Native.Nat.{ℕ, ◌-◌, ◌≤◌, ◌<◌}
use native.Mathlib.Decide.{ℕ_discrete, dec_lt}
use lib.ListN.{length, get_or}
use Rattle.ints.proofs.{ℤ, pos, ◌+ℤ◌, ◌*ℤ◌, ◌≤ℤ◌, ◌<ℤ◌, le_z, List, [], ◌∷◌, arith, lin₀, facts, le_or_lt}
use Rattle.ints.proofs.Order.{le_antisym, pos_below}
use Rattle.lists.specs.Table.{table}
use Rattle.lists.specs.Lexicographic.{Lower}
use Rattle.lists.specs.Best.{greater, earlier}
use Rattle.lists.specs.Sums.{sum}
use Rattle.lists.proofs.Lexicographic.{Lower-asym}
use Rattle.lists.proofs.Table.{in-table, table_at, table_rises}
use Rattle.lists.proofs.Sums.{sum_ext, sum-add, sum_scale}
use Rattle.jobs.specs.Job.{Job, variable}
use Rattle.jobs.specs.TieBreak.{Earlier}
use Rattle.jobs.specs.Solution.{number, IsSolution, solutions, objective, Better, Optimal, best}
use Rattle.jobs.specs.Family.{fits, base, step, chosen, slope}
use Rattle.jobs.proofs.Solutions.{in-solutions, Rising-solutions, best_only}
use Rattle.jobs.proofs.PlaceOfBest.{chosen_at}
use Rattle.families.proofs.LinearFunctions.{line_up, line_down, line_level}
use Rattle.families.specs.Family.{member, choice}
use Rattle.families.proofs.Choice.{choice_up, choice_down, choice_level}

-- ---- the objective along a family
weighed : (w b s k : ℤ) → w *ℤ (b +ℤ s *ℤ k) ≡ w *ℤ b +ℤ w *ℤ s *ℤ k
weighed w b s k = lin₀ (w ∷ b ∷ s ∷ k ∷ []) (search facts depth 20) (omega arith)

-- from one member to the next it moves by the slope
pub objective-member : (c : Job) (k : ℕ) → objective c (member c k) ≡ objective c (base c) +ℤ slope c *ℤ pos k
unfolding objective slope
objective-member c k =
    sum_ext n (λ i. w i *ℤ number (member c k) i) (λ i. b i +ℤ s i *ℤ pos k) each
    ∙ sum-add n b (λ i. s i *ℤ pos k)
    ∙ ap (λ t. sum n b +ℤ t) (sum_scale n s (pos k))
  where
    n : ℕ
    n = length c.variables

    w : ℕ → ℤ
    w i = (variable c i).weight

    b : ℕ → ℤ
    b i = w i *ℤ number (base c) i

    s : ℕ → ℤ
    s i = w i *ℤ number (step c) i

    each : (i : ℕ) → i < n → w i *ℤ number (member c k) i ≡ b i +ℤ s i *ℤ pos k
    each i h =
        ap (λ t. w i *ℤ t) (table_at (λ i. number (base c) i +ℤ number (step c) i *ℤ pos k) n i (pos 0) h)
        ∙ weighed (w i) (number (base c) i) (number (step c) i) (pos k)

-- ---- the choice
pub choice_below : (g : ℤ) (n : ℕ) → 1 ≤ n → choice g n < n
choice_below g n h = go (le_z (pos 0) g)
  where
    go : (t : Bool) → cond t (n - 1) 0 < n
    go true = omega arith
    go false = omega arith

module _ (c : Job) (e : solutions c ≡ table (member c) (fits c)) where
  -- ---- the solutions are the members
  pub member-IsSolution : (k : ℕ) → k < fits c → IsSolution c (member c k)
  member-IsSolution k h = (in-solutions c (member c k)).0 (rw e ((in-table (member c) (fits c) (member c k)).1 (k, h, refl)))

  pub IsSolution-member : (y : List ℤ) → IsSolution c y → (k : ℕ) × (k < fits c) × (y ≡ member c k)
  IsSolution-member y s = (in-table (member c) (fits c) y).0 (rw e at ((in-solutions c y).1 s))

  pub members_rise : (i k : ℕ) → i < k → k < fits c → Lower (member c i) (member c k)
  members_rise = table_rises (member c) (fits c) (rw e at (Rising-solutions c))

  -- each of them once
  pub members_once : (i k : ℕ) → i < fits c → k < fits c → member c i ≡ member c k → i ≡ k
  members_once i k h l q = go (dec_lt i k) (dec_lt k i)
    where
      apart : (x y : List ℤ) → x ≡ y → ¬ Lower x y
      apart x y p r = let s : Lower y y = rw p at r in Lower-asym y y s s

      go : Dec (i < k) → Dec (k < i) → i ≡ k
      go (yes a) d = absurd (apart (member c i) (member c k) q (members_rise i k a l))
      go (no a) (yes b) = absurd (apart (member c k) (member c i) (sym q) (members_rise k i b h))
      go (no a) (no b) = omega arith

  -- ---- the best of them
  -- member k is member b, or member b is better
  abbrev Beaten : ℕ → ℕ → Type 0
  Beaten b k = (member c k ≡ member c b) ⊎ Better c (member c b) (member c k)

  more_at : (b k : ℕ) → (objective c (base c) +ℤ slope c *ℤ pos k) <ℤ (objective c (base c) +ℤ slope c *ℤ pos b) → Beaten b k
  more_at b k h = inr (greater (rw (objective-member c k, objective-member c b) h))

  last_beats : pos 0 <ℤ slope c → (k : ℕ) → k < fits c → Beaten (fits c - 1) k
  last_beats g k h = go (ℕ_discrete k (fits c - 1))
    where
      go : Dec (k ≡ fits c - 1) → Beaten (fits c - 1) k
      go (yes q) = inl (ap (member c) q)
      go (no n) = more_at (fits c - 1) k (line_up (objective c (base c)) (slope c) (pos k) (pos (fits c - 1)) g (pos_below (omega arith)))

  first_beats : slope c <ℤ pos 0 → (k : ℕ) → Beaten 0 k
  first_beats g k = go (ℕ_discrete k 0)
    where
      go : Dec (k ≡ 0) → Beaten 0 k
      go (yes q) = inl (ap (member c) q)
      go (no n) = more_at 0 k (line_down (objective c (base c)) (slope c) (pos 0) (pos k) g (pos_below (omega arith)))

  -- with a slope of 0 all members are of equal objective, and the chosen one comes before every other. In the choice it counts
  -- only here which of two lists is `Earlier`: a turned tie-break turns this lemma, and `choice` with its laws above.
  tie : slope c ≡ pos 0 → (k : ℕ) → k < fits c → Beaten (choice (slope c) (fits c)) k
  tie g k h = rw last (go (ℕ_discrete k (fits c - 1)))
    where
      last : choice (slope c) (fits c) ≡ fits c - 1
      last = choice_level (slope c) (fits c) g

      level : objective c (member c (fits c - 1)) ≡ objective c (member c k)
      level =
          objective-member c (fits c - 1)
          ∙ line_level (objective c (base c)) (slope c) (pos (fits c - 1)) (pos k) g
          ∙ sym (objective-member c k)

      go : Dec (k ≡ fits c - 1) → Beaten (fits c - 1) k
      go (yes q) = inl (ap (member c) q)
      go (no n) = let r : Earlier (member c (fits c - 1)) (member c k) = members_rise k (fits c - 1) (omega arith) (omega arith) in inr (earlier level r)

  choice_beats : (k : ℕ) → k < fits c → Beaten (choice (slope c) (fits c)) k
  choice_beats k h = go (le_or_lt (slope c) (pos 0)) (le_or_lt (pos 0) (slope c))
    where
      go : (slope c ≤ℤ pos 0) ⊎ (pos 0 <ℤ slope c) → (pos 0 ≤ℤ slope c) ⊎ (slope c <ℤ pos 0) → Beaten (choice (slope c) (fits c)) k
      go g (inr d) = rw (choice_down (slope c) (fits c) d) (first_beats d k)
      go (inr g) (inl d) = rw (choice_up (slope c) (fits c) d) (last_beats g k h)
      go (inl g) (inl d) = tie (le_antisym (slope c) (pos 0) g d) k h

  -- so where there is a member at all, the chosen one is the best solution, and its place is 01's chosen k
  module _ (some : 1 ≤ fits c) where
    pub choice-Optimal : Optimal c (member c (choice (slope c) (fits c)))
    choice-Optimal = record { solution = member-IsSolution (choice (slope c) (fits c)) (choice_below (slope c) (fits c) some); beats = beats }
      where
        beats : (y : List ℤ) → IsSolution c y → (y ≡ member c (choice (slope c) (fits c))) ⊎ Better c (member c (choice (slope c) (fits c))) y
        beats y s = let (k, h, q) = IsSolution-member y s in rw q (choice_beats k h)

    pub best-member : best c ≡ member c (choice (slope c) (fits c))
    best-member = sym (best_only c (member c (choice (slope c) (fits c))) choice-Optimal)

    pub chosen_is : chosen c ≡ choice (slope c) (fits c)
    chosen_is = chosen_at c k l (best-member ∙ sym at_k)
      where
        k : ℕ
        k = choice (slope c) (fits c)

        l : k < fits c
        l = choice_below (slope c) (fits c) some

        at_k : get_or (solutions c) k [] ≡ member c k
        at_k = ap (λ xs. get_or xs k []) e ∙ table_at (member c) (fits c) k [] l
