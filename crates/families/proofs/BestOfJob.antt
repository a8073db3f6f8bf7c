-- From components to the whole job: the objective is the sum of the components' objectives, the best of each component put together
-- is the best of the job, and so is what the choice in each component's family gives.
use mathlib.Core.Path.{◌≡◌, refl, sym, ◌∙◌, ap, ap₂, subst}
use mathlib.Core.Logic.Iff
use mathlib.Core.Logic.{◌⊎◌, inl, inr, ◌↔◌, ◌≢◌}
use Prim.Native.Nat.{ℕ, ◌<◌}
use native.Mathlib.Decide.{ℕ_discrete}
use lib.Dec.{eqb}
use lib.ListN.{length}
use Rattle.ints.proofs.{ℤ, pos, ◌-ℤ◌, ◌*ℤ◌, ◌≤ℤ◌, ◌<ℤ◌, List, [], ◌∷◌, arith, lin, lin₀, ◌&◌, facts, le_or_lt}
use Rattle.ints.proofs.Order.{le_antisym}
use Rattle.lists.specs.Members.{◌∈◌}
use Rattle.lists.specs.Lexicographic.{Lower}
use Rattle.lists.specs.Best.{greater, earlier}
use Rattle.lists.specs.Sums.{sum, pick, sum_of}
use Rattle.lists.proofs.Table.{length-table}
use Rattle.lists.proofs.Places.{same_places}
use Rattle.lists.proofs.Lexicographic.{Lower-at, FirstLower, first_lower}
use Rattle.lists.proofs.Best.{at_most, among_equals}
use Rattle.lists.proofs.Sums.{sum_ext, sum-sub, sum_nonpos, sum_nonpos_zero, pick_no, pick_yes, regroup}
use Rattle.jobs.specs.declared.Equation.{Equation}
use Rattle.jobs.specs.Job.{Job, variable}
use Rattle.jobs.specs.TieBreak.{Earlier}
use Rattle.jobs.specs.Solution.{number, IsSolution, objective, Better, Optimal, best}
use Rattle.jobs.specs.Component.{lowest, leads}
use Rattle.jobs.specs.Family.{component_job, fits, slope}
use Rattle.jobs.proofs.TieBreak.{Earlier-asym, Earlier-compared}
use Rattle.jobs.proofs.Solutions.{best_is, best_only}
use Rattle.jobs.proofs.Components.{lowest-le, lowest_self, in-leads}
use Rattle.jobs.proofs.Assembly.{outside_zero, component_length, variable_inside, variable_outside, part_of, assembled, part_inside, part_outside, assembled_at, part_IsSolution, assembled-IsSolution, some_iff, fits_iff, fits_some}
use Rattle.families.specs.Family.{member, IsFamily, choice}
use Rattle.families.proofs.BestOfComponent.{choice-Optimal}

-- an order of lists in which a list that comes before another does so in the part of some component
record ByParts (j : Job) (R : List ℤ → List ℤ → Type 0) : Type 0 where
  asym : (x y : List ℤ) → R x y → R y x → ⊥
  compares : (x y : List ℤ) → length x ≡ length y → (x ≡ y) ⊎ (R x y ⊎ R y x)
  part : (x y : List ℤ) → length x ≡ length j.variables → R x y → (l : ℕ) × (l < length j.variables) × R (part_of j l x) (part_of j l y)

module _ (j : Job) where
  abbrev n : ℕ
  n = length j.variables

  -- ---- the parts of a list
  part_length : (l : ℕ) (x : List ℤ) → length (part_of j l x) ≡ n
  part_length l x = length-table _ n

  -- parts of one component are equal at a variable where the lists are, and where it is of another component
  same_at : (l : ℕ) (x y : List ℤ) (i : ℕ) → i < n → (lowest j i ≡ l → number x i ≡ number y i) → number (part_of j l x) i ≡ number (part_of j l y) i
  same_at l x y i h e = go (ℕ_discrete (lowest j i) l)
    where
      go : Dec (lowest j i ≡ l) → number (part_of j l x) i ≡ number (part_of j l y) i
      go (yes q) = part_inside j l x i h q ∙ e q ∙ sym (part_inside j l y i h q)
      go (no d) = part_outside j l x i h d ∙ sym (part_outside j l y i h d)

  same_part : (l : ℕ) (x y : List ℤ) → ((i : ℕ) → i < n → lowest j i ≡ l → number x i ≡ number y i) → part_of j l x ≡ part_of j l y
  same_part l x y f = same_places (pos 0) (part_of j l x) (part_of j l y) (part_length l x ∙ sym (part_length l y)) each
    where
      each : (i : ℕ) → i < length (part_of j l x) → number (part_of j l x) i ≡ number (part_of j l y) i
      each i h = let b : i < n = omega (arith, part_length l x) in same_at l x y i b (f i b)

  -- a solution of a component is 0 outside it, so it is its own part
  part_self : (l : ℕ) (z : List ℤ) → IsSolution (component_job j l) z → part_of j l z ≡ z
  part_self l z s = same_places (pos 0) (part_of j l z) z (part_length l z ∙ sym (s.long ∙ component_length j l)) each
    where
      each : (i : ℕ) → i < length (part_of j l z) → number (part_of j l z) i ≡ number z i
      each i h = go (ℕ_discrete (lowest j i) l)
        where
          b : i < n
          b = omega (arith, part_length l z)

          go : Dec (lowest j i ≡ l) → number (part_of j l z) i ≡ number z i
          go (yes q) = part_inside j l z i b q
          go (no d) = part_outside j l z i b d ∙ sym (outside_zero j l z s i b d)

  -- the parts of a list put together from solutions of the components are these
  pub part_assembled : (f : ℕ → List ℤ) (l : ℕ) → IsSolution (component_job j l) (f l) → part_of j l (assembled j f) ≡ f l
  part_assembled f l s = same_part l (assembled j f) (f l) (λ i h e. assembled_at j f i h ∙ ap (λ m. number (f m) i) e) ∙ part_self l (f l) s

  -- where l is no component's lowest variable, there is nothing in the part
  part_nothing : (l : ℕ) (x y : List ℤ) → lowest j l ≢ l → part_of j l x ≡ part_of j l y
  part_nothing l x y d = same_part l x y (λ i h e. absurd (d (sym (ap (lowest j) e) ∙ lowest_self j i ∙ e)))

  -- ---- the objective, component by component
  abbrev weigh : (ℕ → ℤ) → ℕ → ℤ
  weigh f i = (variable j i).weight *ℤ f i

  -- that of a component's own job counts only what a list has inside the component
  pub objective_own : (l : ℕ) (x : List ℤ) (f : ℕ → ℤ) → ((i : ℕ) → i < length j.variables → lowest j i ≡ l → number x i ≡ f i) →
      objective (component_job j l) x ≡ sum_of (lowest j) l (length j.variables) (λ i. (variable j i).weight *ℤ f i)
  unfolding objective
  objective_own l x f inside = ap (λ m. sum m own) (component_length j l) ∙ sum_ext n own (λ i. pick (eqb (lowest j i) l) (weigh f i)) each
    where
      own : ℕ → ℤ
      own i = (variable (component_job j l) i).weight *ℤ number x i

      nothing : (t : ℤ) → pos 0 *ℤ t ≡ pos 0
      nothing t = lin₀ (t ∷ []) (search facts depth 20) (omega arith)

      each : (i : ℕ) → i < n → own i ≡ pick (eqb (lowest j i) l) (weigh f i)
      each i h = go (ℕ_discrete (lowest j i) l)
        where
          go : Dec (lowest j i ≡ l) → own i ≡ pick (eqb (lowest j i) l) (weigh f i)
          go (yes q) =
              ap₂ (λ v t. v.weight *ℤ t) (variable_inside j l i h q) (inside i h q)
              ∙ sym (ap (λ m. pick (eqb m l) (weigh f i)) q ∙ pick_yes l (weigh f i))
          go (no d) = ap (λ v. v.weight *ℤ number x i) (variable_outside j l i h d) ∙ nothing (number x i) ∙ sym (pick_no (lowest j i) l (weigh f i) d)

  -- and of a list that is 0 outside the component it is that of the job
  pub objective_inside : (l : ℕ) (x : List ℤ) → ((i : ℕ) → i < length j.variables → lowest j i ≢ l → number x i ≡ pos 0) → objective j x ≡ objective (component_job j l) x
  unfolding objective
  objective_inside l x zero = sum_ext n (weigh (number x)) own each ∙ ap (λ m. sum m own) (sym (component_length j l))
    where
      own : ℕ → ℤ
      own i = (variable (component_job j l) i).weight *ℤ number x i

      nothing : (s t z : ℤ) → z ≡ pos 0 → s *ℤ z ≡ t *ℤ z
      nothing s t z e = rw e (lin₀ (s ∷ t ∷ []) (search facts depth 20) (omega arith))

      each : (i : ℕ) → i < n → weigh (number x) i ≡ own i
      each i h = go (ℕ_discrete (lowest j i) l)
        where
          go : Dec (lowest j i ≡ l) → weigh (number x) i ≡ own i
          go (yes q) = ap (λ v. v.weight *ℤ number x i) (sym (variable_inside j l i h q))
          go (no d) = nothing (variable j i).weight (variable (component_job j l) i).weight (number x i) (zero i h d)

  by_labels : (x : List ℤ) → objective j x ≡ sum n (λ l. sum_of (lowest j) l n (weigh (number x)))
  unfolding objective
  by_labels x = regroup (lowest j) n n (weigh (number x)) (λ i h. omega (arith, lowest-le j i))

  -- it is the sum of the parts' objectives; where l is no component's lowest variable, that of the part is 0
  pub objective_parts : (x : List ℤ) → objective j x ≡ sum (length j.variables) (λ l. objective (component_job j l) (part_of j l x))
  objective_parts x = by_labels x ∙ sum_ext n _ _ (λ l h. sym (objective_own l (part_of j l x) (number x) (part_inside j l x)))

  -- what the component of l adds to it
  abbrev worth : List ℤ → ℕ → ℤ
  worth x l = objective (component_job j l) (part_of j l x)

  -- ---- the order, component by component
  -- the first place where two lists differ is also the first where their parts in the component of that variable do
  Lower-part : {x y : List ℤ} (p : FirstLower x y) → p.at < n → (l : ℕ) × (l < n) × Lower (part_of j l x) (part_of j l y)
  Lower-part {x} {y} p b =
      (lowest j i, omega (arith, lowest-le j i, b), Lower-at (part_of j (lowest j i) x) (part_of j (lowest j i) y) i long long' same less)
    where
      i : ℕ
      i = p.at

      long : i < length (part_of j (lowest j i) x)
      long = omega (arith, part_length (lowest j i) x, b)

      long' : i < length (part_of j (lowest j i) y)
      long' = omega (arith, part_length (lowest j i) y, b)

      same : (k : ℕ) → k < i → number (part_of j (lowest j i) x) k ≡ number (part_of j (lowest j i) y) k
      same k l = same_at (lowest j i) x y k (omega (arith, b)) (λ q. p.same k l)

      less : number (part_of j (lowest j i) x) i <ℤ number (part_of j (lowest j i) y) i
      less = rw (part_inside j (lowest j i) x i b refl, part_inside j (lowest j i) y i b refl) p.less

  -- so the tie-break is such an order
  Earlier-ByParts : ByParts j Earlier
  Earlier-ByParts = record { asym = Earlier-asym; compares = Earlier-compared; part = part }
    where
      part : (x y : List ℤ) → length x ≡ n → Earlier x y → (l : ℕ) × (l < n) × Earlier (part_of j l x) (part_of j l y)
      part x y e h = let p = first_lower h in Lower-part p (omega (arith, p.right, e))

  -- a list whose parts are all equal or earlier is equal or earlier
  parts_earlier : {R : List ℤ → List ℤ → Type 0} → ByParts j R → (x y : List ℤ) → length x ≡ n → length y ≡ n →
      ((l : ℕ) → l < n → (part_of j l y ≡ part_of j l x) ⊎ R (part_of j l x) (part_of j l y)) → (y ≡ x) ⊎ R x y
  parts_earlier {R} o x y a b f = go (o.compares x y (a ∙ sym b))
    where
      clash : (l : ℕ) → (part_of j l y ≡ part_of j l x) ⊎ R (part_of j l x) (part_of j l y) → R (part_of j l y) (part_of j l x) → ⊥
      clash l (inl e) h = let q : R (part_of j l x) (part_of j l x) = rw e at h in o.asym (part_of j l x) (part_of j l x) q q
      clash l (inr k) h = o.asym (part_of j l x) (part_of j l y) k h

      go : (x ≡ y) ⊎ (R x y ⊎ R y x) → (y ≡ x) ⊎ R x y
      go (inl e) = inl (sym e)
      go (inr (inl h)) = inr h
      go (inr (inr h)) = let (l, k, q) = o.part y x b h in absurd (clash l (f l k) q)

  -- ---- the best of the job
  -- the choice in the family of the component of l
  abbrev pub choice_in : ℕ → List ℤ
  choice_in l = let c = component_job j l in member c (choice (slope c) (fits c))

  module _ (named : (e : Equation) → e ∈ j.equations → (e.left < length j.variables) × (e.right < length j.variables)) where
    -- the best of each component, put together, is the best of the job
    module _ (f : ℕ → List ℤ) (o : (l : ℕ) → l ∈ leads j → Optimal (component_job j l) (f l)) where
      abbrev x : List ℤ
      x = assembled j f

      assembled_solves : IsSolution j x
      assembled_solves = assembled-IsSolution j named f (λ l m. (o l m).solution)

      -- against any solution y
      module _ (y : List ℤ) (s : IsSolution j y) where
        part_beats : (l : ℕ) → l < n → (part_of j l y ≡ part_of j l x) ⊎ Better (component_job j l) (part_of j l x) (part_of j l y)
        part_beats l h = go (ℕ_discrete (lowest j l) l)
          where
            go : Dec (lowest j l ≡ l) → (part_of j l y ≡ part_of j l x) ⊎ Better (component_job j l) (part_of j l x) (part_of j l y)
            go (yes q) =
                let m = (in-leads j l).1 (h, q) in
                subst (λ z. (part_of j l y ≡ z) ⊎ Better (component_job j l) z (part_of j l y)) (sym (part_assembled f l (o l m).solution))
                ((o l m).beats (part_of j l y) (part_IsSolution j named l y s))
            go (no d) = inl (part_nothing l y x d)

        -- no component of y is worth more
        no_more : (l : ℕ) → l < n → (worth y l -ℤ worth x l) ≤ℤ pos 0
        no_more l h = lin (worth y l ∷ worth x l ∷ []) (at_most (objective (component_job j l)) (part_beats l h)) (search facts depth 20) (omega arith)

        total : sum n (λ l. worth y l -ℤ worth x l) ≡ objective j y -ℤ objective j x
        total = sum-sub n (worth y) (worth x) ∙ sym (ap₂ ◌-ℤ◌ (objective_parts y) (objective_parts x))

        most : objective j y ≤ℤ objective j x
        most =
            lin (sum n (λ l. worth y l -ℤ worth x l) ∷ objective j y ∷ objective j x ∷ [])
            (total & sum_nonpos n (λ l. worth y l -ℤ worth x l) no_more) (search facts depth 20) (omega arith)

        -- so where y is worth as much as x, each component of it is
        each_equal : objective j y ≡ objective j x → (l : ℕ) → l < n → worth y l ≡ worth x l
        each_equal e l h = lin (worth y l ∷ worth x l ∷ []) (zero l h) (search facts depth 20) (omega arith)
          where
            none : objective j y -ℤ objective j x ≡ pos 0
            none = lin (objective j y ∷ objective j x ∷ []) e (search facts depth 20) (omega arith)

            zero : (l : ℕ) → l < n → worth y l -ℤ worth x l ≡ pos 0
            zero = sum_nonpos_zero n (λ l. worth y l -ℤ worth x l) no_more (total ∙ none)

        -- and the first place where they differ decides as it does in its component
        among_level : objective j y ≡ objective j x → (y ≡ x) ⊎ Earlier x y
        among_level e =
            parts_earlier Earlier-ByParts x y assembled_solves.long s.long
            (λ l h. among_equals (objective (component_job j l)) (each_equal e l h) (part_beats l h))

        assembled_beats : (y ≡ x) ⊎ Better j x y
        assembled_beats = go (le_or_lt (objective j x) (objective j y))
          where
            by_order : objective j x ≡ objective j y → (y ≡ x) ⊎ Earlier x y → (y ≡ x) ⊎ Better j x y
            by_order q (inl e) = inl e
            by_order q (inr r) = inr (earlier q r)

            go : (objective j x ≤ℤ objective j y) ⊎ (objective j y <ℤ objective j x) → (y ≡ x) ⊎ Better j x y
            go (inr h) = inr (greater h)
            go (inl h) = let q = le_antisym (objective j x) (objective j y) h most in by_order q (among_level (sym q))

      pub assembled-Optimal : Optimal j (assembled j f)
      assembled-Optimal = record { solution = assembled_solves; beats = assembled_beats }

    -- so where every component has a solution, `best` is what the components' own `best` make
    pub best-assembled : ((l : ℕ) → l ∈ leads j → (x : List ℤ) × IsSolution (component_job j l) x) → best j ≡ assembled j (λ l. best (component_job j l))
    best-assembled some = sym (best_only j (assembled j (λ l. best (component_job j l))) (assembled-Optimal (λ l. best (component_job j l)) each))
      where
        each : (l : ℕ) → l ∈ leads j → Optimal (component_job j l) (best (component_job j l))
        each l m = let (x, s) = some l m in best_is (component_job j l) x s

    -- a job has a solution exactly when no component is without one
    pub solvable_iff : ((x : List ℤ) × IsSolution j x) ↔ ((l : ℕ) → l ∈ leads j → fits (component_job j l) ≢ 0)
    solvable_iff = Iff.trans (some_iff j named) (to, λ f l m. fits_some (component_job j l) (f l m))
      where
        to : ((l : ℕ) → l ∈ leads j → (x : List ℤ) × IsSolution (component_job j l) x) → (l : ℕ) → l ∈ leads j → fits (component_job j l) ≢ 0
        to f l m e = let (x, s) = f l m in (fits_iff (component_job j l)).0 e x s

    -- where the solutions of each component are a family and none is without one, the choices make the best of the job
    module _ (family : (l : ℕ) → l ∈ leads j → IsFamily j l) (some : (l : ℕ) → l ∈ leads j → fits (component_job j l) ≢ 0) where
      pub plan_Optimal : Optimal j (assembled j choice_in)
      plan_Optimal = assembled-Optimal choice_in (λ l m. choice-Optimal (component_job j l) (family l m).all (omega (arith, some l m)))

      pub plan_best : assembled j choice_in ≡ best j
      plan_best = best_only j (assembled j choice_in) plan_Optimal
