-- From components to the whole job and back: a job has a solution exactly when each of its components has one; and what the search
-- for the first component without a solution finds.
use mathlib.Core.Path.{◌≡◌, refl, sym, ◌∙◌, ap, ap₂}
use mathlib.Core.Logic.Iff
use mathlib.Core.Logic.{◌↔◌, ◌≢◌}
use mathlib.Core.Bool.{cond}
use mathlib.Core.Option.{none, some}
use mathlib.Core.List.{List, []}
use Prim.Native.Nat.{ℕ, ◌<◌}
use native.Mathlib.Decide.{ℕ_discrete}
use native.Mathlib.Omega.{arith}
use lib.Dec.{eqb}
use lib.ListN.{length, get_or}
use lib.Signed.{≤ℤ_refl}
use borrow.Author.Tests.{eqb-true, eq-eqb, ne_eqb}
use Rattle.ints.proofs.{ℤ, pos, ◌≤ℤ◌, ◌+ℤ◌, ◌*ℤ◌}
use Rattle.ints.proofs.Order.{le_antisym}
use Rattle.lists.specs.Members.{◌∈◌}
use Rattle.lists.specs.Table.{table}
use Rattle.lists.proofs.Members.{member_at, each_iff}
use Rattle.lists.proofs.Keep.{in-keep}
use Rattle.lists.proofs.Table.{length-table, table_at}
use Rattle.jobs.specs.Job.{Variable, Equation, Job, variable, equation, no_variable, no_equation}
use Rattle.jobs.specs.Solution.{number, value, IsSolution, solutions, best}
use Rattle.jobs.specs.NormalForm.{home, normal}
use Rattle.jobs.specs.Component.{Joined, lowest, leads}
use Rattle.jobs.specs.Family.{component_job, fits}
use Rattle.jobs.specs.Decide.{equal?}
use Rattle.jobs.specs.Verdict.{first_without}
use Rattle.jobs.specs.Demands.{SolvesGroup}
use Rattle.jobs.proofs.FirstOf.{first_rising, none_holds}
use Rattle.jobs.proofs.Solutions.{in-solutions, none_iff, best_is}
use Rattle.jobs.proofs.NormalForm.{normal-value, normal-home, home_below, normal-left_below, normal-right_below}
use Rattle.jobs.proofs.Components.{one_component, Joined-iff, Rising-leads, lead_in}

-- every equation holds, by places and by members
pub holds_iff : (es : List Equation) (x : List ℤ) →
    ((k : ℕ) → k < length es → value (get_or es k no_equation) x ≡ (get_or es k no_equation).c) ↔ ((e : Equation) → e ∈ es → value e x ≡ e.c)
holds_iff es x = each_iff (λ e. value e x ≡ e.c) es no_equation

-- lists that give the same to the two variables of an equation in normal form
same_value : (e : Equation) (x y : List ℤ) → number x (normal e).left ≡ number y (normal e).left → number x (normal e).right ≡ number y (normal e).right → value e x ≡ value e y
same_value e x y p q = sym (normal-value e x) ∙ ap₂ (λ u v. (normal e).a *ℤ u +ℤ (normal e).b *ℤ v) p q ∙ normal-value e y

-- a number from the low to the high of a variable
abbrev pub Between : Variable → ℤ → Type 0
Between v z = (v.low ≤ℤ z) × (z ≤ℤ v.high)

pub between : {u v : Variable} {y z : ℤ} → u ≡ v → y ≡ z → Between v z → Between u y
between p q b = rw (p, q) b

module _ (j : Job) where
  -- ---- the own job of a component
  module _ (l : ℕ) where
    pub component_length : length (component_job j l).variables ≡ length j.variables
    unfolding component_job
    component_length = length-table _ (length j.variables)

    component_variable : (i : ℕ) → i < length j.variables → variable (component_job j l) i ≡ cond (eqb (lowest j i) l) (variable j i) no_variable
    unfolding component_job
    component_variable i h = table_at (λ i. cond (eqb (lowest j i) l) (variable j i) no_variable) (length j.variables) i no_variable h

    -- its variables are those of the job, and every other is held at 0
    pub variable_inside : (i : ℕ) → i < length j.variables → lowest j i ≡ l → variable (component_job j l) i ≡ variable j i
    variable_inside i h e = component_variable i h ∙ ap (λ t. cond t (variable j i) no_variable) (eq-eqb (lowest j i) l e)

    pub variable_outside : (i : ℕ) → i < length j.variables → lowest j i ≢ l → variable (component_job j l) i ≡ no_variable
    variable_outside i h n = component_variable i h ∙ ap (λ t. cond t (variable j i) no_variable) (ne_eqb (lowest j i) l n)

    -- so a solution of it is 0 there
    pub outside_zero : (x : List ℤ) → IsSolution (component_job j l) x → (i : ℕ) → i < length j.variables → lowest j i ≢ l → number x i ≡ pos 0
    outside_zero x s i h n =
        let b : i < length (component_job j l).variables = omega (arith, component_length) in
        let (low, high) = between (sym (variable_outside i h n)) refl (s.low i b, s.high i b) in
        le_antisym (number x i) (pos 0) high low

    pub in_equations : (e : Equation) → (e ∈ (component_job j l).equations) ↔ ((e ∈ j.equations) × (lowest j (home e) ≡ l))
    unfolding component_job
    in_equations e = Iff.trans (in-keep (λ e. eqb (lowest j (home e)) l) j.equations e) (
      λ (m, t). (m, eqb-true (lowest j (home e)) l t),
      λ (m, q). (m, eq-eqb (lowest j (home e)) l q),
    )

    -- ---- a solution of it is a solution of the component, as document 01 says
    module _ (self : lowest j l ≡ l) (x : List ℤ) where
      inside_iff : (i : ℕ) → Joined j l i ↔ (lowest j i ≡ l)
      inside_iff i = (λ s. sym ((Joined-iff j l i).0 s) ∙ self, λ e. (Joined-iff j l i).1 (self ∙ sym e))

      solves : IsSolution (component_job j l) x → SolvesGroup j l x
      solves s = record {
        long = s.long ∙ component_length;
        low = λ i h q. (within i h q).0;
        high = λ i h q. (within i h q).1;
        holds = (each_iff (λ e. Joined j l (home e) → value e x ≡ e.c) j.equations no_equation).1 tie;
        elsewhere = λ i h n. outside_zero x s i h (λ e. n ((inside_iff i).1 e));
      }
        where
          within : (i : ℕ) → i < length j.variables → Joined j l i → Between (variable j i) (number x i)
          within i h q =
              let b : i < length (component_job j l).variables = omega (arith, component_length) in
              between (sym (variable_inside i h ((inside_iff i).0 q))) refl (s.low i b, s.high i b)

          tie : (e : Equation) → e ∈ j.equations → Joined j l (home e) → value e x ≡ e.c
          tie e m q = (holds_iff (component_job j l).equations x).0 s.holds e ((in_equations e).1 (m, (inside_iff (home e)).0 q))

      solved : SolvesGroup j l x → IsSolution (component_job j l) x
      solved s = record {
        long = s.long ∙ sym component_length;
        low = λ i h. (within i (omega (arith, component_length))).0;
        high = λ i h. (within i (omega (arith, component_length))).1;
        holds = (holds_iff (component_job j l).equations x).1 tie;
      }
        where
          within : (i : ℕ) → i < length j.variables → Between (variable (component_job j l) i) (number x i)
          within i h = go (ℕ_discrete (lowest j i) l)
            where
              go : Dec (lowest j i ≡ l) → Between (variable (component_job j l) i) (number x i)
              go (yes e) = let q = (inside_iff i).1 e in between (variable_inside i h e) refl (s.low i h q, s.high i h q)
              go (no d) = between (variable_outside i h d) (s.elsewhere i h (λ q. d ((inside_iff i).0 q))) (≤ℤ_refl (pos 0), ≤ℤ_refl (pos 0))

          tie : (e : Equation) → e ∈ (component_job j l).equations → value e x ≡ e.c
          tie e m =
              let (k, q) = (in_equations e).0 m in
              (each_iff (λ e. Joined j l (home e) → value e x ≡ e.c) j.equations no_equation).0 s.holds e k ((inside_iff (home e)).1 q)

      pub solves_iff : SolvesGroup j l x ↔ IsSolution (component_job j l) x
      solves_iff = (solved, solves)

  -- both variables of an equation in normal form are in its component
  left_inside : (e : Equation) → lowest j (normal e).left ≡ lowest j (home e)
  left_inside e = ap (lowest j) (normal-home e)

  right_inside : (e : Equation) → e ∈ j.equations → lowest j (normal e).right ≡ lowest j (home e)
  unfolding lowest
  right_inside =
      (each_iff (λ e. lowest j (normal e).right ≡ lowest j (home e)) j.equations no_equation).0
      (λ k h. sym (one_component j (length j.equations) k h) ∙ left_inside (equation j k))

  -- the part of a list that belongs to the component of l, and 0 elsewhere
  abbrev pub part_of : ℕ → List ℤ → List ℤ
  part_of l x = table (λ i. cond (eqb (lowest j i) l) (number x i) (pos 0)) (length j.variables)

  -- the list that takes each variable's number from the list of its own component
  abbrev pub assembled : (ℕ → List ℤ) → List ℤ
  assembled f = table (λ i. number (f (lowest j i)) i) (length j.variables)

  part_at : (l : ℕ) (x : List ℤ) (i : ℕ) → i < length j.variables → number (part_of l x) i ≡ cond (eqb (lowest j i) l) (number x i) (pos 0)
  part_at l x i h = table_at (λ i. cond (eqb (lowest j i) l) (number x i) (pos 0)) (length j.variables) i (pos 0) h

  pub part_inside : (l : ℕ) (x : List ℤ) (i : ℕ) → i < length j.variables → lowest j i ≡ l → number (part_of l x) i ≡ number x i
  part_inside l x i h e = part_at l x i h ∙ ap (λ t. cond t (number x i) (pos 0)) (eq-eqb (lowest j i) l e)

  pub part_outside : (l : ℕ) (x : List ℤ) (i : ℕ) → i < length j.variables → lowest j i ≢ l → number (part_of l x) i ≡ pos 0
  part_outside l x i h n = part_at l x i h ∙ ap (λ t. cond t (number x i) (pos 0)) (ne_eqb (lowest j i) l n)

  pub assembled_at : (f : ℕ → List ℤ) (i : ℕ) → i < length j.variables → number (assembled f) i ≡ number (f (lowest j i)) i
  assembled_at f i h = table_at (λ i. number (f (lowest j i)) i) (length j.variables) i (pos 0) h

  -- ---- the theorem, where every equation names variables of the job
  module _ (named : (e : Equation) → e ∈ j.equations → (e.left < length j.variables) × (e.right < length j.variables)) where
    normal_named : (e : Equation) → e ∈ j.equations → ((normal e).left < length j.variables) × ((normal e).right < length j.variables)
    normal_named e m = let (a, b) = named e m in (normal-left_below e (length j.variables) a b, normal-right_below e (length j.variables) a b)

    -- a solution of the job, set to 0 outside a component, is a solution of the component
    pub part_IsSolution : (l : ℕ) (x : List ℤ) → IsSolution j x → IsSolution (component_job j l) (part_of l x)
    part_IsSolution l x s = record {
      long = length-table _ (length j.variables) ∙ sym (component_length l);
      low = λ i h. (within i (omega (arith, component_length l))).0;
      high = λ i h. (within i (omega (arith, component_length l))).1;
      holds = (holds_iff (component_job j l).equations (part_of l x)).1 (λ e m. tie e ((in_equations l e).0 m));
    }
      where
        within : (i : ℕ) → i < length j.variables → Between (variable (component_job j l) i) (number (part_of l x) i)
        within i h = go (ℕ_discrete (lowest j i) l)
          where
            go : Dec (lowest j i ≡ l) → Between (variable (component_job j l) i) (number (part_of l x) i)
            go (yes e) = between (variable_inside l i h e) (part_inside l x i h e) (s.low i h, s.high i h)
            go (no n) = between (variable_outside l i h n) (part_outside l x i h n) (≤ℤ_refl (pos 0), ≤ℤ_refl (pos 0))

        tie : (e : Equation) → (e ∈ j.equations) × (lowest j (home e) ≡ l) → value e (part_of l x) ≡ e.c
        tie e (m, q) =
            same_value e (part_of l x) x
            (part_inside l x (normal e).left (normal_named e m).0 (left_inside e ∙ q)) (part_inside l x (normal e).right (normal_named e m).1 (right_inside e m ∙ q))
            ∙ (holds_iff j.equations x).0 s.holds e m

    -- solutions of all the components make one of the job
    pub assembled-IsSolution : (f : ℕ → List ℤ) → ((l : ℕ) → l ∈ leads j → IsSolution (component_job j l) (f l)) → IsSolution j (assembled f)
    assembled-IsSolution f each = record {
      long = length-table _ (length j.variables);
      low = λ i h. (within i h).0;
      high = λ i h. (within i h).1;
      holds = (holds_iff j.equations (assembled f)).1 tie;
    }
      where
        within : (i : ℕ) → i < length j.variables → Between (variable j i) (number (assembled f) i)
        within i h =
            let s = each (lowest j i) (lead_in j i h) in
            let l : i < length (component_job j (lowest j i)).variables = omega (arith, component_length (lowest j i)) in
            between (sym (variable_inside (lowest j i) i h refl)) (assembled_at f i h) (s.low i l, s.high i l)

        tie : (e : Equation) → e ∈ j.equations → value e (assembled f) ≡ e.c
        tie e m =
            let l = lowest j (home e) in
            let (a, b) = normal_named e m in
            let (c, d) = named e m in
            same_value e (assembled f) (f l) (at (normal e).left a (left_inside e)) (at (normal e).right b (right_inside e m))
            ∙ (holds_iff (component_job j l).equations (f l)).0 (each l (lead_in j (home e) (home_below e (length j.variables) c d))).holds e ((in_equations l e).1 (m, refl))
          where
            at : (i : ℕ) → i < length j.variables → lowest j i ≡ lowest j (home e) → number (assembled f) i ≡ number (f (lowest j (home e))) i
            at i h q = assembled_at f i h ∙ ap (λ l. number (f l) i) q

    pub some_iff : ((x : List ℤ) × IsSolution j x) ↔ ((l : ℕ) → l ∈ leads j → (x : List ℤ) × IsSolution (component_job j l) x)
    some_iff = (
      λ (x, s) l m. (part_of l x, part_IsSolution l x s),
      λ f. (assembled (λ l. best (component_job j l)), assembled-IsSolution (λ l. best (component_job j l)) (λ l m. let (x, s) = f l m in (best_is (component_job j l) x s).solution)),
    )

-- ---- the first component without a solution
pub fits_iff : (c : Job) → (fits c ≡ 0) ↔ ((x : List ℤ) → ¬ IsSolution c x)
unfolding fits
fits_iff c = none_iff c

pub fits_some : (c : Job) → fits c ≢ 0 → (x : List ℤ) × IsSolution c x
unfolding fits
fits_some c h = (get_or (solutions c) 0 [], (in-solutions c (get_or (solutions c) 0 [])).0 (member_at (solutions c) 0 [] (omega (arith, h))))

pub none_without : (j : Job) → first_without j ≡ none → (l : ℕ) → l ∈ leads j → fits (component_job j l) ≢ 0
unfolding first_without
none_without j e = none_holds (λ l. equal? (fits (component_job j l)) 0) (leads j) e

pub all_fit : (j : Job) → first_without j ≡ none → (l : ℕ) → l ∈ leads j → (x : List ℤ) × IsSolution (component_job j l) x
all_fit j e l m = fits_some (component_job j l) (none_without j e l m)

pub without_iff : (j : Job) (l : ℕ) → (first_without j ≡ some l) ↔
    ((l ∈ leads j) × ((fits (component_job j l) ≡ 0) × ((i : ℕ) → i ∈ leads j → i < l → fits (component_job j i) ≢ 0)))
unfolding first_without
without_iff j l = first_rising (λ l. equal? (fits (component_job j l)) 0) (λ a b h k. omega (arith, h, k)) (Rising-leads j) l
