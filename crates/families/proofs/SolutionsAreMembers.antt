-- At the end: the solutions of a component's own job, in order, are the members of its family.
use mathlib.Core.Path.{◌≡◌, refl, sym, ◌∙◌, ap, subst}
use mathlib.Core.Logic.Iff
use mathlib.Core.Logic.{◌≢◌}
use mathlib.Core.Bool.{cond}
use mathlib.Core.List.{List}
use Prim.Native.Nat.{ℕ, ◌<◌}
use native.Mathlib.Decide.{ℕ_discrete}
use lib.Dec.{eqb}
use lib.ListN.{length}
use lib.Signed.{≤ℤ_refl}
use borrow.Author.Tests.{eq-eqb, ne_eqb}
use Rattle.ints.proofs.{ℤ, pos, ◌<ℤ◌, arith}
use Rattle.lists.specs.Members.{◌∈◌}
use Rattle.lists.specs.Lexicographic.{Lower}
use Rattle.lists.specs.Table.{table}
use Rattle.lists.proofs.Members.{member_at, each_iff}
use Rattle.lists.proofs.Places.{same_places}
use Rattle.lists.proofs.Rising.{same_members}
use Rattle.lists.proofs.Lexicographic.{Lower-asym, Lower-at}
use Rattle.lists.proofs.Table.{in-table, Rising-table, length-table, table_at}
use Rattle.runs.specs.declared.Run.{Run}
use Rattle.runs.specs.Run.{nth, empty}
use Rattle.jobs.specs.declared.Equation.{Equation}
use Rattle.jobs.specs.Job.{Job, variable, equation, no_equation}
use Rattle.jobs.specs.Solution.{number, value, IsSolution, solutions}
use Rattle.jobs.specs.NormalForm.{home, normal_row}
use Rattle.jobs.specs.Component.{lowest_by, lowest}
use Rattle.jobs.specs.Family.{component_job}
use Rattle.jobs.proofs.NormalForm.{normal-value, normal_constant, normal-home}
use Rattle.jobs.proofs.Components.{lowest-le}
use Rattle.jobs.proofs.Solutions.{in-solutions, Rising-solutions}
use Rattle.jobs.proofs.Assembly.{outside_zero, holds_iff, Between, between, component_length, variable_inside, variable_outside, in_equations}
use Rattle.ints.proofs.Order.{pos_below}
use Rattle.families.proofs.LinearFunctions.{line_up}
use Rattle.families.specs.Model.{State, run_at}
use Rattle.families.specs.Invariant.{Keeps, OnFamily, Invariant}
use Rattle.families.proofs.Subfamily.{at_rest}
use Rattle.families.proofs.InvariantStep.{on_family}

-- the lowest variable, along all equations
pub lowest_is : (j : Job) (i : ℕ) → lowest j i ≡ lowest_by j (length j.equations) i
unfolding lowest
lowest_is j i = refl

module _ (j : Job) (l : ℕ) where
  -- ---- a solution of the component's own job keeps what the component asks, and is 0 elsewhere
  module _ (x : List ℤ) where
    own_bounds : (i : ℕ) → i < length j.variables → IsSolution (component_job j l) x → Between (variable (component_job j l) i) (number x i)
    own_bounds i h s = let b : i < length (component_job j l).variables = omega (arith, component_length j l) in (s.low i b, s.high i b)

    IsSolution-Keeps : IsSolution (component_job j l) x → Keeps j (length j.equations) l x
    IsSolution-Keeps s = record {
      low = λ i h e. (bounds i h (lowest_is j i ∙ e)).0;
      high = λ i h e. (bounds i h (lowest_is j i ∙ e)).1;
      holds = λ k h e. normal-value (equation j k) x ∙ tie k h e ∙ sym (normal_constant (equation j k));
    }
      where
        tie : (k : ℕ) → k < length j.equations → lowest_by j (length j.equations) (normal_row j k).left ≡ l → value (equation j k) x ≡ (equation j k).c
        tie k h e =
            (holds_iff (component_job j l).equations x).0 s.holds (equation j k)
            ((in_equations j l (equation j k)).1 (member_at j.equations k no_equation h, lowest_is j (home (equation j k)) ∙ ap (lowest_by j (length j.equations)) (sym (normal-home (equation j k))) ∙ e))

        bounds : (i : ℕ) → i < length j.variables → lowest j i ≡ l → Between (variable j i) (number x i)
        bounds i h e = between (sym (variable_inside j l i h e)) refl (own_bounds i h s)

    Keeps-IsSolution : length x ≡ length j.variables → ((i : ℕ) → i < length j.variables → lowest j i ≢ l → number x i ≡ pos 0) →
        Keeps j (length j.equations) l x → IsSolution (component_job j l) x
    Keeps-IsSolution long rests q = record {
      long = long ∙ sym (component_length j l);
      low = λ i h. (bounds i (omega (arith, component_length j l)) (ℕ_discrete (lowest j i) l)).0;
      high = λ i h. (bounds i (omega (arith, component_length j l)) (ℕ_discrete (lowest j i) l)).1;
      holds = (holds_iff (component_job j l).equations x).1 (λ e m. let (a, b) = (in_equations j l e).0 m in holds e a b);
    }
      where
        bounds : (i : ℕ) → i < length j.variables → Dec (lowest j i ≡ l) → Between (variable (component_job j l) i) (number x i)
        bounds i h (yes e) = let e' : lowest_by j (length j.equations) i ≡ l = sym (lowest_is j i) ∙ e in between (variable_inside j l i h e) refl (q.low i h e', q.high i h e')
        bounds i h (no n) = between (variable_outside j l i h n) (rests i h n) (≤ℤ_refl (pos 0), ≤ℤ_refl (pos 0))

        holds : (e : Equation) → e ∈ j.equations → lowest j (home e) ≡ l → value e x ≡ e.c
        holds = (each_iff (λ e. lowest j (home e) ≡ l → value e x ≡ e.c) j.equations no_equation).0 (λ k h z. sym (normal-value (equation j k) x) ∙ q.holds k h (inside k z) ∙ normal_constant (equation j k))
          where
            inside : (k : ℕ) → lowest j (home (equation j k)) ≡ l → lowest_by j (length j.equations) (normal_row j k).left ≡ l
            inside k z = sym (lowest_is j (normal_row j k).left) ∙ ap (lowest j) (normal-home (equation j k)) ∙ z

  -- ---- the members of the family as lists, with 0 for the variables of other components
  module _ (run : ℕ → Run) where
    abbrev pub own_run : ℕ → Run
    own_run i = cond (eqb (lowest j i) l) (run i) empty

    pub own_inside : (i : ℕ) → lowest j i ≡ l → own_run i ≡ run i
    own_inside i e = ap (λ t. cond t (run i) empty) (eq-eqb (lowest j i) l e)

    pub own_outside : (i : ℕ) → lowest j i ≢ l → own_run i ≡ empty
    own_outside i n = ap (λ t. cond t (run i) empty) (ne_eqb (lowest j i) l n)

    abbrev pub listed : ℕ → List ℤ
    listed k = table (λ i. nth (own_run i) k) (length j.variables)

    pub listed_at : (k i : ℕ) → i < length j.variables → number (listed k) i ≡ nth (own_run i) k
    listed_at k i h = table_at (λ i. nth (own_run i) k) (length j.variables) i (pos 0) h

    listed_inside : (k i : ℕ) → i < length j.variables → lowest j i ≡ l → number (listed k) i ≡ nth (run i) k
    listed_inside k i h e = listed_at k i h ∙ ap (λ r. nth r k) (own_inside i e)

    listed_outside : (k i : ℕ) → i < length j.variables → lowest j i ≢ l → number (listed k) i ≡ pos 0
    listed_outside k i h n = listed_at k i h ∙ ap (λ r. nth r k) (own_outside i n) ∙ at_rest (pos 0) (pos 0) k refl

-- ---- after all equations, the component of l
module _ {j : Job} {s : State} (inv : Invariant j (length j.equations) s) {l : ℕ} (b : l < length j.variables) (self : lowest j l ≡ l) where
  abbrev run : ℕ → Run
  run = run_at s

  self_by : lowest_by j (length j.equations) l ≡ l
  self_by = sym (lowest_is j l) ∙ self

  listed-IsSolution : (k : ℕ) → k < (run l).many → IsSolution (component_job j l) (listed j l run k)
  listed-IsSolution k h =
      Keeps-IsSolution j l (listed j l run k) (length-table _ (length j.variables)) (listed_outside j l run k)
      ((inv.family l b self_by (listed j l run k)).1 (on_family b self_by (inv.form l b) (record { below = h; at = λ i h e. listed_inside j l run k i h (lowest_is j i ∙ e) })))

  IsSolution-listed : (x : List ℤ) → IsSolution (component_job j l) x → (k : ℕ) × (k < (run l).many) × (x ≡ listed j l run k)
  IsSolution-listed x h = (o.k, o.is.below, same_places (pos 0) x (listed j l run o.k) long (λ i a. at i (omega (arith, a, wide)) (ℕ_discrete (lowest j i) l)))
    where
      o : OnFamily j (length j.equations) run l x
      o = (inv.family l b self_by x).0 (IsSolution-Keeps j l x h)

      wide : length x ≡ length j.variables
      wide = h.long ∙ component_length j l

      long : length x ≡ length (listed j l run o.k)
      long = wide ∙ sym (length-table _ (length j.variables))

      at : (i : ℕ) → i < length j.variables → Dec (lowest j i ≡ l) → number x i ≡ number (listed j l run o.k) i
      at i a (yes e) = o.is.at i a (sym (lowest_is j i) ∙ e) ∙ sym (listed_inside j l run o.k i a e)
      at i a (no n) = outside_zero j l x h i a n ∙ sym (listed_outside j l run o.k i a n)

  -- they rise: the first variable of the component is its lowest, and it rises
  listed_rises : (k k' : ℕ) → k < k' → k' < (run l).many → Lower (listed j l run k) (listed j l run k')
  listed_rises k k' h h' = Lower-at (listed j l run k) (listed j l run k') l (long k) (long k') before here
    where
      long : (k : ℕ) → l < length (listed j l run k)
      long k = subst (λ n. l < n) (sym (length-table (λ i. nth (own_run j l run i) k) (length j.variables))) b

      before : (i : ℕ) → i < l → number (listed j l run k) i ≡ number (listed j l run k') i
      before i a =
          let n : lowest j i ≢ l = λ e. absurd (omega (arith, a, e, lowest-le j i)) in
          listed_outside j l run k i (omega arith) n ∙ sym (listed_outside j l run k' i (omega arith) n)

      here : number (listed j l run k) l <ℤ number (listed j l run k') l
      here = rw (listed_inside j l run k l b self, listed_inside j l run k' l b self) (line_up (run l).first (run l).step (pos k) (pos k') (inv.rises l b self_by (omega arith)) (pos_below h))

  pub solutions-listed : solutions (component_job j l) ≡ table (listed j l (run_at s)) (run_at s l).many
  solutions-listed =
      same_members Lower-asym (Rising-solutions (component_job j l)) (Rising-table (listed j l run) (run l).many listed_rises)
      (λ x. Iff.trans (in-solutions (component_job j l) x) (Iff.trans (IsSolution-listed x, from x) (Iff.symm (in-table (listed j l run) (run l).many x))))
    where
      from : (x : List ℤ) → (k : ℕ) × (k < (run l).many) × (x ≡ listed j l run k) → IsSolution (component_job j l) x
      from x (k, h, e) = subst (IsSolution (component_job j l)) (sym e) (listed-IsSolution k h)
