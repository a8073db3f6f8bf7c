-- What the model ends in is what the definitions say: the components, and base, step and fits of each component's solutions.
use mathlib.Core.Path.{◌≡◌, refl, sym, ◌∙◌, ap, ap₂, subst}
use mathlib.Core.Logic.{◌↔◌, ◌⊎◌, inl, inr, ◌≢◌}
use mathlib.Core.List.{List, [], ◌∷◌}
use Prim.Native.Nat.{ℕ, zero, suc, ◌≤◌, ◌<◌}
use native.Mathlib.Decide.{ℕ_discrete, dec_lt}
use lib.ListN.{length, get_or, get_or-eq_default}
use Rattle.ints.proofs.{ℤ, pos, ◌+ℤ◌, ◌-ℤ◌, ◌*ℤ◌, ◌<ℤ◌, arith, lin, facts}
use Rattle.lists.specs.Members.{◌∈◌}
use Rattle.lists.specs.Table.{table}
use Rattle.lists.proofs.Table.{length-table, table_at, same_table}
use Rattle.runs.specs.declared.Run.{Run}
use Rattle.runs.specs.Run.{nth}
use Rattle.runs.proofs.Members.{same_run}
use Rattle.families.proofs.ExactQuotients.{few_or_more}
use Rattle.families.specs.FamilyRun.{FamilyRun}
use Rattle.jobs.specs.Job.{Job}
use Rattle.jobs.specs.Solution.{number, IsSolution, solutions}
use Rattle.jobs.specs.Component.{lowest, leads}
use Rattle.jobs.specs.Family.{component_job, fits, base, advance, step, family_run}
use Rattle.jobs.specs.Lawful.{LawfulJob}
use Rattle.jobs.proofs.Components.{in-leads, lowest-le, lowest_self}
use Rattle.jobs.proofs.Assembly.{component_length, fits_iff}
use Rattle.families.specs.Family.{member, IsFamily}
use Rattle.families.specs.Model.{State, label_at, run_at, state_after_all}
use Rattle.families.specs.Invariant.{Invariant}
use Rattle.families.proofs.InvariantHolds.{invariant}
use Rattle.families.proofs.SolutionsAreMembers.{lowest_is, own_run, own_inside, own_outside, listed, listed_at, solutions-listed}

-- ---- lists: what is read off them
-- from the first to the second
advance_more : (xs : List (List ℤ)) (i : ℕ) → 2 ≤ length xs → advance xs i ≡ number (get_or xs 1 []) i -ℤ number (get_or xs 0 []) i
advance_more [] i h = absurd (omega arith)
advance_more (x ∷ []) i h = absurd (omega arith)
advance_more (x ∷ y ∷ zs) i h = refl

advance_few : (xs : List (List ℤ)) (i : ℕ) → length xs ≤ 1 → advance xs i ≡ pos 0
advance_few [] i h = refl
advance_few (x ∷ []) i h = refl
advance_few (x ∷ y ∷ zs) i h = absurd (omega arith)

-- base, step and fits of a component's own job c, at variable i
abbrev pub read_off : Job → ℕ → Run
read_off c i = record { first = number (base c) i; step = number (step c) i; many = fits c }

-- ---- the component of l, after all equations
module _ {j : Job} {s : State} (inv : Invariant j (length j.equations) s) {l : ℕ} (b : l < length j.variables) (self : lowest j l ≡ l) where
  abbrev c : Job
  c = component_job j l

  abbrev own : ℕ → Run
  own = own_run j l (run_at s)

  all : solutions c ≡ table (listed j l (run_at s)) (run_at s l).many
  all = solutions-listed inv b self

  long : length (solutions c) ≡ (run_at s l).many
  long = ap length all ∙ length-table (listed j l (run_at s)) (run_at s l).many

  fits_is : fits (component_job j l) ≡ (run_at s l).many
  unfolding fits
  fits_is = long

  -- many and the form, of a variable of the component
  own_many : (i : ℕ) → i < length j.variables → lowest j i ≡ l → (run_at s i).many ≡ (run_at s l).many
  own_many i h e = inv.many i h ∙ ap (λ g. (run_at s g).many) (sym (lowest_is j i) ∙ e)

  -- solution k, where there is one
  at_place : (k i : ℕ) → k < (run_at s l).many → i < length j.variables → number (get_or (solutions c) k []) i ≡ nth (own i) k
  at_place k i h a = ap (λ xs. number (get_or xs k []) i) all ∙ ap (λ x. number x i) (table_at (listed j l (run_at s)) (run_at s l).many k [] h) ∙ listed_at j l (run_at s) k i a

  -- where there is none, all is 0
  none_first : (run_at s l).many ≡ 0 → (i : ℕ) → i < length j.variables → (own i).first ≡ pos 0
  none_first z i h = go (ℕ_discrete (lowest j i) l)
    where
      go : Dec (lowest j i ≡ l) → (own i).first ≡ pos 0
      go (yes e) = ap (λ r. r.first) (own_inside j l (run_at s) i e) ∙ (inv.form i h).empty (own_many i h e ∙ z)
      go (no n) = ap (λ r. r.first) (own_outside j l (run_at s) i n)

  few_step : (run_at s l).many ≤ 1 → (i : ℕ) → i < length j.variables → (own i).step ≡ pos 0
  few_step z i h = go (ℕ_discrete (lowest j i) l)
    where
      go : Dec (lowest j i ≡ l) → (own i).step ≡ pos 0
      go (yes e) = ap (λ r. r.step) (own_inside j l (run_at s) i e) ∙ (inv.form i h).moves.rests (subst (λ n. n ≤ 1) (sym (own_many i h e)) z)
      go (no n) = ap (λ r. r.step) (own_outside j l (run_at s) i n)

  -- ---- base
  base_at : (i : ℕ) → i < length j.variables → number (base c) i ≡ (own i).first
  unfolding base
  base_at i h = go (run_at s l).many refl
    where
      none : (xs : List (List ℤ)) → length xs ≡ 0 → number (get_or xs 0 []) i ≡ pos 0
      none [] e = refl
      none (x ∷ xs) e = absurd (omega arith)

      first : (r : Run) → nth r 0 ≡ r.first
      first r = lin (r.first ∷ r.step ∷ []) (refl {a = r.first}) (search facts depth 20) (omega arith)

      go : (n : ℕ) → (run_at s l).many ≡ n → number (get_or (solutions c) 0 []) i ≡ (own i).first
      go zero e = none (solutions c) (long ∙ e) ∙ sym (none_first e i h)
      go (suc n) e = at_place 0 i (omega (arith, e)) h ∙ first (own i)

  -- ---- step
  advances : (i : ℕ) → i < length j.variables → number (step c) i ≡ advance (solutions c) i
  unfolding step
  advances i h = table_at (advance (solutions c)) (length c.variables) i (pos 0) (omega (arith, h, component_length j l))

  step_at : (i : ℕ) → i < length j.variables → number (step c) i ≡ (own i).step
  step_at i h = advances i h ∙ go (few_or_more (run_at s l).many)
    where
      apart : (r : Run) → nth r 1 -ℤ nth r 0 ≡ r.step
      apart r = lin (r.first ∷ r.step ∷ []) (refl {a = r.first}) (search facts depth 20) (omega arith)

      go : ((run_at s l).many ≤ 1) ⊎ (2 ≤ (run_at s l).many) → advance (solutions c) i ≡ (own i).step
      go (inl f) = advance_few (solutions c) i (subst (λ n. n ≤ 1) (sym long) f) ∙ sym (few_step f i h)
      go (inr f) =
          advance_more (solutions c) i (subst (λ n. 2 ≤ n) (sym long) f)
          ∙ ap₂ ◌-ℤ◌ (at_place 1 i (omega arith) h) (at_place 0 i (omega arith) h) ∙ apart (own i)

  step_past : (i : ℕ) → length j.variables ≤ i → number (step c) i ≡ pos 0
  unfolding step
  step_past i h = get_or-eq_default (table (advance (solutions c)) (length c.variables)) (pos 0)
      (omega (arith, h, length-table (advance (solutions c)) (length c.variables), component_length j l))

  -- ---- the component's solutions are a family
  is_family : IsFamily j l
  is_family = record { all = listing; rises = rises; rests = rests; moves = moves }
    where
      same : (k : ℕ) → listed j l (run_at s) k ≡ member c k
      same k = same_table (pos 0) (λ i. nth (own i) k) (λ i. number (base c) i +ℤ number (step c) i *ℤ pos k) (sym (component_length j l))
          (λ i h. ap₂ (λ u v. u +ℤ v *ℤ pos k) (sym (base_at i h)) (sym (step_at i h)))

      listing : solutions c ≡ table (member c) (fits c)
      listing = all ∙ same_table [] (listed j l (run_at s)) (member c) (sym fits_is) (λ k h. same k)

      -- the step of a variable of the component
      inside : (i : ℕ) → i < length j.variables → lowest j i ≡ l → number (step c) i ≡ (run_at s i).step
      inside i h e = step_at i h ∙ ap (λ r. r.step) (own_inside j l (run_at s) i e)

      rises : 2 ≤ fits c → pos 0 <ℤ number (step c) l
      rises h = subst (λ x. pos 0 <ℤ x) (sym (inside l b self)) (inv.rises l b (sym (lowest_is j l) ∙ self) (subst (λ n. 2 ≤ n) fits_is h))

      rests : fits c ≤ 1 → (i : ℕ) → number (step c) i ≡ pos 0
      rests h i = go (dec_lt i (length j.variables))
        where
          go : Dec (i < length j.variables) → number (step c) i ≡ pos 0
          go (yes a) = step_at i a ∙ few_step (subst (λ n. n ≤ 1) fits_is h) i a
          go (no a) = step_past i (omega (arith, a))

      moves : 2 ≤ fits c → (i : ℕ) → i < length j.variables → lowest j i ≡ l → number (step c) i ≢ pos 0
      moves h i a e z = (inv.form i a).moves.moves (subst (λ n. 2 ≤ n) (fits_is ∙ sym (own_many i a e)) h) (sym (inside i a e) ∙ z)

  -- ---- and the model has its base, step and fits
  run_is : (i : ℕ) → i < length j.variables → lowest j i ≡ l → run_at s i ≡ read_off (component_job j l) i
  run_is i h e =
      let q : own i ≡ run_at s i = own_inside j l (run_at s) i e in
      same_run (ap (λ r. r.first) (sym q) ∙ sym (base_at i h)) (ap (λ r. r.step) (sym q) ∙ sym (step_at i h)) (own_many i h e ∙ sym fits_is)

-- ---- of the model's last state
pub family_run_is : (j : Job) (i : ℕ) → family_run j i ≡ read_off (component_job j (lowest j i)) i
unfolding family_run
family_run_is j i = refl

module _ (j : Job) (lawful : LawfulJob j) where
  pub last_Invariant : Invariant j (length j.equations) (state_after_all j)
  unfolding state_after_all
  last_Invariant = invariant j lawful (length j.equations) (omega arith)

  -- it has the components and the families of the definitions
  pub exact : (i : ℕ) → i < length j.variables → (label_at (state_after_all j) i ≡ lowest j i) × (run_at (state_after_all j) i ≡ family_run j i)
  exact i h = (
    last_Invariant.labels i h ∙ sym (lowest_is j i),
    run_is last_Invariant (omega (arith, h, lowest-le j i)) (lowest_self j i) i h refl ∙ sym (family_run_is j i),
  )

  pub family_form : (i : ℕ) → i < length j.variables → FamilyRun (read_off (component_job j (lowest j i)) i)
  family_form i h = subst FamilyRun ((exact i h).1 ∙ family_run_is j i) (last_Invariant.form i h)

  module _ (l : ℕ) (lead : l ∈ leads j) where
    -- every component's solutions are base + step·k, in order
    pub are_families : IsFamily j l
    are_families = let (b, e) = (in-leads j l).0 lead in is_family last_Invariant b e

    pub many_fits : fits (component_job j l) ≡ (run_at (state_after_all j) l).many
    many_fits = let (b, e) = (in-leads j l).0 lead in fits_is last_Invariant b e

    -- there is no solution exactly where the model's family is empty
    pub empty_iff : ((run_at (state_after_all j) l).many ≡ 0) ↔ ((x : List ℤ) → ¬ IsSolution (component_job j l) x)
    empty_iff = (λ z. (fits_iff (component_job j l)).0 (many_fits ∙ z), λ f. sym many_fits ∙ (fits_iff (component_job j l)).1 f)
