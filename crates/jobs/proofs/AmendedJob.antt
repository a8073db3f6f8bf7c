-- The job as amended: whose bounds each variable has, that it is lawful where no check turns the call away, and that without amendments
-- it is the job itself.
use mathlib.Core.Path.{◌≡◌, refl, sym, ◌∙◌, ap, subst}
use mathlib.Core.Logic.{⊎_elim}
use mathlib.Core.Option.{none}
use mathlib.Core.List.{List, [], ◌∷◌}
use Prim.Native.Nat.{ℕ, ◌<◌}
use native.Mathlib.Omega.{arith}
use lib.ListN.{length, get_or}
use Rattle.lists.specs.Members.{◌∈◌, here}
use Rattle.lists.specs.Table.{table, Tabulates}
use Rattle.lists.proofs.Places.{same_places}
use Rattle.lists.proofs.Table.{table_at}
use Rattle.reasons.specs.declared.Reason.TheVariants.{AmendmentReference, AmendmentTwice, AmendmentRange}
use Rattle.jobs.specs.Call.{Call, lending_nothing}
use Rattle.jobs.specs.Job.{Job, job_of, variable_count, variable, no_variable}
use Rattle.jobs.specs.Bounds.{Bounds, no_bounds, with_bounds, Bounded}
use Rattle.jobs.specs.Amendments.{Amendment, amendment_count, amendments_of, amendment, governing, amendment_bounds, replaced, bounds_in_force, amended, job_in}
use Rattle.jobs.specs.ReasonTable.{Misreferenced, Twice, Faultless}
use Rattle.jobs.specs.Lawful.{LawfulJob, Lawful}
use Rattle.jobs.specs.Faults.{bounded?, first_broken}
use Rattle.jobs.specs.AmendmentPasses.{Referenced, Overlaid}
use Rattle.jobs.proofs.Faults.{sound_iff, none_broken}
use Rattle.jobs.proofs.Lawful.{decided, lawful}
use Rattle.jobs.proofs.WithBounds.{same_length, same_equations, variable_with, lawful_with, with_same}
use Rattle.jobs.proofs.AmendmentsInForce.{length-amendments_of, last_in_force, LastFor, last_or_none, Governs, in-governing, one_in_force, governing_is, governing_none}

module _ (s a : List ℕ) where
  abbrev j : Job
  j = job_of s

  abbrev xs : List Amendment
  xs = amendments_of a

  abbrev in_force : List Bounds
  in_force = table (bounds_in_force j xs) (length j.variables)

  pub amended_is : amended s a ≡ with_bounds (job_of s) (table (bounds_in_force (job_of s) (amendments_of a)) (length (job_of s).variables))
  unfolding amended
  amended_is = refl

  in_force_at : (i : ℕ) → i < length j.variables → get_or in_force i no_bounds ≡ bounds_in_force j xs i
  in_force_at i h = table_at (bounds_in_force j xs) (length j.variables) i no_bounds h

  pub amended-length : length (amended s a).variables ≡ length (job_of s).variables
  amended-length = ap (λ j. length j.variables) amended_is ∙ same_length j in_force

  pub amended_equations : (amended s a).equations ≡ (job_of s).equations
  amended_equations = ap (λ j. j.equations) amended_is ∙ same_equations j in_force

  -- the bounds in force, and the weight of the row
  pub variable-amended : (i : ℕ) → i < length (job_of s).variables →
      variable (amended s a) i ≡ record { low = (bounds_in_force (job_of s) (amendments_of a) i).low; high = (bounds_in_force (job_of s) (amendments_of a) i).high; weight = (variable (job_of s) i).weight }
  variable-amended i h = ap (λ j. variable j i) amended_is ∙ variable_with j in_force i h ∙ ap (λ b. record { low = b.low; high = b.high; weight = (variable j i).weight }) (in_force_at i h)

  -- an array of bounds that has those in force
  pub amended_with : (bounds : List Bounds) → Tabulates no_bounds (bounds_in_force (job_of s) (amendments_of a)) (length (job_of s).variables) bounds → with_bounds (job_of s) bounds ≡ amended s a
  amended_with bounds t = with_same j bounds in_force (λ i h. t.at i h ∙ sym (in_force_at i h)) ∙ sym amended_is

  -- a variable for which no sheet is in force is as it was
  pub without_amendment : (i : ℕ) → i < length (job_of s).variables → ((t : ℕ) → t < amendment_count a → ¬ Governs (amendments_of a) i t) → variable (amended s a) i ≡ variable (job_of s) i
  without_amendment i h f =
      variable-amended i h
      ∙ ap (λ o. record { low = (replaced xs (variable j i) o).low; high = (replaced xs (variable j i) o).high; weight = (variable j i).weight })
      (governing_none xs i (λ t l. f t (omega (arith, l, length-amendments_of a))))

-- ---- a call that no check turns away
module _ (c : Call) (e : first_broken c ≡ none) where
  abbrev s : List ℕ
  s = c.job

  abbrev a : List ℕ
  a = c.amendments

  abbrev sheets : List Amendment
  sheets = amendments_of a

  below : (t : ℕ) → t < length sheets → t < amendment_count a
  below t h = omega (arith, h, length-amendments_of a)

  pub referenced : Referenced (variable_count c.job) (amendments_of c.amendments) (length (amendments_of c.amendments))
  referenced = record { at = λ t h m. (sound_iff c).0 e (AmendmentReference t) (below t h, m) }

  pub once : (t : ℕ) → t < length (amendments_of c.amendments) → ¬ Twice (amendments_of c.amendments) t
  once t h w = (sound_iff c).0 e (AmendmentTwice t) (below t h, w)

  bounded : (t : ℕ) → t < length sheets → Bounded (amendment_bounds (amendment sheets t))
  bounded t h = decided (bounded? (amendment_bounds (amendment sheets t))) (λ z. (sound_iff c).0 e (AmendmentRange t) (below t h, z))

  -- of each count at most one sheet is in force
  pub at_most_one : (i t u : ℕ) → t < amendment_count c.amendments → u < amendment_count c.amendments →
      Governs (amendments_of c.amendments) i t → Governs (amendments_of c.amendments) i u → t ≡ u
  at_most_one i t u h l = one_in_force sheets once i t u (omega (arith, h, length-amendments_of a)) (omega (arith, l, length-amendments_of a))

  -- and where there is one its bounds are those of the count, with the weight of its row
  pub with_amendment : (i t : ℕ) → i < length (job_of c.job).variables → t < amendment_count c.amendments → Governs (amendments_of c.amendments) i t →
      variable (job_in c) i ≡ record { low = (amendment (amendments_of c.amendments) t).low; high = (amendment (amendments_of c.amendments) t).high; weight = (variable (job_of c.job) i).weight }
  with_amendment i t h l g =
      variable-amended s a i h
      ∙ ap (λ o. record { low = (replaced sheets (variable (job_of s) i) o).low; high = (replaced sheets (variable (job_of s) i) o).high; weight = (variable (job_of s) i).weight })
      (governing_is sheets once i t (omega (arith, l, length-amendments_of a)) g).1

  -- bounds in force are in range
  pub Bounded-in_force : (i : ℕ) → i < length (job_of c.job).variables → Bounded (bounds_in_force (job_of c.job) (amendments_of c.amendments) i)
  Bounded-in_force i h = of i h (governing sheets i) refl
    where
      f : Lawful c.job
      f = lawful c e

      of : (i : ℕ) → i < length (job_of s).variables → (ts : List ℕ) → governing sheets i ≡ ts → Bounded (replaced sheets (variable (job_of s) i) ts)
      of i h [] g = let v = f.job.each_variable i h in record { low = v.low; high = v.high }
      of i h (t ∷ ts) g = bounded t ((in-governing sheets i t).0 (subst (λ us. t ∈ us) (sym g) (here refl))).0

  pub lawful_amended : LawfulJob (job_in c)
  lawful_amended = subst LawfulJob (sym (amended_is s a)) (lawful_with (job_of s) (in_force s a) (lawful c e).job (record { at = λ i h. rw (in_force_at s a i h) (Bounded-in_force i h) }))

  -- the bounds that are left where each sheet is put over those of its variable's row
  pub overlaid : (before after : List Bounds) → Tabulates no_bounds (λ i. record { low = (variable (job_of c.job) i).low; high = (variable (job_of c.job) i).high }) (length (job_of c.job).variables) before →
      Overlaid (amendments_of c.amendments) before after → Tabulates no_bounds (bounds_in_force (job_of c.job) (amendments_of c.amendments)) (length (job_of c.job).variables) after
  overlaid before after b o = record { at = λ i h. ⊎_elim (λ (t, l). last i t l) (λ f. own i h f) (last_or_none sheets i (length sheets)) }
    where
      last : (i t : ℕ) → LastFor sheets i (length sheets) t → get_or after i no_bounds ≡ bounds_in_force (job_of s) sheets i
      last i t l =
          let alone : (u : ℕ) → t < u → u < length sheets → ¬ ((amendment sheets u).variable ≡ (amendment sheets t).variable) = λ u h k q. l.later u h k (q ∙ l.own) in
          subst (λ i. get_or after i no_bounds ≡ amendment_bounds (amendment sheets t)) l.own (o.last t l.below alone)
          ∙ sym (ap (replaced sheets (variable (job_of s) i)) (governing_is sheets once i t l.below (l.own, last_in_force referenced t l.below alone)).1)

      own : (i : ℕ) → i < length (job_of s).variables → ((t : ℕ) → t < length sheets → ¬ ((amendment sheets t).variable ≡ i)) → get_or after i no_bounds ≡ bounds_in_force (job_of s) sheets i
      own i h f =
          o.others i f ∙ b.at i h
          ∙ sym (ap (replaced sheets (variable (job_of s) i)) (governing_none sheets i (λ t l g. f t l g.0)))

-- every sheet of a call without a fault keeps reason 12's rule
pub faultless_referenced : (s a : List ℕ) {n : ℕ} → Faultless (lending_nothing s a) → n ≡ variable_count s → Referenced n (amendments_of a) (amendment_count a)
faultless_referenced s a f n_is = record { at = λ t h m. (referenced (lending_nothing s a) (none_broken (lending_nothing s a) f)).at t (omega (arith, h, length-amendments_of a)) (subst (λ n. Misreferenced n (amendments_of a) t) n_is m) }

-- ---- without amendments
pub amended_by_none : (s : List ℕ) → amended s [] ≡ job_of s
amended_by_none s = amended_is s [] ∙ (λ t. record { variables = same t; equations = same_equations (job_of s) (in_force s []) t })
  where
    at : (i : ℕ) → i < length (with_bounds (job_of s) (in_force s [])).variables → variable (with_bounds (job_of s) (in_force s [])) i ≡ variable (job_of s) i
    at i h =
        ap (λ j. variable j i) (sym (amended_is s []))
        ∙ without_amendment s [] i (omega (arith, h, same_length (job_of s) (in_force s []))) (λ t l. absurd (omega (arith, l)))

    same : (with_bounds (job_of s) (in_force s [])).variables ≡ (job_of s).variables
    same = same_places no_variable (with_bounds (job_of s) (in_force s [])).variables (job_of s).variables (same_length (job_of s) (in_force s [])) at
