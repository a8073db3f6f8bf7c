-- Before any equation: each variable is a component of its own, with all numbers from its low to its high.
use mathlib.Core.Path.{◌≡◌, refl, sym, ◌∙◌, ap, subst}
use mathlib.Core.Logic.Iff
use mathlib.Core.Logic.{◌↔◌}
use mathlib.Core.Bool.{Bool, true, false, cond}
use mathlib.Core.List.{List, [], ◌∷◌}
use Prim.Native.Nat.{ℕ, ◌<◌}
use lib.ListN.{length, get_or}
use Rattle.ints.specs.Within.{Within}
use Rattle.ints.proofs.{ℤ, pos, nat_abs, lt_z, ◌-ℤ◌, ◌≤ℤ◌, arith, lin, lin₀, ◌&◌, facts}
use Rattle.ints.proofs.Order.{abs_nonneg}
use Rattle.lists.specs.Table.{table, up_to}
use Rattle.lists.proofs.Table.{table_at, length-table, length-up_to}
use Rattle.runs.specs.declared.Run.{Run}
use Rattle.runs.specs.Run.{nth, InRun, OneForm, bound, empty, full}
use Rattle.runs.specs.Search.{meet}
use Rattle.runs.specs.Method.{progression}
use Rattle.runs.proofs.Members.{empty_form, not_in_empty}
use Rattle.runs.proofs.Progressions.{Along}
use Rattle.runs.proofs.ClassInInterval.{in_progression, progression_form, full_form}
use Rattle.runs.specs.Model.{meet_model}
use Rattle.runs.proofs.Model.{meet_model_lem}
use Rattle.runs.proofs.MeetAndCarry.{meet_form, in_meet, in_full}
use Rattle.families.proofs.FamilyRuns.{OneForm-family}
use Rattle.jobs.specs.Job.{Job, variable}
use Rattle.jobs.specs.Solution.{number}
use Rattle.jobs.specs.Component.{lowest_by}
use Rattle.jobs.specs.ReasonTable.{InRange}
use Rattle.families.specs.Model.{label_at, run_at, interval, start_state}
use Rattle.families.specs.Invariant.{Keeps, OnFamily, Invariant}
use Rattle.families.proofs.InvariantStep.{on_family}

-- ---- the numbers from low to high
module _ (low high : ℤ) where
  in_steps : (n : ℕ) → high -ℤ low ≡ pos n → (x : ℤ) → Along low (pos 1) (pos n) x ↔ ((low ≤ℤ x) × (x ≤ℤ high))
  in_steps n e x = (
    λ a. lin (low ∷ high ∷ x ∷ pos n ∷ a.k ∷ []) (e & a.low & a.high & a.is) (search facts depth 20) (omega arith),
    λ (l, h). record {
      k = x -ℤ low;
      low = lin (low ∷ x ∷ []) l (search facts depth 20) (omega arith);
      high = lin (low ∷ high ∷ x ∷ pos n ∷ []) (e & h) (search facts depth 20) (omega arith);
      is = lin₀ (low ∷ x ∷ []) (search facts depth 20) (omega arith);
    },
  )

  in_interval : (x : ℤ) → InRun (interval low high) x ↔ ((low ≤ℤ x) × (x ≤ℤ high))
  in_interval x = go (lt_z high low) refl
    where
      go : (t : Bool) → lt_z high low ≡ t → InRun (cond t empty (progression low (pos 1) (nat_abs (high -ℤ low)))) x ↔ ((low ≤ℤ x) × (x ≤ℤ high))
      go true t = (λ i. not_in_empty i, λ b. absurd (lin (low ∷ high ∷ x ∷ []) (t & b) (search facts depth 20) (omega arith)))
      go false t =
          let e : high -ℤ low ≡ pos (nat_abs (high -ℤ low)) = abs_nonneg (high -ℤ low) (lin (low ∷ high ∷ []) t (search facts depth 20) (omega arith)) in
          Iff.trans (in_progression low (pos 1) x (nat_abs (high -ℤ low))) (in_steps (nat_abs (high -ℤ low)) e x)

  pub interval_form : Within bound low → Within bound high → OneForm (interval low high)
  interval_form u v = go (lt_z high low) refl
    where
      form : (n : ℕ) → high -ℤ low ≡ pos n → OneForm (progression low (pos 1) n)
      form n e =
          progression_form low (pos 1) n (lin₀ [] (search facts depth 20) (omega arith))
          (lin (low ∷ []) u (search facts depth 20) (omega arith)) (lin (low ∷ high ∷ pos n ∷ []) (e & v) (search facts depth 20) (omega arith))

      go : (t : Bool) → lt_z high low ≡ t → OneForm (cond t empty (progression low (pos 1) (nat_abs (high -ℤ low))))
      go true t = empty_form
      go false t = form (nat_abs (high -ℤ low)) (abs_nonneg (high -ℤ low) (lin (low ∷ high ∷ []) t (search facts depth 20) (omega arith)))

  -- as the model works them out
  abbrev pub began : Run
  began = meet_model full (interval low high)

  module _ (u : Within bound low) (v : Within bound high) where
    pub began_is : began ≡ meet full (interval low high)
    began_is = meet_model_lem full_form (interval_form u v)

    pub began_form : OneForm (meet_model full (interval low high))
    began_form = subst OneForm (sym began_is) (meet_form full_form (interval_form u v))

    pub in_began : (x : ℤ) → InRun (meet_model full (interval low high)) x ↔ ((low ≤ℤ x) × (x ≤ℤ high))
    in_began x = (
      λ i. (in_interval x).0 ((in_meet full_form (interval_form u v) x).0 (subst (λ r. InRun r x) began_is i)).1,
      λ b. subst (λ r. InRun r x) (sym began_is) ((in_meet full_form (interval_form u v) x).1
          ((in_full x).1 (lin (low ∷ high ∷ x ∷ []) (u & v & b) (search facts depth 20) (omega arith)), (in_interval x).1 b)),
    )

-- ---- the state before any equation
module _ (j : Job) where
  abbrev pub start_run : ℕ → Run
  start_run i = meet_model full (interval (variable j i).low (variable j i).high)

  start_labels : (start_state j).labels ≡ up_to (length j.variables)
  unfolding start_state
  start_labels = refl

  start_runs : (start_state j).runs ≡ table start_run (length j.variables)
  unfolding start_state
  start_runs = refl

  pub start_lengths : (length (start_state j).labels ≡ length j.variables) × (length (start_state j).runs ≡ length j.variables)
  start_lengths = (ap length start_labels ∙ length-up_to (length j.variables), ap length start_runs ∙ length-table start_run (length j.variables))

  pub run_at-start_state : (i : ℕ) → i < length j.variables → run_at (start_state j) i ≡ start_run i
  run_at-start_state i h = ap (λ rs. get_or rs i empty) start_runs ∙ table_at start_run (length j.variables) i empty h

  pub label_at-start_state : (i : ℕ) → i < length j.variables → label_at (start_state j) i ≡ i
  label_at-start_state i h = ap (λ gs. get_or gs i 0) start_labels ∙ table_at (λ i. i) (length j.variables) i 0 h

  own : (i : ℕ) → lowest_by j 0 i ≡ i
  unfolding lowest_by
  own i = refl

  module _ (each : (i : ℕ) → i < length j.variables → InRange (variable j i)) where
    form : (i : ℕ) → i < length j.variables → OneForm (run_at (start_state j) i)
    form i h = subst OneForm (sym (run_at-start_state i h)) (began_form (variable j i).low (variable j i).high (each i h).low (each i h).high)

    in_run : (i : ℕ) → i < length j.variables → (x : ℤ) → InRun (run_at (start_state j) i) x ↔ (((variable j i).low ≤ℤ x) × (x ≤ℤ (variable j i).high))
    in_run i h x = rw (run_at-start_state i h) (in_began (variable j i).low (variable j i).high (each i h).low (each i h).high x)

    pub begins : Invariant j 0 (start_state j)
    begins = record {
      labels = λ i h. label_at-start_state i h ∙ sym (own i);
      family = λ g b z x. (to g b z x, from g b x);
      many = λ i h. ap (λ g. (run_at (start_state j) g).many) (sym (own i));
      form = λ i h. OneForm-family (form i h);
      rises = λ g b z t. lin ((run_at (start_state j) g).step ∷ []) ((form g b).rises t) (search facts depth 20) (omega arith);
    }
      where
        to : (g : ℕ) → g < length j.variables → lowest_by j 0 g ≡ g → (x : List ℤ) → Keeps j 0 g x → OnFamily j 0 (run_at (start_state j)) g x
        to g b z x k = on_family b z (OneForm-family (form g b)) (record { below = i.below; at = λ i' h l. at i' (sym (own i') ∙ l) })
          where
            i : InRun (run_at (start_state j) g) (number x g)
            i = (in_run g b (number x g)).1 (k.low g b z, k.high g b z)

            at : (i' : ℕ) → i' ≡ g → number x i' ≡ nth (run_at (start_state j) i') i.place
            at i' e = subst (λ i'. number x i' ≡ nth (run_at (start_state j) i') i.place) (sym e) i.is

        from : (g : ℕ) → g < length j.variables → (x : List ℤ) → OnFamily j 0 (run_at (start_state j)) g x → Keeps j 0 g x
        from g b x o = record { low = λ i h l. (bounds i h l).0; high = λ i h l. (bounds i h l).1; holds = λ k h. absurd (omega arith) }
          where
            bounds : (i : ℕ) → i < length j.variables → lowest_by j 0 i ≡ g → ((variable j i).low ≤ℤ number x i) × (number x i ≤ℤ (variable j i).high)
            bounds i h l = (in_run i h (number x i)).0 (record {
              place = o.k;
              below = subst (λ g. o.k < (run_at (start_state j) g).many) (sym l ∙ own i) o.is.below;
              is = o.is.at i h l;
            })
