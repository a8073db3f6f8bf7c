-- What a pass over rows answers, row by row, and that it is the first fault of the table's checks of these rows.
use mathlib.Core.Path.{◌≡◌, sym, ◌∙◌, ap, subst}
use mathlib.Core.Logic.{◌↔◌, ◌⊎◌}
use mathlib.Core.Option.{some}
use Prim.Native.Nat.{ℕ, zero, suc, ◌+◌, ◌<◌}
use native.Mathlib.Numerals.{add-one}
use native.Mathlib.Omega.{arith}
use native.Mathlib.Decide.{ℕ_discrete}
use Rattle.reasons.specs.declared.Reason.{Reason}
use Rattle.lists.specs.Table.{table_from, table}
use Rattle.lists.proofs.Table.{in-table}
use Rattle.std.specs.Prelude.{Result, Ok, Err}
use Rattle.reasons.specs.Answer.{fault_of}
use Rattle.jobs.specs.Call.{Call}
use Rattle.jobs.specs.Amendments.{job_in}
use Rattle.jobs.specs.Component.{component_count}
use Rattle.jobs.specs.ReasonTable.{Broken}
use Rattle.jobs.specs.Decide.{below_next, first_where}
use Rattle.jobs.specs.Faults.{breaks?}
use Rattle.jobs.specs.FirstRow.{FirstRow}
use Rattle.jobs.proofs.FirstOf.{first_here, first_later, holds_none}

-- one row more of which P does not hold
pub none_more : {P : ℕ → Type 0} (t : ℕ) → ((u : ℕ) → u < t → ¬ P u) → ¬ P t → (u : ℕ) → u < t + 1 → ¬ P u
none_more {P} t f n u h = go (ℕ_discrete u t)
  where
    go : Dec (u ≡ t) → ¬ P u
    go (yes e) p = n (subst P e p)
    go (no e) p = f u (omega (arith, e, h)) p

-- or may hold
pub some_more : {P : ℕ → Type 0} (t : ℕ) → (P t ⊎ ((u : ℕ) × ((u < t) × P u))) ↔ ((u : ℕ) × ((u < t + 1) × P u))
some_more {P} t = subst (λ k. (P t ⊎ ((u : ℕ) × ((u < t) × P u))) ↔ ((u : ℕ) × ((u < k) × P u))) (sym (add-one t)) (below_next t)

-- the first row of a table of which P holds
module _ {A : Type 0} {P : A → Type 0} (d : (x : A) → Dec (P x)) (f : ℕ → A) where
  here_first : (i k : ℕ) → P (f i) → first_where d (table_from f i (suc k)) ≡ some (f i)
  unfolding table_from
  here_first i k p = first_here d (f i) (table_from f (suc i) k) p

  past_first : (i k : ℕ) → ¬ P (f i) → first_where d (table_from f i (suc k)) ≡ first_where d (table_from f (suc i) k)
  unfolding table_from
  past_first i k n = first_later d (f i) (table_from f (suc i) k) n

  first_from : (i t k : ℕ) → t < k → ((u : ℕ) → u < t → ¬ P (f (i + u))) → P (f (i + t)) → first_where d (table_from f i k) ≡ some (f (i + t))
  first_from i t zero h n p = absurd (omega (arith, h))
  first_from i zero (suc k) h n p = let e : i + 0 ≡ i = omega arith in subst (λ j. first_where d (table_from f i (suc k)) ≡ some (f j)) (sym e) (here_first i k (subst (λ j. P (f j)) e p))
  first_from i (suc t) (suc k) h n p =
      let e : i + suc t ≡ suc i + t = omega arith in
      let z : i + 0 ≡ i = omega arith in
      past_first i k (subst (λ j. ¬ P (f j)) z (n 0 (omega arith)))
      ∙ first_from (suc i) t k (omega (arith, h)) (λ u l. let q : i + suc u ≡ suc i + u = omega arith in subst (λ j. ¬ P (f j)) q (n (suc u) (omega (arith, l)))) (subst (λ j. P (f j)) e p)
      ∙ ap (λ j. some (f j)) (sym e)

  pub first_in_table : (t k : ℕ) → t < k → ((u : ℕ) → u < t → ¬ P (f u)) → P (f t) → first_where d (table f k) ≡ some (f t)
  unfolding table
  first_in_table t k h n p = let e : 0 + t ≡ t = omega arith in first_from 0 t k h (λ u l. let q : 0 + u ≡ u = omega arith in subst (λ j. ¬ P (f j)) (sym q) (n u l)) (subst (λ j. P (f j)) (sym e) p) ∙ ap (λ j. some (f j)) e

-- where P says when the table's rule for such a row is broken
pub pass_fault : {A : Type 0} (c : Call) (reason : ℕ → Reason) (P : ℕ → Type 0) (k : ℕ) → ((t : ℕ) → Broken (component_count (job_in c)) c (reason t) ↔ ((t < k) × P t)) →
    (r : Result A Reason) → FirstRow reason P k r → first_where (breaks? c) (table reason k) ≡ fault_of r
pass_fault c reason P k same (Ok x) f =
    holds_none (breaks? c) (table reason k) (λ r m b. let (t, h, e) = (in-table reason k r).0 m in f t h ((same t).0 (subst (Broken (component_count (job_in c)) c) e b)).1)
pass_fault c reason P k same (Err r) (t, (e, (h, (p, n)))) =
    first_in_table (breaks? c) reason t k h (λ u l b. n u l ((same u).0 b).1) ((same t).1 (h, p)) ∙ ap some (sym e)
