-- The checks of the header, one after the other: what the first fault is once those before it are passed.
use mathlib.Core.Path.{◌≡◌, sym, ◌∙◌}
use mathlib.Core.Logic.{◌⊎◌, inl, inr, ⊎_elim}
use mathlib.Core.Option.{Option, none, some}
use mathlib.Core.List.{List, [], ◌∷◌}
use Prim.Native.Nat.{ℕ, ◌≤◌, ◌<◌}
use lib.ListN.{length, take}
use native.Mathlib.Omega.{arith}
use Rattle.reasons.specs.declared.Reason.{Reason}
use Rattle.reasons.specs.declared.Reason.TheVariants.{ShortJob, WrongMark, TooMany, WrongHeader}
use Rattle.jobs.specs.Call.{lending_nothing}
use Rattle.jobs.specs.Job.{variable_count, equation_count}
use Rattle.jobs.specs.Decide.{first_where}
use Rattle.jobs.specs.ReasonTable.{mark, Header, header_checks}
use Rattle.jobs.specs.Faults.{breaks?}
use Rattle.jobs.proofs.FirstOf.{first_none, first_here, first_later}

module _ (s : List ℕ) where
  -- the first fault of what is left of the checks
  abbrev first : List Reason → Option Reason
  first = first_where (breaks? (lending_nothing s []))

  pub short : length s < 24 → some ShortJob ≡ first header_checks
  short h = sym (first_here (breaks? (lending_nothing s [])) ShortJob _ h)

  module _ (long : 24 ≤ length s) where
    past_length : first header_checks ≡ first (WrongMark ∷ TooMany ∷ WrongHeader ∷ [])
    past_length = first_later (breaks? (lending_nothing s [])) ShortJob _ (λ l. omega (arith, l, long))

    pub unmarked : ¬ (take 4 s ≡ mark) → some WrongMark ≡ first header_checks
    unmarked n = sym (past_length ∙ first_here (breaks? (lending_nothing s [])) WrongMark _ n)

    module _ (marked : take 4 s ≡ mark) where
      past_mark : first header_checks ≡ first (TooMany ∷ WrongHeader ∷ [])
      past_mark = past_length ∙ first_later (breaks? (lending_nothing s [])) WrongMark _ (λ n. n marked)

      pub too_many : {n m : ℕ} → n ≡ variable_count s → m ≡ equation_count s → (256 < n) ⊎ ((n ≤ 256) × (1024 < m)) → some TooMany ≡ first header_checks
      too_many n_is m_is h = sym (past_mark ∙ first_here (breaks? (lending_nothing s [])) TooMany _ (⊎_elim (λ l. inl (omega (arith, l, n_is))) (λ l. inr (omega (arith, l.1, m_is))) h))

      module _ (few_variables : variable_count s ≤ 256) (few_equations : equation_count s ≤ 1024) where
        past_counts : first header_checks ≡ first (WrongHeader ∷ [])
        past_counts = past_mark ∙ first_later (breaks? (lending_nothing s [])) TooMany _ (λ t. ⊎_elim (λ l. omega (arith, l, few_variables)) (λ l. omega (arith, l, few_equations)) t)

        pub ill_laid : ¬ Header s → some WrongHeader ≡ first header_checks
        ill_laid n = sym (past_counts ∙ first_here (breaks? (lending_nothing s [])) WrongHeader _ n)

        pub well_laid : Header s → none ≡ first header_checks
        well_laid h = sym (past_counts ∙ first_later (breaks? (lending_nothing s [])) WrongHeader _ (λ n. n h) ∙ first_none (breaks? (lending_nothing s [])))
