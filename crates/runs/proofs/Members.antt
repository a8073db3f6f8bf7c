-- A run's numbers as a list and by their places; a run in its one form is determined by its members.
use mathlib.Core.Path.{◌≡◌, refl, sym, ◌∙◌, ap}
use mathlib.Core.Logic.Iff
use mathlib.Core.Logic.{◌↔◌}
use mathlib.Core.List.{List, [], ◌∷◌}
use Prim.Native.Nat.{ℕ, zero, suc, ◌<◌}
use Rattle.ints.proofs.{ℤ, pos, ◌+ℤ◌, ◌*ℤ◌, ◌≤ℤ◌, ◌<ℤ◌, arith, lin, lin₀, facts, prod}
use Rattle.ints.proofs.Order.{lt_asym}
use Rattle.lists.specs.Members.{◌∈◌}
use Rattle.lists.specs.Rising.{Rising}
use Rattle.lists.specs.Table.{table}
use Rattle.lists.proofs.Rising.{same_members}
use Rattle.lists.proofs.Table.{in-table, Rising-table, length-table}
use Rattle.runs.specs.Run.{Run, nth, numbers, InRun, OneForm, empty}
use Rattle.runs.specs.Search.{run_of}

-- ---- the two readings of membership agree
pub in-numbers : (r : Run) (x : ℤ) → x ∈ numbers r ↔ InRun r x
unfolding numbers
in-numbers r x = Iff.trans (in-table (nth r) r.many x) (to, λ h. (h.place, h.below, h.is))
  where
    to : (k : ℕ) × (k < r.many) × (x ≡ nth r k) → InRun r x
    to (k, h, e) = record { place = k; below = h; is = e }

-- ---- the numbers of a run in its one form rise
pub Rising-numbers : {r : Run} → OneForm r → Rising ◌<ℤ◌ (numbers r)
unfolding numbers
Rising-numbers {r} o = Rising-table (nth r) r.many rise
  where
    rise : (j k : ℕ) → j < k → k < r.many → nth r j <ℤ nth r k
    rise j k h g =
        let up : pos 1 ≤ℤ r.step = o.rises (omega arith) in
        let later : pos j ≤ℤ pos k = lin₀ (pos j ∷ pos k ∷ []) (search facts depth 20) (omega arith) in
        lin (r.first ∷ r.step ∷ pos j ∷ pos k ∷ []) (prod up later) (search facts depth 20) (omega arith)

-- ---- a run in its one form is read back off its numbers
pub same_run : {r s : Run} → r.first ≡ s.first → r.step ≡ s.step → r.many ≡ s.many → r ≡ s
same_run a b c = λ i. record { first = a i; step = b i; many = c i }

pub run_of-numbers : {r : Run} → OneForm r → run_of (numbers r) ≡ r
unfolding run_of numbers table
run_of-numbers {r} o = go r.first r.step r.many o.empty o.one
  where
    go : (f s : ℤ) (n : ℕ) → (n ≡ 0 → (f ≡ pos 0) × (s ≡ pos 0)) → (n ≡ 1 → s ≡ pos 0) →
        run_of (table (λ k. f +ℤ s *ℤ pos k) n) ≡ record { first = f; step = s; many = n }
    go f s zero a b = same_run (sym (a refl).0) (sym (a refl).1) refl
    go f s (suc zero) a b = same_run (lin₀ (f ∷ s ∷ []) (search facts depth 20) (omega arith)) (sym (b refl)) refl
    go f s (suc (suc n)) a b =
        same_run (lin₀ (f ∷ s ∷ []) (search facts depth 20) (omega arith)) (lin₀ (f ∷ s ∷ []) (search facts depth 20) (omega arith))
        (length-table (λ k. f +ℤ s *ℤ pos k) (suc (suc n)))

-- it is the run of any rising list with its numbers
pub is_run_of : {r : Run} {xs : List ℤ} → OneForm r → Rising ◌<ℤ◌ xs → ((x : ℤ) → InRun r x ↔ x ∈ xs) → r ≡ run_of xs
is_run_of {r} o s m = sym (run_of-numbers o) ∙ ap run_of (same_members lt_asym (Rising-numbers o) s (λ x. Iff.trans (in-numbers r x) (m x)))

-- and no other run has its members
pub by_members : {r s : Run} → OneForm r → OneForm s → ((x : ℤ) → InRun r x ↔ InRun s x) → r ≡ s
by_members {r} {s} o o' m =
    is_run_of o (Rising-numbers o') (λ x. Iff.trans (m x) (Iff.symm (in-numbers s x))) ∙ run_of-numbers o'

-- ---- the empty run
-- nothing is in the empty run, and it has the one form
pub no_place : {r : Run} {x : ℤ} → r.many ≡ 0 → InRun r x → ⊥
no_place z h = omega (arith, z, h.below)

pub not_in_empty : {X : Type 0} {x : ℤ} → InRun empty x → X
not_in_empty h = absurd (no_place refl h)

pub empty_form : OneForm empty
empty_form = record { empty = λ e. (refl, refl); one = λ e. refl; rises = λ t. absurd (omega arith); inside = λ x h. not_in_empty h }
