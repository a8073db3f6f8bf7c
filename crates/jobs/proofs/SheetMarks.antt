-- What the passes over amendment sheets mark, sheet by sheet: which of them are superseded, and for which variables one so far is in force.
use mathlib.Core.Path.{◌≡◌, sym, ◌∙◌, ap, subst}
use mathlib.Core.Logic.{◌↔◌, ◌⊎◌, inr, ⊎_elim}
use mathlib.Core.Bool.{Bool, true, false, false≢true}
use mathlib.Core.List.{List}
use Prim.Native.Nat.{ℕ, ◌+◌, ◌≤◌, ◌<◌}
use native.Mathlib.Omega.{arith}
use native.Mathlib.Decide.{ℕ_discrete}
use lib.ListN.{length, get_or, set, length-set}
use lib.Seq.{get_or-set_same, get_or-set_other}
use Rattle.jobs.specs.Amendments.{Amendment, amendment_count, amendments_of, amendment, is_in_force}
use Rattle.jobs.specs.ReasonTable.{Twice}
use Rattle.jobs.specs.AmendmentPasses.{Referenced, PlaceOf, Superseded, Marks}
use Rattle.jobs.proofs.FirstRow.{none_more, some_more}
use Rattle.jobs.proofs.AmendmentsInForce.{length-amendments_of, has_earlier, serial_positive, one_serial, place_is, variable_below, in_force_iff, Governs}

-- ---- the sheet in row u is superseded by one of the first t
abbrev pub By : List Amendment → ℕ → ℕ → Type 0
By xs t u = (v : ℕ) × ((v < t) × ((amendment xs v).supersedes ≡ (amendment xs u).serial))

-- and marked so, of k sheets
pub record Marked (xs : List Amendment) (k t : ℕ) (marks : List Bool) : Type 0 where
  pub long : length marks ≡ 512
  pub at : (u : ℕ) → u < k → (get_or marks u false ≡ true) ↔ By xs t u

pub none_marked : (xs : List Amendment) (k : ℕ) {marks : List Bool} → length marks ≡ 512 → ((u : ℕ) → get_or marks u false ≡ false) → Marked xs k 0 marks
none_marked xs k long blank = record { long = long; at = λ u h. (λ q. absurd (false≢true (sym (blank u) ∙ q)), λ (v, l). absurd (omega (arith, l.0))) }

pub all_marked : (s : List ℕ) {k t : ℕ} {marks : List Bool} → k ≡ length (amendments_of s) → t ≡ length (amendments_of s) → Marked (amendments_of s) k t marks → Marks (amendments_of s) marks
all_marked s k_is t_is m = record {
  at = λ u h.
      let b = m.at u (omega (arith, h, k_is)) in (
        λ q. let (v, l) = b.0 q in (v, (omega (arith, l.0, t_is), l.1)),
        λ (v, l). b.1 (v, (omega (arith, l.0, t_is), l.1)),
      );
}

-- one sheet more, of the first k, which keep reason 12's rule
module _ {n k : ℕ} {xs : List Amendment} (r : Referenced n xs k) {t : ℕ} (h : t < k) {marks : List Bool} (m : Marked xs k t marks) {a : Amendment} (read : a ≡ amendment xs t) where
  -- what it supersedes, or what an earlier one does
  more : (u : ℕ) → (((amendment xs t).supersedes ≡ (amendment xs u).serial) ⊎ By xs t u) ↔ By xs (t + 1) u
  more u = some_more {P = λ v. (amendment xs v).supersedes ≡ (amendment xs u).serial} t

  supersedes_is : a.supersedes ≡ (amendment xs t).supersedes
  supersedes_is = ap (λ a. a.supersedes) read

  -- it supersedes none
  pub mark_skipped : a.supersedes ≡ 0 → Marked xs k (t + 1) marks
  mark_skipped z = record {
    long = m.long;
    at = λ u l. (
      λ q. (more u).0 (inr ((m.at u l).0 q)),
      λ b. (m.at u l).1 (⊎_elim (λ e. absurd (omega (arith, z, e, supersedes_is, serial_positive r u l))) (λ b. b) ((more u).1 b)),
    );
  }

  -- it supersedes the one whose number stands at p
  module _ (z : ¬ (a.supersedes ≡ 0)) {p : ℕ} (f : PlaceOf xs a.supersedes k p) where
    at_place : (p < k) × ((amendment xs t).supersedes ≡ (amendment xs p).serial)
    at_place =
        let (w, b) = has_earlier r t h (λ e. z (supersedes_is ∙ e)) in
        let same : p ≡ w = place_is r f w (omega (arith, b.0, h)) (b.1.0 ∙ sym supersedes_is) in
        (omega (arith, same, b.0, h), sym b.1.0 ∙ ap (λ w. (amendment xs w).serial) (sym same))

    pub place_below : p < k
    place_below = at_place.0

    pub mark_put : k ≤ 512 → Marked xs k (t + 1) (set marks p true)
    mark_put small = record {
      long = length-set marks p true ∙ m.long;
      at = λ u l. go u l (ℕ_discrete u p);
    }
      where
        go : (u : ℕ) → u < k → Dec (u ≡ p) → (get_or (set marks p true) u false ≡ true) ↔ By xs (t + 1) u
        go u l (yes e) = (
          λ _. (t, (omega arith, at_place.1 ∙ ap (λ w. (amendment xs w).serial) (sym e))),
          λ _. ap (λ u. get_or (set marks p true) u false) e ∙ get_or-set_same marks p true false (omega (arith, at_place.0, m.long, small)),
        )
        go u l (no e) =
            let other = get_or-set_other marks p u true false e in (
              λ q. (more u).0 (inr ((m.at u l).0 (sym other ∙ q))),
              λ b. other ∙ (m.at u l).1 (⊎_elim (λ q. absurd (e (one_serial r u p l at_place.0 (sym q ∙ at_place.1)))) (λ b. b) ((more u).1 b)),
            )

-- ---- for variable i one of the first t sheets is in force
abbrev pub Held : List Amendment → ℕ → ℕ → Type 0
Held xs t i = (u : ℕ) × ((u < t) × Governs xs i u)

-- and it is taken
pub record Taken (xs : List Amendment) (t : ℕ) (taken : List Bool) : Type 0 where
  pub long : length taken ≡ 256
  pub at : (i : ℕ) → i < 256 → (get_or taken i false ≡ true) ↔ Held xs t i

pub none_taken : (xs : List Amendment) {taken : List Bool} → length taken ≡ 256 → ((i : ℕ) → get_or taken i false ≡ false) → Taken xs 0 taken
none_taken xs long blank = record { long = long; at = λ i h. (λ q. absurd (false≢true (sym (blank i) ∙ q)), λ (u, l). absurd (omega (arith, l.0))) }

-- one sheet more, of the first k, which keep reason 12's rule for n variables
module _ (s : List ℕ) {n k t : ℕ} (few : n ≤ 256) (k_is : k ≡ amendment_count s) (r : Referenced n (amendments_of s) k) (h : t < k)
    {marks : List Bool} (marked : Marks (amendments_of s) marks)
    {taken : List Bool} (m : Taken (amendments_of s) t taken × ((u : ℕ) → u < t → ¬ Twice (amendments_of s) u))
    {a : Amendment} (read : a ≡ amendment (amendments_of s) t) where
  abbrev xs : List Amendment
  xs = amendments_of s

  abbrev i : ℕ
  i = (amendment (amendments_of s) t).variable

  variable_is : a.variable ≡ i
  variable_is = ap (λ a. a.variable) read

  below : i < 256
  below = omega (arith, few, variable_below r t h)

  marked_iff : (get_or marks t false ≡ true) ↔ Superseded xs t
  marked_iff = marked.at t (omega (arith, h, k_is, length-amendments_of s))

  more_held : (j : ℕ) → (Governs xs j t ⊎ Held xs t j) ↔ Held xs (t + 1) j
  more_held j = some_more {P = Governs xs j} t

  -- it is superseded
  pub passed_by : get_or marks t false ≡ true → Taken (amendments_of s) (t + 1) taken × ((u : ℕ) → u < t + 1 → ¬ Twice (amendments_of s) u)
  passed_by q = (
    record { long = m.0.long; at = λ j h. (λ q. (more_held j).0 (inr ((m.0.at j h).0 q)), λ f. (m.0.at j h).1 (⊎_elim (λ g. absurd ((in_force_iff xs t).0 g.1 (marked_iff.0 q))) (λ f. f) ((more_held j).1 f))) },
    none_more t m.1 (λ w. (in_force_iff xs t).0 w.0 (marked_iff.0 q)),
  )

  -- it is in force, for a variable that is taken or not
  module _ (unmarked : get_or marks t false ≡ false) where
    in_force : is_in_force xs t ≡ true
    in_force = (in_force_iff xs t).1 (λ s. false≢true (sym unmarked ∙ marked_iff.1 s))

    pub second : get_or taken a.variable false ≡ true → Twice (amendments_of s) t
    second q = let (u, b) = (m.0.at i below).0 (ap (λ i. get_or taken i false) (sym variable_is) ∙ q) in (in_force, (u, (b.0, b.1)))

    pub takes : get_or taken a.variable false ≡ false → Taken (amendments_of s) (t + 1) (set taken a.variable true) × ((u : ℕ) → u < t + 1 → ¬ Twice (amendments_of s) u)
    takes q = (
      subst (λ i. Taken xs (t + 1) (set taken i true)) (sym variable_is) (record { long = length-set taken i true ∙ m.0.long; at = λ j h. go j h (ℕ_discrete j i) }),
      none_more t m.1 (λ w. let (u, b) = w.1 in false≢true (sym q ∙ ap (λ i. get_or taken i false) variable_is ∙ (m.0.at i below).1 (u, (b.0, b.1)))),
    )
      where
        go : (j : ℕ) → j < 256 → Dec (j ≡ i) → (get_or (set taken i true) j false ≡ true) ↔ Held xs (t + 1) j
        go j h (yes e) = (
          λ _. (t, (omega arith, (sym e, in_force))),
          λ _. ap (λ j. get_or (set taken i true) j false) e ∙ get_or-set_same taken i true false (omega (arith, below, m.0.long)),
        )
        go j h (no e) =
            let other = get_or-set_other taken i j true false e in (
              λ q. (more_held j).0 (inr ((m.0.at j h).0 (sym other ∙ q))),
              λ f. other ∙ (m.0.at j h).1 (⊎_elim (λ g. absurd (e (sym g.0))) (λ f. f) ((more_held j).1 f)),
            )
