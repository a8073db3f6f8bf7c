-- One equation more, of the components' labels: those of its two variables become the lower of them, and every other stays.
use mathlib.Core.Path.{◌≡◌, sym, ◌∙◌, ap}
use mathlib.Core.Logic.{◌⊎◌, inl, inr, ◌≢◌}
use Prim.Native.Nat.{ℕ, suc, min}
use native.Mathlib.Omega.{min_cases}
use Rattle.jobs.specs.Job.{Job}
use Rattle.jobs.specs.NormalForm.{normal_row}
use Rattle.jobs.specs.Component.{merged, lowest_by}
use Rattle.jobs.proofs.Components.{lowest_next, merged_one, Merged, first, second, other, Merged-cases}

module _ (j : Job) (m : ℕ) where
  -- the components of equation m's variables, and the one that they become
  abbrev pub left_label : ℕ
  left_label = lowest_by j m (normal_row j m).left

  abbrev pub right_label : ℕ
  right_label = lowest_by j m (normal_row j m).right

  abbrev pub new_label : ℕ
  new_label = min left_label right_label

  -- variable i is in one of the two
  abbrev pub InEither : ℕ → Type 0
  InEither i = (lowest_by j m i ≡ left_label) ⊎ (lowest_by j m i ≡ right_label)

  pub next_label : (i : ℕ) → lowest_by j (suc m) i ≡ merged left_label right_label (lowest_by j m i)
  next_label = lowest_next j m

  -- a label's way
  pub data Relabelled (i : ℕ) : Type 0 where
    from_left : lowest_by j m i ≡ left_label → lowest_by j (suc m) i ≡ new_label → Relabelled i
    from_right : lowest_by j m i ≡ right_label → lowest_by j (suc m) i ≡ new_label → Relabelled i
    stays : lowest_by j m i ≢ left_label → lowest_by j m i ≢ right_label → lowest_by j (suc m) i ≡ lowest_by j m i → Relabelled i

  pub relabelled : (i : ℕ) → Relabelled i
  relabelled i = go (Merged-cases left_label right_label (lowest_by j m i))
    where
      go : Merged left_label right_label (lowest_by j m i) → Relabelled i
      go (first e l) = from_left e (next_label i ∙ l)
      go (second e l) = from_right e (next_label i ∙ l)
      go (other a b l) = stays a b (next_label i ∙ l)

  -- the new component is one of the two
  pub new_is : (new_label ≡ left_label) ⊎ (new_label ≡ right_label)
  new_is = min_cases left_label right_label ((new_label ≡ left_label) ⊎ (new_label ≡ right_label)) (λ l e. inl e) (λ l e. inr e)

  pub to_new : (i : ℕ) → InEither i → lowest_by j (suc m) i ≡ new_label
  to_new i h = next_label i ∙ merged_one left_label right_label (lowest_by j m i) h

  -- what is in it was in one of the two
  pub from_new : (i : ℕ) → lowest_by j (suc m) i ≡ new_label → InEither i
  from_new i h = go (relabelled i) new_is
    where
      go : Relabelled i → (new_label ≡ left_label) ⊎ (new_label ≡ right_label) → InEither i
      go (from_left a b) k = inl a
      go (from_right a b) k = inr a
      go (stays a b c) (inl k) = inl (sym c ∙ h ∙ k)
      go (stays a b c) (inr k) = inr (sym c ∙ h ∙ k)

  -- another component
  module _ (g : ℕ) (n : g ≢ new_label) where
    -- has the variables that it had
    pub from_other : (i : ℕ) → lowest_by j (suc m) i ≡ g → lowest_by j m i ≡ g
    from_other i h = go (relabelled i)
      where
        go : Relabelled i → lowest_by j m i ≡ g
        go (from_left a b) = absurd (n (sym h ∙ b))
        go (from_right a b) = absurd (n (sym h ∙ b))
        go (stays a b c) = sym c ∙ h

    module _ (s : lowest_by j (suc m) g ≡ g) where
      pub to_other : (i : ℕ) → lowest_by j m i ≡ g → lowest_by j (suc m) i ≡ g
      to_other i h = next_label i ∙ ap (merged left_label right_label) (h ∙ sym (from_other g s)) ∙ sym (next_label g) ∙ s

      pub apart : (i : ℕ) → lowest_by j m i ≡ g → (lowest_by j m i ≢ left_label) × (lowest_by j m i ≢ right_label)
      apart i h = (λ e. n (sym (to_other i h) ∙ to_new i (inl e)), λ e. n (sym (to_other i h) ∙ to_new i (inr e)))
