-- What is known of amendments, and asked for, while the program goes through them.
use Rattle.std.specs.Prelude.{◌≡◌, ◌↔◌, Bool, true, false, List, ℕ, ◌≤◌, ◌<◌, length, get_or}
use Rattle.jobs.specs.Bounds.{Bounds, no_bounds}
use Rattle.jobs.specs.Amendments.{Amendment, amendment, amendment_bounds}
use Rattle.jobs.specs.ReasonTable.{Misreferenced}

-- the first k sheets keep reason 12's rule, for n variables: so their numbers rise
pub record Referenced (n : ℕ) (xs : List Amendment) (k : ℕ) : Type 0 where
  pub at : (t : ℕ) → t < k → ¬ Misreferenced n xs t

-- the place of a number among those of the first k sheets, or where it would stand
pub record PlaceOf (xs : List Amendment) (serial k p : ℕ) : Type 0 where
  pub inside : p ≤ k
  pub behind : (u : ℕ) → u < p → (amendment xs u).serial < serial
  pub ahead : (u : ℕ) → p ≤ u → u < k → serial ≤ (amendment xs u).serial

-- the sheet in row t is superseded by another (proofs/AmendmentsInForce.antt: exactly when it is not in force)
abbrev pub Superseded : List Amendment → ℕ → Type 0
Superseded xs t = (u : ℕ) × ((u < length xs) × ((amendment xs u).supersedes ≡ (amendment xs t).serial))

-- for each sheet, whether it is
pub record Marks (xs : List Amendment) (marked : List Bool) : Type 0 where
  pub at : (t : ℕ) → t < length xs → (get_or marked t false ≡ true) ↔ Superseded xs t

-- bounds as they are once each sheet has put its own over those of its variable, row by row: those of the last sheet for a variable stay
pub record Overlaid (xs : List Amendment) (before after : List Bounds) : Type 0 where
  pub last : (t : ℕ) → t < length xs → ((u : ℕ) → t < u → u < length xs → ¬ ((amendment xs u).variable ≡ (amendment xs t).variable)) → get_or after (amendment xs t).variable no_bounds ≡ amendment_bounds (amendment xs t)
  pub others : (i : ℕ) → ((t : ℕ) → t < length xs → ¬ ((amendment xs t).variable ≡ i)) → get_or after i no_bounds ≡ get_or before i no_bounds
