-- `overlay` meets its contract: each sheet is put over what the sheets before it left.
use mathlib.Core.Path.{◌≡◌}
use mathlib.Core.List.{List}
use Prim.Native.Nat.{ℕ, ◌<◌}
use lib.ListN.{length, get_or}
use Rattle.jobs.specs.Bounds.{Bounds, no_bounds}
use Rattle.jobs.specs.Amendments.{Amendment, amendments_of, amendment, amendment_bounds}
use Rattle.jobs.proofs.amendments.overlay.Given as goal

-- the first k sheets are put over the bounds `before`
pub record Over (xs : List Amendment) (k : ℕ) (before after : List Bounds) : Type 0 where
  pub long : length after ≡ 256
  pub last : (t : ℕ) → t < k → ((u : ℕ) → t < u → u < k → ¬ ((amendment xs u).variable ≡ (amendment xs t).variable)) → get_or after (amendment xs t).variable no_bounds ≡ amendment_bounds (amendment xs t)
  pub others : (i : ℕ) → ((t : ℕ) → t < k → ¬ ((amendment xs t).variable ≡ i)) → get_or after i no_bounds ≡ get_or before i no_bounds

abbrev pub invariant-loop-t : goal.invariant-loop-t
invariant-loop-t l = Over (amendments_of l.amendments) l.t l.initial.bounds l.bounds
