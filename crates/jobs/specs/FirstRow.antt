-- What a pass over rows answers, and one test.
use Rattle.std.specs.Prelude.{◌≡◌, ℕ, ◌<◌, Result, Ok, Err}
use Rattle.reasons.specs.declared.Reason.{Reason}

-- of k rows: refused, with the reason of that row, at the first of which P holds; accepted where there is none
abbrev pub FirstRow : {A : Type 0} → (ℕ → Reason) → (ℕ → Type 0) → ℕ → Result A Reason → Type 0
FirstRow reason P k (Ok x) = (t : ℕ) → t < k → ¬ P t
FirstRow reason P k (Err r) = (t : ℕ) × ((r ≡ reason t) × ((t < k) × (P t × ((u : ℕ) → u < t → ¬ P u))))

-- refused with that reason where P holds, and accepted where it does not
abbrev pub RefusedOn : {A : Type 0} → Reason → Type 0 → Result A Reason → Type 0
RefusedOn reason P (Ok x) = ¬ P
RefusedOn reason P (Err r) = (r ≡ reason) × P
