-- Document 02, #101: "outcome and areas are settled by all that a call is given, every area as lent included".
use Rattle.std.specs.Prelude.{Bool, true, false, List, ℕ}
use Rattle.std.proofs.Math.Option.{Option, none, some}

-- the areas that a call may lend: the bytes of each, or that it is not lent
pub record Areas : Type 0 where
  pub sheet : Option (List ℕ)
  pub map : Option (List ℕ)

-- all that a call is given: the job's bytes, those of its amendments (no bytes: none), and the areas
pub record Call : Type 0 where
  pub job : List ℕ
  pub amendments : List ℕ
  pub lent : Areas

-- the check of a job and its amendments is the call that lends nothing, and the job check has no amendments either
abbrev pub lending_nothing : List ℕ → List ℕ → Call
lending_nothing s a = record { job = s; amendments = a; lent = record { sheet = none; map = none } }

-- an area is lent where the flag says so
abbrev pub lent_as : Bool → List ℕ → Option (List ℕ)
lent_as true area = some area
lent_as false area = none

-- a planning call lends an answer area, and a map area or none
abbrev pub areas_of : List ℕ → Option (List ℕ) → Areas
areas_of area map = record { sheet = some area; map = map }

abbrev pub call_of : List ℕ → List ℕ → Areas → Call
call_of s a lent = record { job = s; amendments = a; lent = lent }

-- an area that is lent, written to; one that is not lent stays so
abbrev pub on_lent : (List ℕ → List ℕ) → Option (List ℕ) → Option (List ℕ)
on_lent f (some area) = some (f area)
on_lent f none = none
