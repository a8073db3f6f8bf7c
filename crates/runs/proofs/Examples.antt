-- Document 01's jobs with an equation between two counts, through the definitions. No search could go through the full
-- range; the model works it out.
use mathlib.Core.Path.{◌≡◌, refl, sym, ◌∙◌, ap}
use mathlib.Core.Bool.{true}
use mathlib.Core.List.Perm
use mathlib.Core.List.{List, [], ◌∷◌, reverse_perm}
use Prim.Native.Nat.{ℕ}
use Rattle.ints.proofs.{ℤ, pos, negsuc}
use Rattle.lists.specs.Members.{◌∈◌}
use Rattle.lists.specs.Keep.{every}
use Rattle.runs.specs.Run.{Run, OneForm, numbers, is_one_form, empty, full}
use Rattle.runs.specs.Search.{meet, carry, meet_all}
use Rattle.runs.specs.Groupings.{alone, pair, leaves, met}
use Rattle.runs.specs.Workings.{Equation, carry_limits}
use Rattle.runs.proofs.ClassInInterval.{full_form}
use Rattle.runs.specs.Model.{meet_model, carry_model}
use Rattle.runs.proofs.Model.{meet_model_lem, carry_model_lem}
use Rattle.runs.proofs.MeetAndCarry.{carry_form}
use Rattle.runs.proofs.Refusals.{OneForm-iff, in_limits_iff}
use Rattle.runs.proofs.MeetLaws.{meet_laws, AllFormed-iff}

abbrev tie : ℤ → ℤ → ℤ → Equation
tie a b c = record { a = a; b = b; c = c }

-- n numbers from low on
abbrev bounds : ℤ → ℕ → Run
bounds low n = record { first = low; step = pos 1; many = n }

-- the numbers of the first count that the second completes are those of r, if the model says so
module _ (a b c : ℤ) (P Q r : Run) (lawful : carry_limits (tie a b c) ≡ true) where
  by_model : OneForm P → OneForm Q → meet_model P (carry_model (tie a b c) Q) ≡ r → meet P (carry a b c Q) ≡ r
  by_model o o' e =
      let lim = (in_limits_iff (tie a b c)).0 lawful in
      sym (meet_model_lem o (carry_form lim o')) ∙ ap (meet_model P) (sym (carry_model_lem lim o')) ∙ e

  joined : is_one_form P ≡ true → is_one_form Q ≡ true → meet_model P (carry_model (tie a b c) Q) ≡ r → meet P (carry a b c Q) ≡ r
  joined p q e = by_model ((OneForm-iff P).0 p) ((OneForm-iff Q).0 q) e

-- in turn 2·c0 + 4·c1 = 7, both 0..9: no fit; 3·c0 − 5·c1 = 0, c0 1..4, c1 0..9: no fit, although there is room between the
-- translated bounds; c0 + 2·c1 = 0, c0 −5..5, c1 −3..3: c0 has base −4, step 2 and 5 fits
pub small_jobs : (meet (bounds (pos 0) 10) (carry (pos 2) (pos 4) (pos 7) (bounds (pos 0) 10)) ≡ empty) ×
    (meet (bounds (pos 1) 4) (carry (pos 3) (negsuc 4) (pos 0) (bounds (pos 0) 10)) ≡ empty) ×
    (meet (bounds (negsuc 4) 11) (carry (pos 1) (pos 2) (pos 0) (bounds (negsuc 2) 7)) ≡ record { first = negsuc 3; step = pos 2; many = 5 })
unfolding every numbers meet_model carry_model
small_jobs = (
  joined (pos 2) (pos 4) (pos 7) (bounds (pos 0) 10) (bounds (pos 0) 10) empty refl refl refl refl,
  joined (pos 3) (negsuc 4) (pos 0) (bounds (pos 1) 4) (bounds (pos 0) 10) empty refl refl refl refl,
  joined (pos 1) (pos 2) (pos 0) (bounds (negsuc 4) 11) (bounds (negsuc 2) 7) (record { first = negsuc 3; step = pos 2; many = 5 }) refl refl refl refl,
)

-- 1,000,000·c0 − 999,999·c1 = 1 over the full range: c0 has base −999,998,999, step 999,999 and 2,000 fits
pub full_job : meet full (carry (pos 1000000) (negsuc 999998) (pos 1) full) ≡ record { first = negsuc 999998998; step = pos 999999; many = 2000 }
unfolding meet_model carry_model
full_job = by_model (pos 1000000) (negsuc 999998) (pos 1) full full (record { first = negsuc 999998998; step = pos 999999; many = 2000 }) refl full_form full_form refl

-- ---- three sheets of limits: 0, 3, .., 30; 4, 6, .., 40; and 10 to 25
abbrev threes : Run
threes = record { first = pos 0; step = pos 3; many = 11 }

abbrev evens : Run
evens = record { first = pos 4; step = pos 2; many = 19 }

abbrev sheets : List Run
sheets = threes ∷ evens ∷ bounds (pos 10) 16 ∷ []

formed : (r : Run) → r ∈ sheets → OneForm r
unfolding every numbers
formed = (AllFormed-iff sheets).0 refl

-- 12, 18 and 24 are in all of them
pub three_sheets : meet_all sheets ≡ record { first = pos 12; step = pos 6; many = 3 }
unfolding leaves met meet
three_sheets = sym (meet_laws.any_way (pair (pair (alone threes) (alone evens)) (alone _)) sheets (Perm.refl sheets) formed)

-- and so the last sheet first comes to the same
pub last_first : meet (bounds (pos 10) 16) (meet evens threes) ≡ meet_all sheets
unfolding leaves met
last_first = meet_laws.any_way (pair (alone _) (pair (alone evens) (alone threes))) sheets (reverse_perm sheets) formed
