-- Document 01, "Wrong plans on the frame": the sham planners, nearest to passing first, and of each that it breaks the demand that
-- is named beside it; three more that break demand 2: components numbered from 1, two with one number, and a refusal for everybody;
-- and one that breaks demand 3: the lower number among equals. Where a theorem is about one job, that job alone refuses the sham.
use mathlib.Core.Path.{◌≡◌, refl, sym, ◌∙◌, ap}
use mathlib.Core.Logic.{◌≢◌, ⊎_elim}
use mathlib.Core.Option.{Option, none, some, none-ne-some, some-injective}
use mathlib.Core.List.{List, [], ◌∷◌, ◌++◌, map}
use Prim.Native.Nat.{ℕ, ◌≤◌, ◌<◌}
use lib.ListN.{length, take}
use Rattle.reasons.specs.declared.Reason.{Reason}
use Rattle.reasons.specs.Numbers.{number_of, row_of}
use Rattle.ints.proofs.{ℤ, pos, negsuc, ◌+ℤ◌, ◌*ℤ◌, arith, lin, ◌&◌, facts}
use Rattle.lists.specs.Table.{table}
use Rattle.lists.proofs.Rising.{Rising-Distinct, same_length}
use Rattle.lists.proofs.Table.{in-table, Rising-table, length-table, table_at}
use Rattle.lists.proofs.Lexicographic.{Lower-asym}
use Rattle.little_endian.specs.LittleEndian.{unsigned}
use Rattle.jobs.specs.Call.{Areas, Call, areas_of, call_of}
use Rattle.jobs.specs.Job.{Job, variable}
use Rattle.jobs.specs.Amendments.{amended}
use Rattle.jobs.specs.Solution.{number, IsSolution, best}
use Rattle.jobs.specs.SheetOffsets.{sheet_length}
use Rattle.jobs.specs.Component.{Joined, IsLead, lowest, leads}
use Rattle.jobs.specs.Family.{component_job, fits, base}
use Rattle.jobs.specs.Faults.{first_broken, accepted, refused as turned, checked}
use Rattle.jobs.specs.Verdict.{planned, no_fit, refused, first_without}
use Rattle.jobs.specs.SheetLayout.{answer_mark}
use Rattle.jobs.specs.MapLayout.{map_mark}
use Rattle.jobs.specs.Demands.{number_on, group_on, fits_on, numbers_on, member_on, TurnsAway, FamilyOn, NotTurnedAway, GivesFits, CannotBeBettered, ShowsMap}
use Rattle.jobs.specs.JobBytes.{plus, header, count, plain, difference}
use Rattle.jobs.proofs.Faults.{found_iff, fault_checked, fault_none, accepted_none, refused_some}
use Rattle.jobs.proofs.Solutions.{Rising-solutions, in-solutions, best_only}
use Rattle.jobs.proofs.Components.{Joined-iff, in-leads}
use Rattle.jobs.proofs.Numbering.{IsLead-iff}
use Rattle.jobs.proofs.Assembly.{solves_iff}

-- an answer area, no amendments and no map: what is demanded of all calls is demanded of these
abbrev pub alone : List ℕ → Areas
alone area = areas_of area none

abbrev pub lends : List ℕ → List ℕ → Call
lends s area = call_of s [] (alone area)

abbrev unamended : List ℕ → Job
unamended s = amended s []

-- ---- jobs that refuse them
abbrev pub no_counts : List ℕ
no_counts = header 0 0 24 24

-- 0..1, weight 1
abbrev pub one_count : List ℕ
one_count = header 1 0 36 36 ++ count (plus 0) (plus 1) (plus 1)

-- two such counts, untied
abbrev pub two_counts : List ℕ
two_counts = header 2 0 48 48 ++ count (plus 0) (plus 1) (plus 1) ++ count (plus 0) (plus 1) (plus 1)

-- 0..1, without a weight
abbrev pub weightless : List ℕ
weightless = header 1 0 36 36 ++ plain 1

-- 0..1, and a second component of 0..3 and 0..3 with c1 − c2 = 1
abbrev pub two_groups : List ℕ
two_groups = header 3 1 60 80 ++ plain 1 ++ plain 3 ++ plain 3 ++ difference 1 2 1

abbrev small_jobs : List (List ℕ)
small_jobs = no_counts ∷ one_count ∷ two_counts ∷ weightless ∷ two_groups ∷ []

-- what refuses a sham is the demand and not the job: the check accepts each of them, and each of its components has a fit-out
small : (map (λ s. checked s []) small_jobs ≡ accepted ∷ accepted ∷ accepted ∷ accepted ∷ accepted ∷ []) ×
    (map (λ s. first_without (unamended s)) small_jobs ≡ none ∷ none ∷ none ∷ none ∷ none ∷ [])
unfolding checked first_without amended
small = (refl, refl)

-- demand 3 leaves no other numbers than those of the best
pub numbers_are_fixed : (s area after : List ℕ) (w : ℤ) → CannotBeBettered (lends s area) (planned w) (alone after) →
    (i : ℕ) → i < length (unamended s).variables → number_on after i ≡ number (best (unamended s)) i
numbers_are_fixed s area after w d i h =
    sym (table_at (number_on after) (length (unamended s).variables) i (pos 0) h)
    ∙ ap (λ x. number x i) (best_only (unamended s) (numbers_on (unamended s) after) (d.best w refl).optimal)

one_not_zero : pos 1 ≢ pos 0
one_not_zero e = lin [] e (search facts depth 20) (omega arith)

-- ---- "one that plans the first group and sets every other count to its low (demand 2, the ties; demand 3 where no tie is broken)"
abbrev pub RestAtLow : Job → List ℕ → Type 0
RestAtLow j after = (i : ℕ) → i < length j.variables → ¬ Joined j 0 i → number_on after i ≡ (variable j i).low

pub first_group_only_ties : (area after : List ℕ) (w : ℤ) → RestAtLow (unamended two_groups) after → ¬ GivesFits (lends two_groups area) (planned w) (alone after)
unfolding amended unsigned table lowest
first_group_only_ties area after w f d = broken (f 1 (omega arith) (apart 1 (omega arith))) (f 2 (omega arith) (apart 2 (omega arith))) ((d.given w refl).solution.holds 0 (omega arith))
  where
    apart : (i : ℕ) → lowest (unamended two_groups) 0 ≢ lowest (unamended two_groups) i → ¬ Joined (unamended two_groups) 0 i
    apart i n s = n ((Joined-iff (unamended two_groups) 0 i).0 s)

    broken : {x y : ℤ} → x ≡ pos 0 → y ≡ pos 0 → pos 1 *ℤ x +ℤ negsuc 0 *ℤ y ≢ pos 1
    broken {x} {y} p q e = lin (x ∷ y ∷ []) (p & q & e) (search facts depth 20) (omega arith)

-- the two counts of `two_counts` are in components of their own
untied : ¬ Joined (unamended two_counts) 0 1
unfolding amended unsigned table lowest
untied s = omega (arith, (Joined-iff (unamended two_counts) 0 1).0 s)

pub first_group_only_worth : (area after : List ℕ) (w : ℤ) → RestAtLow (unamended two_counts) after → ¬ CannotBeBettered (lends two_counts area) (planned w) (alone after)
unfolding amended unsigned table best
first_group_only_worth area after w f d = one_not_zero (sym (numbers_are_fixed two_counts area after w d 1 (omega arith)) ∙ f 1 (omega arith) untied)

-- ---- "one whose fits are invented (demand 2, every fit-out exactly once)"
-- as many numbers below fits as solutions, because each gives one of them, all are given, and none twice
family_fits : {j : Job} {l g : ℕ} {after : List ℕ} → lowest j l ≡ l → FamilyOn j l g after → fits_on j after g ≡ fits (component_job j l)
unfolding fits
family_fits {j} {l} {g} {after} self f =
    sym (length-table member n)
    ∙ same_length
    (Rising-table member n (λ i k h m e. omega (arith, f.once i k (omega arith) m e)))
    (Rising-Distinct Lower-asym (Rising-solutions c))
    (λ x. (
      λ h. let (k, m, e) = (in-table member n x).0 h in (in-solutions c x).1 ((solves_iff j l self x).0 ((f.all x).1 (k, (m, e)))),
      λ h. let (k, m) = (f.all x).0 ((solves_iff j l self x).1 ((in-solutions c x).0 h)) in (in-table member n x).1 (k, m.0, m.1),
    ))
  where
    c : Job
    c = component_job j l

    n : ℕ
    n = fits_on j after g

    member : ℕ → List ℤ
    member = member_on j after g

pub fits_are_fixed : (s area after : List ℕ) (w : ℤ) → GivesFits (lends s area) (planned w) (alone after) → (l : ℕ) → IsLead (unamended s) l →
    fits_on (unamended s) after (group_on after l) ≡ fits (component_job (unamended s) l)
fits_are_fixed s area after w d l m =
    let j = unamended s in
    family_fits ((in-leads j l).0 ((IsLead-iff j l).0 m)).1 ((d.given w refl).families.families l m)

-- ---- components numbered from 1: the first has number 0, where there is a count at all
pub numbered_from_one : (s area after : List ℕ) (w : ℤ) → 0 < length (unamended s).variables →
    ((i : ℕ) → i < length (unamended s).variables → group_on after i ≢ 0) → ¬ GivesFits (lends s area) (planned w) (alone after)
numbered_from_one s area after w any from d =
    let f = (d.given w refl).laid_out.groups in
    let (i, h) = (f.each 0).0 (omega (arith, (f.each (group_on after 0)).1 (0, (any, refl)))) in
    from i h.0 h.1

-- ---- two components given one number: counts that are not joined have two
pub one_number : (s area after : List ℕ) (w : ℤ) (i k : ℕ) → i < length (unamended s).variables → k < length (unamended s).variables →
    ¬ Joined (unamended s) i k → group_on after i ≡ group_on after k → ¬ GivesFits (lends s area) (planned w) (alone after)
one_number s area after w i k h l n e d = n (((d.given w refl).laid_out.groups.together i k h l).0 e)

pub one_number_for_both : (area after : List ℕ) (w : ℤ) → group_on after 0 ≡ group_on after 1 → ¬ GivesFits (lends two_counts area) (planned w) (alone after)
unfolding amended unsigned table
one_number_for_both area after w = one_number two_counts area after w 0 1 (omega arith) (omega arith) untied

-- ---- "one that returns the base for any job (demand 3)"
abbrev pub AtBase : Job → List ℕ → Type 0
AtBase j after = (i : ℕ) → i < length j.variables → number_on after i ≡ number (base (component_job j (lowest j i))) i

pub always_the_base : (area after : List ℕ) (w : ℤ) → AtBase (unamended one_count) after → ¬ CannotBeBettered (lends one_count area) (planned w) (alone after)
unfolding amended unsigned table component_job base best
always_the_base area after w f d = one_not_zero (sym (numbers_are_fixed one_count area after w d 0 (omega arith)) ∙ f 0 (omega arith))

-- ---- one that takes the lower number among equals, as document 01 had it (demand 3)
pub lower_number_first : (area after : List ℕ) (w : ℤ) → number_on after 0 ≡ pos 0 → ¬ CannotBeBettered (lends weightless area) (planned w) (alone after)
unfolding amended unsigned table best
lower_number_first area after w e d = one_not_zero (sym (numbers_are_fixed weightless area after w d 0 (omega arith)) ∙ e)

-- ---- "one that says planned and writes no sheet (demand 2)": whatever the job, unless the area as lent begins like a sheet
pub no_sheet : (s area : List ℕ) (w : ℤ) → take 4 area ≢ answer_mark → ¬ GivesFits (lends s area) (planned w) (alone area)
no_sheet s area w n d = n (d.given w refl).laid_out.mark

-- ---- one that writes the map only when it has planned (the repair bench's demand): whatever the job, unless the area as lent begins like
-- a map
pub no_map_without_fit : (s area map : List ℕ) (l : ℕ) (after : Option (List ℕ)) → take 4 map ≢ map_mark →
    ¬ ShowsMap (call_of s [] (areas_of area (some map))) (no_fit l) record { sheet = after; map = some map }
no_map_without_fit s area map l after n d = n (d.without_fit l refl).mark

-- ---- "one whose sheet is the same for all jobs (demand 2)": jobs that have it are of one number of counts
pub same_sheet : (s area s' area' after : List ℕ) (w w' : ℤ) → GivesFits (lends s area) (planned w) (alone after) → GivesFits (lends s' area') (planned w') (alone after) →
    length (unamended s).variables ≡ length (unamended s').variables
same_sheet s area s' area' after w w' d d' = sym (d.given w refl).laid_out.variables ∙ (d'.given w' refl).laid_out.variables

-- so it is no sheet of both of these
pub same_sheet_twice : (area area' after : List ℕ) (w w' : ℤ) → GivesFits (lends no_counts area) (planned w) (alone after) → ¬ GivesFits (lends one_count area') (planned w') (alone after)
unfolding amended unsigned table
same_sheet_twice area area' after w w' d d' = omega (arith, same_sheet no_counts area one_count area' after w w' d d')

-- ---- "one that reports "no fit" for all jobs (demand 2, only when none exists)"
pub no_fit_for_all : (s area after : List ℕ) (l : ℕ) (x : List ℤ) → IsSolution (unamended s) x → ¬ GivesFits (lends s area) (no_fit l) (alone after)
no_fit_for_all s area after l x h d = (d.without_fit l refl).0.none x h

-- the empty list is a fit-out of the job without counts
pub no_fit_for_no_counts : (area after : List ℕ) (l : ℕ) → ¬ GivesFits (lends no_counts area) (no_fit l) (alone after)
unfolding amended unsigned table
no_fit_for_no_counts area after l =
    no_fit_for_all no_counts area after l [] record { long = refl; low = λ i h. absurd (omega arith); high = λ i h. absurd (omega arith); holds = λ k h. absurd (omega arith) }

-- ---- "one that gives reason 8 or another reason to each job before reading it (demand 1, the table's conditions, each of which
-- is necessary as well as sufficient)", and so demand 2, where a fit-out is given when one exists
module _ (s area after : List ℕ) (reason row : ℕ) where
  -- no reason is reported for a job that the check accepts, with room for its sheet
  not_turned_away : checked s [] ≡ accepted → sheet_length (unamended s) ≤ length area → NotTurnedAway (lends s area)
  not_turned_away ok room p q k =
      let (r, h) = (found_iff (lends s area) p q).0 k in none-ne-some r (sym (fault_none (lends s area) (accepted_none s [] ok) (λ l. omega (arith, l, room)) (λ l. l)) ∙ h.0)

  pub refused_though_accepted : checked s [] ≡ accepted → sheet_length (unamended s) ≤ length area → ¬ GivesFits (lends s area) (refused reason row) (alone after)
  refused_though_accepted ok room d = ⊎_elim (λ (w, e). not_planned e) (λ (l, e). not_no_fit e) (d.one_of (not_turned_away ok room))
    where
      not_planned : {w : ℤ} → refused reason row ≡ planned w → ⊥
      not_planned e = let z : ◌≡◌ {A = ℕ} 0 1 = cc in omega arith

      not_no_fit : {l : ℕ} → refused reason row ≡ no_fit l → ⊥
      not_no_fit e = let z : ◌≡◌ {A = ℕ} 0 1 = cc in omega arith

  turned_by : TurnsAway (lends s area) (refused reason row) (alone after) → (r : Reason) × ((first_broken (lends s area) ≡ some r) × ((number_of r ≡ reason) × (row_of r ≡ row)))
  turned_by d = (found_iff (lends s area) reason row).0 ((d.exactly reason row).0 refl)

  -- a job that the check accepts, with room for its sheet, has no reason and row
  pub refused_unread : checked s [] ≡ accepted → sheet_length (unamended s) ≤ length area → ¬ TurnsAway (lends s area) (refused reason row) (alone after)
  refused_unread ok room d = not_turned_away ok room reason row ((d.exactly reason row).0 refl)

  -- one that it refuses has its reason and row alone
  pub refused_otherwise : (p q : ℕ) → checked s [] ≡ turned p q → TurnsAway (lends s area) (refused reason row) (alone after) → (reason ≡ p) × (row ≡ q)
  refused_otherwise p q e d =
      let (r, h) = turned_by d in
      let (t, k) = refused_some s [] p q e in
      let same : r ≡ t = some-injective r t (sym h.0 ∙ fault_checked (lends s area) t k.0) in
      (sym h.1.0 ∙ ap number_of same ∙ k.1.0, sym h.1.1 ∙ ap row_of same ∙ k.1.1)

-- so none can be given to each job
pub refused_no_counts : (area after : List ℕ) (reason row : ℕ) → 24 ≤ length area → ¬ TurnsAway (lends no_counts area) (refused reason row) (alone after)
unfolding checked amended unsigned leads
refused_no_counts area after reason row room = refused_unread no_counts area after reason row refl room

pub refused_for_all : (area after : List ℕ) (reason row : ℕ) → 24 ≤ length area → ¬ GivesFits (lends no_counts area) (refused reason row) (alone after)
unfolding checked amended unsigned leads
refused_for_all area after reason row room = refused_though_accepted no_counts area after reason row refl room
