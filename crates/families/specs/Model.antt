-- The model: the planner's steps as functions on lists. They compute, however long the runs are. Nothing here has to be believed:
-- proofs/ModelIsExact.antt shows that what they end in is `family_run`.
use Rattle.std.specs.Prelude.{Bool, cond, List, map, ℕ, zero, suc, eqb, ltb, length, get_or, ℤ, pos, nat_abs, ◌+ℤ◌, ◌-ℤ◌, ◌*ℤ◌}
use Rattle.std.proofs.Math.Option.{Option, none, some}
use Rattle.std.specs.Int.Signed.{lt_z}
use Rattle.ints.specs.Equal.{is_equal}
use Rattle.ints.specs.Floor.{floor_div, floor_mod}
use Rattle.lists.specs.Table.{table, up_to}
use Rattle.runs.specs.declared.Run.{Run}
use Rattle.runs.specs.declared.Equation.{Equation as Form}
use Rattle.runs.specs.Run.{empty, full}
use Rattle.runs.specs.Method.{progression}
use Rattle.runs.specs.Model.{meet_model, carry_model}
use Rattle.families.specs.FamilyRun.{turned, upward, index_of, stride_in, across}
use Rattle.jobs.specs.declared.Equation.{Equation}
use Rattle.jobs.specs.Job.{Job, form, variable}
use Rattle.jobs.specs.NormalForm.{normal, normal_row}
use Rattle.jobs.specs.Component.{merged}

-- ---- the state, while equations are taken in
-- labels: of each variable, the lowest variable of its component so far.
-- runs: of each variable, its numbers in the family of its component so far. At k its number is first + step·k, for all k below
-- many; k and many are the component's, so that all its variables move together. A step may be negative; that of the component's
-- lowest variable is not.
pub record State : Type 0 where
  pub labels : List ℕ
  pub runs : List Run

abbrev pub label_at : State → ℕ → ℕ
label_at s i = get_or s.labels i 0

abbrev pub run_at : State → ℕ → Run
run_at s i = get_or s.runs i empty

-- ---- before any equation: each variable is a component of its own, with all numbers from its low to its high
abbrev pub interval : ℤ → ℤ → Run
interval low high = cond (lt_z high low) empty (progression low (pos 1) (nat_abs (high -ℤ low)))

unfoldable pub start_state : Job → State
unfolding table meet_model
start_state j =
    let n = length j.variables in
    record { labels = up_to n; runs = table (λ i. meet_model full (interval (variable j i).low (variable j i).high)) n }

-- ---- part of a family: the members at the indices first + step·k of a run, in its order
abbrev pub members_at : Run → Run → Run
members_at r indices = record { first = r.first +ℤ r.step *ℤ indices.first; step = r.step *ℤ indices.step; many = indices.many }

abbrev pub through : Run → Run → Run
through r indices = cond (eqb indices.many 0) empty (members_at r indices)

-- ---- an equation inside a component (01's ring, or 02's tie on one count). At p = P.first + P.step·k and q = Q.first + Q.step·k it says
-- coefficient·k = residual.
abbrev pub coefficient : Form → Run → Run → ℤ
coefficient e P Q = e.a *ℤ P.step +ℤ e.b *ℤ Q.step

abbrev pub residual : Form → Run → Run → ℤ
residual e P Q = e.c -ℤ (e.a *ℤ P.first +ℤ e.b *ℤ Q.first)

-- the index k alone, if it is one of a family of many members
abbrev pub alone : ℤ → Run
alone k = record { first = k; step = pos 0; many = 1 }

abbrev pub in_range : ℤ → ℕ → Run
in_range k many = cond (lt_z k (pos 0)) empty (cond (lt_z k (pos many)) (alone k) empty)

-- the index v / d, if that is whole
abbrev pub candidate : ℤ → ℤ → ℕ → Run
candidate v d many = cond (is_equal (floor_mod v d) (pos 0)) (in_range (floor_div v d) many) empty

-- redundant, or the indices that it leaves: one candidate or none
abbrev pub cycle : Form → Run → Run → Option Run
cycle e P Q =
    cond (is_equal (coefficient e P Q) (pos 0))
    (cond (is_equal (residual e P Q) (pos 0)) none (some empty))
    (some (candidate (residual e P Q) (coefficient e P Q) P.many))

-- ---- an equation between two components
-- the indices into the family of the left variable, and into that of the right
pub record Indices : Type 0 where
  pub left : Run
  pub right : Run

-- the numbers of the left variable that some number of the right completes
unfoldable pub common_numbers : Form → Run → Run → Run
unfolding meet_model carry_model
common_numbers e P Q = meet_model (upward P) (carry_model e (upward Q))

-- where the numbers of R stand in r: exact quotients
abbrev pub indices_in : Run → Run → Run
indices_in r R = record { first = index_of r R.first; step = stride_in r R.step; many = R.many }

-- where those of R and their partners stand
abbrev pub places : Form → Run → Run → Run → Indices
places e P Q R = record { left = indices_in P R; right = indices_in Q (across e.a e.b e.c R) }

-- those into the family with the new lowest variable: the left one's, if it leads
abbrev pub leading : Bool → Indices → Run
leading leftLeads i = cond leftLeads i.left i.right

abbrev pub downwards : Indices → Indices
downwards i = record { left = turned i.left; right = turned i.right }

-- in the direction in which these rise
abbrev pub directed : Bool → Indices → Indices
directed leftLeads i = cond (lt_z (leading leftLeads i).step (pos 0)) (downwards i) i

abbrev pub join : Form → Run → Run → Run → Bool → Indices
join e P Q R leftLeads = cond (eqb R.many 0) (record { left = empty; right = empty }) (directed leftLeads (places e P Q R))

-- ---- one equation: what it leaves of the components l and r of its variables, whose runs are P and Q. None where it is redundant.
abbrev pub both_sides : Option Run → Option Indices
both_sides none = none
both_sides (some s) = some (record { left = s; right = s })

unfoldable pub kept : Form → ℕ → ℕ → Run → Run → Option Indices
unfolding common_numbers floor_div floor_mod
kept e l r P Q = cond (eqb l r) (both_sides (cycle e P Q)) (some (join e P Q (common_numbers e P Q) (ltb l r)))

-- the run of a variable in component g after that
abbrev pub run_after : ℕ → ℕ → Indices → ℕ → Run → Run
run_after l r i g run = cond (eqb g l) (through run i.left) (cond (eqb g r) (through run i.right) run)

unfoldable pub change : ℕ → ℕ → Option Indices → State → State
unfolding table
change l r none s = s
change l r (some i) s = record {
  labels = map (merged l r) s.labels;
  runs = table (λ k. run_after l r i (label_at s k) (run_at s k)) (length s.runs);
}

unfoldable pub next : Equation → State → State
unfolding kept change
next e s =
    let l = label_at s e.left in
    let r = label_at s e.right in
    change l r (kept (form e) l r (run_at s e.left) (run_at s e.right)) s

-- ---- after the first m equations, in their order and in normal form: one that is not binary has one variable twice, and is taken as an
-- equation inside its component
unfoldable pub state_after : Job → ℕ → State
unfolding start_state next normal
state_after j zero = start_state j
state_after j (suc m) = let s = state_after j m in next (normal_row j m) s

-- and after all of them
unfoldable pub state_after_all : Job → State
unfolding state_after
state_after_all j = state_after j (length j.equations)
