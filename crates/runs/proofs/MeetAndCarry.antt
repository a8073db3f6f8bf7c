-- What the family proof goes by: the members of a meet and of what is carried, and the way back and forth between the
-- runs of two variables under a·p + b·q = c.
use mathlib.Core.Path.{◌≡◌}
use mathlib.Core.Logic.Iff
use mathlib.Core.Logic.{◌↔◌}
use mathlib.Core.List.{[], ◌∷◌}
use Rattle.ints.specs.Within.{Within}
use Rattle.ints.proofs.{ℤ, ◌+ℤ◌, ◌*ℤ◌, ◌-ℤ◌, arith, lin, lin₀, facts}
use Rattle.runs.specs.Run.{Run, InRun, OneForm, full, bound}
use Rattle.runs.specs.Search.{meet, Partner, carry}
use Rattle.runs.specs.Workings.{Equation, CarryLimits}
use Rattle.runs.proofs.ClassOfRun.{in_span}
use Rattle.runs.proofs.ClassInInterval.{full_form}
use Rattle.runs.proofs.Intervals.{in_whole}
use Rattle.runs.proofs.Model.{is_met, is_carried}

-- ---- meeting: x is in the meet iff it is in both
pub meet_form : {a b : Run} → OneForm a → OneForm b → OneForm (meet a b)
meet_form o o' = (is_met o o').form

pub in_meet : {a b : Run} → OneForm a → OneForm b → (x : ℤ) → InRun (meet a b) x ↔ (InRun a x × InRun b x)
in_meet o o' = (is_met o o').all

-- ---- carrying: p is carried iff it is within ±1,000,000,000 and has a partner
module _ {e : Equation} (lim : CarryLimits e) where
  pub carry_form : {q : Run} → OneForm q → OneForm (carry e.a e.b e.c q)
  carry_form o = (is_carried lim o).form

  pub in_carry : {q : Run} → OneForm q → (p : ℤ) → InRun (carry e.a e.b e.c q) p ↔ (Within bound p × Partner e.a e.b e.c q p)
  in_carry o = (is_carried lim o).all

  -- ---- between two runs: the p of one that some q of the other completes
  module _ {P Q : Run} (o : OneForm P) (o' : OneForm Q) where
    abbrev joined : Run
    joined = meet P (carry e.a e.b e.c Q)

    pub joined_form : OneForm joined
    joined_form = meet_form o (carry_form o')

    -- the range that carrying keeps to loses nothing, since P lies in it
    pub in_joined : (p : ℤ) → InRun joined p ↔ (InRun P p × Partner e.a e.b e.c Q p)
    in_joined p = Iff.trans (in_meet o (carry_form o') p) (
      λ k. (k.0, ((in_carry o' p).0 k.1).1),
      λ k. (k.0, (in_carry o' p).1 (o.inside p k.0, k.1)),
    )

-- the equation from the other side
abbrev pub swapped : Equation → Equation
swapped e = record { a = e.b; b = e.a; c = e.c }

pub swapped_limits : {e : Equation} → CarryLimits e → CarryLimits (swapped e)
swapped_limits lim = record { left = lim.right; left_not_zero = lim.right_not_zero; right = lim.left; right_not_zero = lim.left_not_zero; constant = lim.constant }

pub turn_Partner : {a b c : ℤ} {P Q : Run} {p : ℤ} → InRun P p → (k : Partner a b c Q p) → Partner b a c P k.q
turn_Partner {a} {b} {c} {P} {Q} {p} h k = record { q = p; member = h; holds = lin (a ∷ b ∷ c ∷ p ∷ k.q ∷ []) k.holds (search facts depth 20) (omega arith) }

-- back and forth: each p that is joined has its partner among the joined q
pub back_and_forth : {e : Equation} → CarryLimits e → {P Q : Run} → OneForm P → OneForm Q → (p : ℤ) →
    InRun (meet P (carry e.a e.b e.c Q)) p →
    (q : ℤ) × InRun (meet Q (carry e.b e.a e.c P)) q × (e.a *ℤ p +ℤ e.b *ℤ q ≡ e.c)
back_and_forth {e} lim {P} {Q} o o' p h =
    let (m, k) = (in_joined lim o o' p).0 h in
    (k.q, (in_joined (swapped_limits lim) o' o k.q).1 (k.member, turn_Partner {P = P} m k), k.holds)

-- ---- the full range
pub in_full : (x : ℤ) → InRun full x ↔ Within bound x
in_full x = Iff.trans (in_span full_form (omega arith) x) (λ k. (in_whole x).1 k.1, λ w. (record { factor = x -ℤ full.first; exact = lin₀ (x ∷ []) (search facts depth 20) (omega arith) }, (in_whole x).0 w))
