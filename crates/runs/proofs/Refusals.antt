-- The tests of the one form and of the limits, and what they say; so a working answers a run just within its limits, and
-- is refused just outside them.
use mathlib.Core.Path.{◌≡◌, refl, sym, ◌∙◌, ap}
use mathlib.Core.Logic.Iff
use mathlib.Core.Logic.{◌↔◌}
use mathlib.Core.Bool.{Bool, true, false, ◌&&◌, and-eq-true_iff}
use mathlib.Core.List.{[], ◌∷◌}
use Prim.Native.Nat.{ℕ, zero, suc, ◌≤◌}
use Rattle.reasons.specs.Answer.{WorkingAnswer, gives, refused, RefusedUnless}
use Rattle.reasons.proofs.Answers.{and_iff, gives_where, refuses_where, refused_unless}
use Rattle.ints.specs.Within.{Within, is_within}
use Rattle.ints.specs.Equal.{is_equal}
use Rattle.ints.proofs.{ℤ, pos, ◌-ℤ◌, ◌*ℤ◌, ◌≤ℤ◌, ◌<ℤ◌, arith, lin, ◌&◌, facts}
use Rattle.ints.proofs.Order.{le_true}
use Rattle.ints.proofs.Equal.{equal_true}
use Rattle.ints.proofs.Within.{Within-true}
use Rattle.euclid.proofs.Coefficient.{Coefficient-iff}
use Rattle.lists.specs.Keep.{every}
use Rattle.lists.proofs.Keep.{every_iff}
use Rattle.runs.specs.Run.{Run, numbers, InRun, OneForm, bound, is_formed, is_one_form}
use Rattle.runs.specs.Search.{meet, carry}
use Rattle.runs.specs.Workings.{Equation, CarryLimits, carry_limits, meeting, carrying}
use Rattle.runs.specs.Method.{span}
use Rattle.ints.specs.Divides.{Congruent}
use Rattle.runs.proofs.Members.{in-numbers, no_place}
use Rattle.runs.proofs.Progressions.{Along-iff, in_Along}

-- ---- tests as truths
pub when : {P : Type 0} {t u : Bool} → (u ≡ true) ↔ P → (t ≡ true) ↔ P → t ≡ u
when {t = true} {u = true} h k = refl
when {t = true} {u = false} h k = sym (h.1 (k.0 refl))
when {t = false} {u = true} h k = k.1 (h.0 refl)
when {t = false} {u = false} h k = refl

-- ---- the one form
-- as far as the three numbers say
record Formed (f s : ℤ) (n : ℕ) : Type 0 where
  empty : n ≡ 0 → (f ≡ pos 0) × (s ≡ pos 0)
  one : n ≡ 1 → s ≡ pos 0
  rises : 2 ≤ n → pos 1 ≤ℤ s

Formed-iff : (f s : ℤ) (n : ℕ) → (is_formed f s n ≡ true) ↔ Formed f s n
Formed-iff f s zero = Iff.trans (and-eq-true_iff (is_equal f (pos 0)) (is_equal s (pos 0))) (
  λ p. record { empty = λ e. ((equal_true f (pos 0)).0 p.0, (equal_true s (pos 0)).0 p.1); one = λ e. absurd (omega arith); rises = λ h. absurd (omega arith) },
  λ k. ((equal_true f (pos 0)).1 (k.empty refl).0, (equal_true s (pos 0)).1 (k.empty refl).1),
)
Formed-iff f s (suc zero) = Iff.trans (equal_true s (pos 0)) (
  λ e. record { empty = λ z. absurd (omega arith); one = λ z. e; rises = λ h. absurd (omega arith) },
  λ k. k.one refl,
)
Formed-iff f s (suc (suc n)) = Iff.trans (le_true (pos 1) s) (
  λ h. record { empty = λ z. absurd (omega arith); one = λ z. absurd (omega arith); rises = λ z. h },
  λ k. k.rises (omega arith),
)

all_Within : (r : Run) → (every (is_within bound) (numbers r) ≡ true) ↔ ((x : ℤ) → InRun r x → Within bound x)
all_Within r = Iff.trans (every_iff (is_within bound) (numbers r)) (
  λ f x h. (Within-true bound x).0 (f x ((in-numbers r x).1 h)),
  λ f x h. (Within-true bound x).1 (f x ((in-numbers r x).0 h)),
)

pub OneForm-iff : (r : Run) → (is_one_form r ≡ true) ↔ OneForm r
OneForm-iff r = Iff.trans (and-eq-true_iff (is_formed r.first r.step r.many) (every (is_within bound) (numbers r))) (to, from)
  where
    to : (is_formed r.first r.step r.many ≡ true) × (every (is_within bound) (numbers r) ≡ true) → OneForm r
    to (f, w) =
        let k : Formed r.first r.step r.many = (Formed-iff r.first r.step r.many).0 f in
        record { empty = k.empty; one = k.one; rises = k.rises; inside = (all_Within r).0 w }

    from : OneForm r → (is_formed r.first r.step r.many ≡ true) × (every (is_within bound) (numbers r) ≡ true)
    from o = ((Formed-iff r.first r.step r.many).1 record { empty = o.empty; one = o.one; rises = o.rises }, (all_Within r).1 o.inside)

-- as a program tests it. Two numbers or more: the step, and the two ends
pub rising_form : (r : Run) → 2 ≤ r.many → pos 1 ≤ℤ r.step → Within bound r.first → Within bound (span r).high → OneForm r
rising_form r h up a b = record {
  empty = λ e. absurd (omega (arith, h, e));
  one = λ e. absurd (omega (arith, h, e));
  rises = λ k. up;
  inside = λ x k. within x ((Along-iff r.first r.step (pos r.many -ℤ pos 1) x above).0 ((in_Along r x).0 k));
}
  where
    above : pos 0 <ℤ r.step
    above = lin (r.step ∷ []) up (search facts depth 20) (omega arith)

    within : (x : ℤ) → Congruent r.step x r.first × (r.first ≤ℤ x) × (x ≤ℤ (span r).high) → Within bound x
    within x (c, l, u) = lin (r.first ∷ x ∷ (span r).high ∷ []) (a & b & l & u) (search facts depth 20) (omega arith)

-- one number
pub single_form : (r : Run) → r.many ≡ 1 → r.step ≡ pos 0 → Within bound r.first → OneForm r
single_form r z e w = record {
  empty = λ k. absurd (omega (arith, z, k));
  one = λ k. e;
  rises = λ k. absurd (omega (arith, z, k));
  inside = λ x k. alone x k;
}
  where
    alone : (x : ℤ) → InRun r x → Within bound x
    alone x k =
        let is : x ≡ r.first = k.is ∙ lin (r.first ∷ r.step ∷ pos k.place ∷ []) (ap (λ t. t *ℤ pos k.place) e) (search facts depth 20) (omega arith) in
        rw is w

-- none
pub none_form : (r : Run) → r.many ≡ 0 → r.first ≡ pos 0 → r.step ≡ pos 0 → OneForm r
none_form r z a b = record {
  empty = λ k. (a, b);
  one = λ k. b;
  rises = λ k. absurd (omega (arith, z, k));
  inside = λ x k. absurd (no_place z k);
}

-- ---- the limits of carrying
pub in_limits_iff : (e : Equation) → (carry_limits e ≡ true) ↔ CarryLimits e
in_limits_iff e = Iff.trans (and_iff (Coefficient-iff e.a) (and_iff (Coefficient-iff e.b) (Within-true 2000000000000000 e.c))) (
  λ p. record { left = p.0.size; left_not_zero = p.0.not_zero; right = p.1.0.size; right_not_zero = p.1.0.not_zero; constant = p.1.1 },
  λ k. (record { size = k.left; not_zero = k.left_not_zero }, (record { size = k.right; not_zero = k.right_not_zero }, k.constant)),
)

-- ---- the answers
pub both_formed_iff : (a b : Run) → (is_one_form a && is_one_form b ≡ true) ↔ (OneForm a × OneForm b)
both_formed_iff a b = and_iff (OneForm-iff a) (OneForm-iff b)

pub carriable_iff : (e : Equation) (q : Run) → (carry_limits e && is_one_form q ≡ true) ↔ (CarryLimits e × OneForm q)
carriable_iff e q = and_iff (in_limits_iff e) (OneForm-iff q)

pub meeting_gives : {a b : Run} → OneForm a → OneForm b → meeting a b ≡ gives (meet a b)
meeting_gives {a} {b} o o' = gives_where (both_formed_iff a b) (meet a b) (o, o')

pub meeting_refuses : (a b : Run) → ¬ (OneForm a × OneForm b) → meeting a b ≡ refused 9 0
meeting_refuses a b = refuses_where (both_formed_iff a b) (meet a b)

pub carrying_gives : {e : Equation} {q : Run} → CarryLimits e → OneForm q → carrying e q ≡ gives (carry e.a e.b e.c q)
carrying_gives {e} {q} k o = gives_where (carriable_iff e q) (carry e.a e.b e.c q) (k, o)

pub carrying_refuses : (e : Equation) (q : Run) → ¬ (CarryLimits e × OneForm q) → carrying e q ≡ refused 9 0
carrying_refuses e q = refuses_where (carriable_iff e q) (carry e.a e.b e.c q)

-- the same in one: refused exactly when the arguments are not lawful
pub meeting_unless : {a b : Run} {x : WorkingAnswer Run} → x ≡ meeting a b → RefusedUnless (OneForm a × OneForm b) x
meeting_unless {a} {b} = refused_unless (both_formed_iff a b) (meet a b)

pub carrying_unless : {e : Equation} {q : Run} {x : WorkingAnswer Run} → x ≡ carrying e q → RefusedUnless (CarryLimits e × OneForm q) x
carrying_unless {e} {q} = refused_unless (carriable_iff e q) (carry e.a e.b e.c q)
