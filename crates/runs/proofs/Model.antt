-- `meet_model` and `carry_model` of the model are the definitions' `meet` and `carry` at runs in their one form.
use mathlib.Core.Path.{◌≡◌, refl, sym, subst}
use mathlib.Core.Bool.{Bool, true, false, cond}
use mathlib.Core.List.{[], ◌∷◌}
use Prim.Native.Nat.{ℕ, zero, suc, ◌/◌, ◌%◌, ◌≤◌}
use native.Mathlib.Nat.{mod-lt, zero-lt-suc}
use lib.Dec.{eqb}
use borrow.Author.Tests.{eqb-true, eqb-false}
use Rattle.ints.specs.Within.{Within}
use Rattle.ints.specs.Floor.{floor_div, floor_mod}
use Rattle.ints.proofs.{ℤ, pos, negsuc, neg_ℤ, nat_abs, ◌-ℤ◌, ◌*ℤ◌, ◌≤ℤ◌, ◌<ℤ◌, lt_z, arith, lin, lin₀, facts}
use Rattle.ints.proofs.Order.{nat_nonneg, abs_nonneg}
use Rattle.euclid.specs.Factor.{IsFactor}
use Rattle.euclid.proofs.Euclid.{Inv, start, step, done, turned}
use Rattle.std.specs.Prelude.{Some, None}
use Rattle.runs.specs.Run.{Run, OneForm, empty}
use Rattle.runs.specs.Search.{meet, carry}
use Rattle.runs.specs.Workings.{Equation, CarryLimits}
use Rattle.runs.specs.Model.{Factors, extended, factors, solved, meet_model, carry_model}
use Rattle.runs.specs.Method.{Carriable, Congruence, InReach, Solves, places_in, meet_by, places_with_partner, carry_by, upright}
use Rattle.runs.proofs.CongruenceSolutions.{nothing, no_rest, every}
use Rattle.runs.proofs.MeetMethod.{IsMeet, is_meet, met, empty_left, empty_right, places_in_reach}
use Rattle.runs.proofs.CarryMembers.{IsCarry, is_carry, empty_carried}
use Rattle.runs.proofs.CarryMethod.{carried, places_reach, upright-Carriable, upright-IsCarry}

-- ---- the greatest common divisor with a cofactor
module _ {a b : ℤ} (above : pos 0 <ℤ b) where
  extended_is : (turns r0 r1 : ℕ) (s0 s1 : ℤ) → r1 ≤ turns → Inv a b (pos r0) (pos r1) s0 s1 →
      IsFactor a b (extended turns r0 r1 s0 s1).gcd (extended turns r0 r1 s0 s1).cofactor
  unfolding extended
  extended_is zero r0 r1 s0 s1 h i = done i above (lin (pos r1 ∷ []) h (search facts depth 20) (omega arith))
  extended_is (suc turns) r0 zero s0 s1 h i = done i above (nat_nonneg 0)
  extended_is (suc turns) r0 (suc r1) s0 s1 h i =
      extended_is turns (suc r1) (r0 % suc r1) s1 (s0 -ℤ pos (r0 / suc r1) *ℤ s1) (omega (arith, mod-lt r0 (zero-lt-suc r1)))
      (step i (lin (pos (suc r1) ∷ []) (zero-lt-suc r1) (search facts depth 20) (omega arith)))

opposite : (x : ℤ) → pos 0 -ℤ x ≡ neg_ℤ x
opposite x = lin₀ (x ∷ []) (search facts depth 20) (omega arith)

factors_are : (a : ℤ) (b : ℕ) → Within 1000000000000000000 a → pos 0 <ℤ pos b → pos b ≤ℤ pos 2000000000 → IsFactor a (pos b) (factors a b).gcd (factors a b).cofactor
unfolding factors
factors_are (pos a) b w above most = extended_is above b a b (pos 1) (pos 0) (omega arith) (start (pos a) (pos b) (nat_nonneg a) w above most)
factors_are (negsuc a) b w above most =
    let size : Within 1000000000000000000 (pos (suc a)) = record { size = w.size } in
    let f : IsFactor (pos (suc a)) (pos b) (extended b (suc a) b (pos 1) (pos 0)).gcd (extended b (suc a) b (pos 1) (pos 0)).cofactor =
    extended_is above b (suc a) b (pos 1) (pos 0) (omega arith) (start (pos (suc a)) (pos b) (nat_nonneg (suc a)) size above most) in
    turned (subst (λ n. IsFactor n (pos b) (extended b (suc a) b (pos 1) (pos 0)).gcd (extended b (suc a) b (pos 1) (pos 0)).cofactor) (sym (opposite (negsuc a))) f)

-- ---- u·i ≡ v (mod d)
solved_is : (s : Congruence) → InReach s.u s.v s.d → Solves s (solved s)
unfolding solved
solved_is s h = go (lt_z (pos 0) (floor_mod s.v f.gcd)) refl
  where
    f : Factors
    f = factors s.u (nat_abs s.d)

    size : s.d ≡ pos (nat_abs s.d)
    size = abs_nonneg s.d (lin (s.d ∷ []) h.above (search facts depth 20) (omega arith))

    is : IsFactor s.u s.d f.gcd f.cofactor
    is = subst (λ d. IsFactor s.u d f.gcd f.cofactor) (sym size) (factors_are s.u (nat_abs s.d) h.factor (subst (λ d. pos 0 <ℤ d) size h.above) (subst (λ d. d ≤ℤ pos 2000000000) size h.modulus))

    go : (t : Bool) → lt_z (pos 0) (floor_mod s.v f.gcd) ≡ t → Solves s (cond t None (Some record { first = floor_mod (floor_mod f.cofactor (floor_div s.d f.gcd) *ℤ floor_mod (floor_div s.v f.gcd) (floor_div s.d f.gcd)) (floor_div s.d f.gcd); step = floor_div s.d f.gcd }))
    go true t = nothing is h.above s.v (lin (floor_mod s.v f.gcd ∷ []) t (search facts depth 20) (omega arith))
    go false t = every is h.above s.v (no_rest is h.above s.v (lin (floor_mod s.v f.gcd ∷ []) t (search facts depth 20) (omega arith)))

-- ---- the workings
some : {n : ℕ} → eqb n 0 ≡ false → 1 ≤ n
some {n} t = let z : n ≡ 0 → ⊥ = eqb-false n 0 t in omega arith

-- they have the numbers that are searched for
meets : {a b : Run} → OneForm a → OneForm b → IsMeet a b (meet_model a b)
unfolding meet_model
meets {a} {b} o o' = left (eqb a.many 0) refl
  where
    right : 1 ≤ a.many → (t : Bool) → eqb b.many 0 ≡ t → IsMeet a b (cond t empty (meet_by (solved (places_in a b)) a b))
    right h true t = empty_right a (eqb-true b.many 0 t)
    right h false t = met o o' h (some t) (solved (places_in a b)) (solved_is (places_in a b) (places_in_reach o o' h (some t)))

    left : (t : Bool) → eqb a.many 0 ≡ t → IsMeet a b (cond t empty (cond (eqb b.many 0) empty (meet_by (solved (places_in a b)) a b)))
    left true t = empty_left b (eqb-true a.many 0 t)
    left false t = right (some t) (eqb b.many 0) refl

carries : {e : Equation} {q : Run} → CarryLimits e → OneForm q → IsCarry e.a e.b e.c q (carry_model e q)
unfolding carry_model
carries {e} {q} lim o = go (eqb q.many 0) refl
  where
    go : (t : Bool) → eqb q.many 0 ≡ t → IsCarry e.a e.b e.c q (cond t empty (carry_by (solved (places_with_partner (upright e) q)) (upright e) q))
    go true t = empty_carried e.a e.b e.c (eqb-true q.many 0 t)
    go false t =
        let k : Carriable (upright e) q = upright-Carriable lim o (some t) in
        upright-IsCarry e (carried k (solved (places_with_partner (upright e) q)) (solved_is (places_with_partner (upright e) q) (places_reach k)))

-- so they are the definitions
pub meet_model_lem : {a b : Run} → OneForm a → OneForm b → meet_model a b ≡ meet a b
meet_model_lem o o' = is_meet o (meets o o')

pub carry_model_lem : {e : Equation} {q : Run} → CarryLimits e → OneForm q → carry_model e q ≡ carry e.a e.b e.c q
carry_model_lem lim o = is_carry (carries lim o)

-- and the definitions have the numbers that they search for
pub is_met : {a b : Run} → OneForm a → OneForm b → IsMeet a b (meet a b)
is_met {a} {b} o o' = subst (IsMeet a b) (meet_model_lem o o') (meets o o')

pub is_carried : {e : Equation} {q : Run} → CarryLimits e → OneForm q → IsCarry e.a e.b e.c q (carry e.a e.b e.c q)
is_carried {e} {q} lim o = subst (IsCarry e.a e.b e.c q) (carry_model_lem lim o) (carries lim o)
