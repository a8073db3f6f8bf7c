-- The solutions of u·i ≡ v (mod d), from the greatest common divisor g of u and d with its cofactor x.
use mathlib.Core.Path.{◌≡◌, sym}
use mathlib.Core.Logic.{◌≢◌}
use Rattle.ints.specs.Within.{Within}
use Rattle.ints.specs.Floor.{floor_div, floor_mod}
use Rattle.ints.specs.Divides.{◌∣ℤ◌, Congruent}
use Rattle.ints.specs.Division.{DivisionLimits, limit}
use Rattle.ints.proofs.{ℤ, pos, neg_ℤ, ◌*ℤ◌, ◌≤ℤ◌, ◌<ℤ◌, [], ◌∷◌, arith, lin, lin₀, ◌&◌, facts}
use Rattle.ints.proofs.Order.{le_trans, lt_ne}
use Rattle.ints.proofs.Products.{cancel_lt}
use Rattle.ints.proofs.Floor.{mod_range}
use Rattle.ints.proofs.Divides.{divides-add, divides-mul, divides_by, floor_exact, divides_iff, mod-Congruent, divisor_range}
use Rattle.ints.proofs.Gcd.{Bezout}
use Rattle.ints.proofs.Congruence.{solvable, solution, one_class}
use Rattle.euclid.specs.Factor.{IsFactor}
use Rattle.runs.specs.Method.{InReach, Congruence, AllSolutions}
use Rattle.euclid.proofs.Euclid.{gcd_range}

-- x·y ≡ x'·y', where x ≡ x' and y ≡ y'
Congruent-mul : {d : ℤ} (x x' y y' : ℤ) → Congruent d x x' → Congruent d y y' → Congruent d (x *ℤ y) (x' *ℤ y')
Congruent-mul x x' y y' h k =
    divides_by (lin₀ (x ∷ x' ∷ y ∷ y' ∷ []) (search facts depth 20) (omega arith)) (divides-add (divides-mul y h) (divides-mul x' k))

-- y ≡ x, where x ≡ z and z ≡ y
Congruent-back : {d : ℤ} (x y z : ℤ) → Congruent d x z → Congruent d z y → Congruent d y x
Congruent-back x y z h k =
    divides_by (lin₀ (x ∷ y ∷ z ∷ []) (search facts depth 20) (omega arith)) (divides-mul (neg_ℤ (pos 1)) (divides-add h k))

-- ---- with the greatest common divisor at hand
module _ {u d g x : ℤ} (f : IsFactor u d g x) (above : pos 0 <ℤ d) where
  g_above : pos 0 <ℤ g
  g_above = (gcd_range f above).0

  g_not_zero : g ≢ pos 0
  g_not_zero e = lt_ne (pos 0) g g_above (sym e)

  abbrev period : ℤ
  period = floor_div d g

  abbrev bezout : Bezout u d g
  bezout = record {
    x = x;
    y = neg_ℤ f.cofactor.factor;
    identity = lin (u ∷ d ∷ g ∷ x ∷ f.cofactor.factor ∷ []) f.cofactor.exact (search facts depth 20) (omega arith);
    left = f.gcd.left;
    right = record { factor = period; exact = sym (floor_exact d g g_not_zero f.gcd.right) };
  }

  pub period_range : (pos 0 <ℤ period) × (period ≤ℤ d)
  period_range =
      let whole : g *ℤ period ≡ d = floor_exact d g g_not_zero f.gcd.right in
      let some : pos 0 <ℤ period = cancel_lt g (pos 0) period g_above (lin (g ∷ d ∷ period ∷ []) (whole & above) (search facts depth 20) (omega arith)) in
      let divides : period ∣ℤ d = record { factor = g; exact = lin (g ∷ d ∷ period ∷ []) whole (search facts depth 20) (omega arith) } in
      divisor_range (lin (period ∷ []) some (search facts depth 20) (omega arith)) divides above

  -- where v leaves a remainder, there is none
  pub nothing : (v : ℤ) → pos 0 <ℤ floor_mod v g → (i : ℤ) → Congruent d (u *ℤ i) v → ⊥
  nothing v some i h = lt_ne (pos 0) (floor_mod v g) some (sym ((divides_iff v g g_not_zero).0 (solvable bezout g_not_zero v i h)))

  -- where it leaves none, g divides v,
  pub no_rest : (v : ℤ) → floor_mod v g ≤ℤ pos 0 → g ∣ℤ v
  no_rest v none =
      (divides_iff v g g_not_zero).1 (lin (floor_mod v g ∷ []) (none & (mod_range v g g_above).0) (search facts depth 20) (omega arith))

  -- and v / g times the cofactor is a solution; the numbers that make it may be reduced modulo the period
  module _ (v : ℤ) (whole : g ∣ℤ v) where
    abbrev share : ℤ
    share = floor_div v g

    abbrev first : ℤ
    first = floor_mod (floor_mod x period *ℤ floor_mod share period) period

    solves : Congruent d (u *ℤ first) v
    solves =
        let exact : g ∣ℤ v = record { factor = share; exact = sym (floor_exact v g g_not_zero whole) } in
        let near : Congruent period first (x *ℤ share) = Congruent-back (x *ℤ share) first (floor_mod x period *ℤ floor_mod share period)
        (Congruent-mul x (floor_mod x period) share (floor_mod share period) (mod-Congruent x period) (mod-Congruent share period))
        (mod-Congruent (floor_mod x period *ℤ floor_mod share period) period) in
        (one_class bezout g_not_zero v (x *ℤ share) first (solution bezout g_not_zero v exact)).1 near

    pub every : AllSolutions record { u = u; v = v; d = d } record { first = first; step = period }
    every = record {
      low = (mod_range (floor_mod x period *ℤ floor_mod share period) period period_range.0).0;
      high = (mod_range (floor_mod x period *ℤ floor_mod share period) period period_range.0).1;
      all = λ i. one_class bezout g_not_zero v first i solves;
    }

  -- the same, from the numbers as a program comes by them
  pub every_by : (v step t w y first : ℤ) → g ∣ℤ v → step ≡ floor_div d g → t ≡ floor_mod x step → w ≡ floor_div v g → y ≡ floor_mod w step →
      first ≡ floor_mod (t *ℤ y) step → AllSolutions record { u = u; v = v; d = d } record { first = first; step = step }
  every_by v step t w y first whole step_is t_is w_is y_is first_is = rw (first_is, t_is, y_is, w_is, step_is) (every v whole)

-- ---- a program's divisions by g stay within their limits
-- a divisor of the size that this crate divides by
pub limits : {n d : ℤ} → Within limit n → pos 0 <ℤ d → d ≤ℤ pos 2000000000 → DivisionLimits n d
limits {n} {d} h above most = record {
  dividend = h;
  divisor = lin (d ∷ []) (above & most) (search facts depth 20) (omega arith);
  not_zero = lin (d ∷ []) above (search facts depth 20) (omega arith);
}

module _ {u v d g x : ℤ} (reach : InReach u v d) (f : IsFactor u d g x) where
  by_g : {n : ℤ} → Within limit n → DivisionLimits n g
  by_g h =
      let (above, most) = gcd_range f reach.above in
      limits h above (le_trans g d (pos 2000000000) most reach.modulus)

  pub limits_value : DivisionLimits v g
  limits_value = by_g (lin (v ∷ []) reach.value (search facts depth 20) (omega arith))

  pub limits_modulus : DivisionLimits d g
  limits_modulus = by_g (lin (d ∷ []) (reach.above & reach.modulus) (search facts depth 20) (omega arith))

-- two congruences with the same numbers are one
pub same_congruence : {s t : Congruence} → s.u ≡ t.u → s.v ≡ t.v → s.d ≡ t.d → s ≡ t
same_congruence a b c = λ i. record { u = a i; v = b i; d = c i }
