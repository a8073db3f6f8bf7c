-- `Factor::of_size` meets its contract: the loop's invariant is `Turn`, of the numbers that the locals' bits stand for.
use mathlib.Core.Path.{◌≡◌}
use mathlib.Core.Logic.{◌↔◌}
use Prim.Native.Nat.{ℕ, ◌+◌}
use mir.Syntax.{w64}
use mir.Val.{SFits, of_z}
use mir.Facts.{to_z-of_z, sfits_lit}
use Rattle.ints.proofs.{ℤ, pos, ◌-ℤ◌, ◌*ℤ◌, ◌≤ℤ◌, ◌<ℤ◌, quot_z, rem_z, [], ◌∷◌, arith, lin, ◌&◌, signed}
use Rattle.ints.proofs.Signed.{held, bits_equal}
use Rattle.ints.proofs.Truncated.{Within-quot, Within-rem}
use Rattle.euclid.proofs.Euclid.{product_range, s2_range}
use Rattle.euclid.proofs.Turns.{Turn, first, at_zero, at_one, again}
use Rattle.euclid.proofs.Factor.of_size.Goals.{At-turns}
use Rattle.euclid.proofs.Factor.of_size.Goals as goal

-- ---- a turn, of numbers: each result fits, and the tests on bits say what is left
module _ {a b r0 r1 s0 s1 : ℤ} {made : ℕ} (t : Turn a b r0 r1 s0 s1 made) (most : b ≤ℤ pos 2000000000) where
  abbrev q : ℤ
  q = quot_z r0 r1

  abbrev r2 : ℤ
  r2 = rem_z r0 r1

  fits_q : SFits w64 q
  fits_q = lin (q ∷ []) (Within-quot r1 t.inv.high0) (search signed depth 20) (omega arith)

  fits_r : SFits w64 r2
  fits_r = lin (r2 ∷ []) (Within-rem r1 t.inv.high0) (search signed depth 20) (omega arith)

  fits_p : SFits w64 (q *ℤ s1)
  fits_p = lin (q ∷ s1 ∷ b ∷ []) (product_range t.inv t.some & most) (search signed depth 20) (omega arith)

  fits_s : SFits w64 (s0 -ℤ q *ℤ s1)
  fits_s = lin (q ∷ s0 ∷ s1 ∷ b ∷ []) (s2_range t.inv t.some & most) (search signed depth 20) (omega arith)

  product : SFits w64 (held q *ℤ s1)
  product = rw (to_z-of_z fits_q) fits_p

  difference : SFits w64 (s0 -ℤ held (held q *ℤ s1))
  difference = rw (to_z-of_z fits_q, to_z-of_z fits_p) fits_s

  is_zero : (of_z w64 r2 ≡ 0) ↔ (r2 ≡ pos 0)
  is_zero = bits_equal w64 r2 (pos 0) fits_r (sfits_lit tt)

  is_one : (of_z w64 r2 ≡ 1) ↔ (r2 ≡ pos 1)
  is_one = bits_equal w64 r2 (pos 1) fits_r (sfits_lit tt)

  goes_on : ¬ (of_z w64 r2 ≡ 0) → ¬ (of_z w64 r2 ≡ 1) → Turn a b r1 (held r2) s1 (held (s0 -ℤ held (held q *ℤ s1))) (made + 1)
  goes_on not-0 not-1 = rw (to_z-of_z fits_q, to_z-of_z fits_r, to_z-of_z fits_p, to_z-of_z fits_s) (again t (λ z. not-0 (is_zero.1 z)) (λ z. not-1 (is_one.1 z)))

-- the arguments, as the locals hold them
module _ (c : At-turns) where
  above : pos 0 <ℤ held c.args.b
  above = rw (to_z-of_z c.ranges.b) c.requires.second_above

  most : held c.args.b ≤ℤ pos 2000000000
  most = rw (to_z-of_z c.ranges.b) c.requires.second_small

pub turns-init : goal.turns-init
turns-init c = rw (to_z-of_z c.ranges.a, to_z-of_z c.ranges.b) (first c.args.a c.args.b c.requires.not_negative c.requires.first c.requires.second_above c.requires.second_small)

pub overflow_mul-s2 : goal.overflow_mul-s2
overflow_mul-s2 c = product c.turns.invariant (most c)

pub overflow_sub-s2 : goal.overflow_sub-s2
overflow_sub-s2 c = difference c.turns.invariant (most c)

pub returns-then-r2-eq1 : goal.returns-then-r2-eq1
returns-then-r2-eq1 c = let k = (goal.at.returns-then-r2-eq1 c).At-turns in
    let t = c.turns.invariant in
    let end = at_one t (above k) ((is_one t (most k)).0 c.if-r2-eq1.true) in
    rw (c.new.ensures, to_z-of_z (fits_r t (most k)), to_z-of_z (fits_q t (most k)), to_z-of_z (fits_p t (most k)), to_z-of_z (fits_s t (most k))) (let both = (rw (to_z-of_z c.ranges.a, to_z-of_z c.ranges.b) at end) in record { factor = both.0; divisions = both.1 })

pub returns-then-r2-eq0 : goal.returns-then-r2-eq0
returns-then-r2-eq0 c = let k = (goal.at.returns-then-r2-eq0 c).At-turns in
    let end = at_zero c.turns.invariant (above k) ((is_zero c.turns.invariant (most k)).0 c.if-r2-eq0.true) in
    rw c.new-then-r2-eq0.ensures (let both = (rw (to_z-of_z c.ranges.a, to_z-of_z c.ranges.b) at end) in record { factor = both.0; divisions = both.1 })

pub turns-preserved : goal.turns-preserved
turns-preserved c = goes_on c.turns.invariant (most (goal.at.turns-preserved c).At-turns) c.if-r2-eq0.false c.if-r2-eq1.false
