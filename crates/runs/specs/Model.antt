-- The model: meeting and carrying as functions that compute, however long the runs are. Nothing here has to be believed:
-- proofs/Model.antt shows that at runs in their one form `meet_model` and `carry_model` are the definitions' `meet` and
-- `carry`; so a meet of two thousand million numbers is worked out.
use Rattle.std.specs.Prelude.{cond, ℕ, zero, suc, ◌/◌, ◌%◌, eqb, ℤ, pos, negsuc, nat_abs, ◌-ℤ◌, ◌*ℤ◌}
use Rattle.std.specs.Int.Signed.{lt_z}
use Rattle.ints.specs.Floor.{floor_div, floor_mod}
use Rattle.std.specs.Prelude.{Option, Some, None}
use Rattle.runs.specs.Run.{Run, empty}
use Rattle.runs.specs.Workings.{Equation}
use Rattle.runs.specs.Method.{Class, Congruence, places_in, meet_by, places_with_partner, carry_by, upright}

-- ---- the greatest common divisor with a cofactor: the extended Euclidean algorithm, down to 0
pub record Factors : Type 0 where
  pub gcd : ℤ
  pub cofactor : ℤ

-- r1 turns are enough
unfoldable pub extended : ℕ → ℕ → ℕ → ℤ → ℤ → Factors
extended zero r0 r1 s0 s1 = record { gcd = pos r0; cofactor = s0 }
extended (suc turns) r0 zero s0 s1 = record { gcd = pos r0; cofactor = s0 }
extended (suc turns) r0 (suc r1) s0 s1 = extended turns (suc r1) (r0 % suc r1) s1 (s0 -ℤ pos (r0 / suc r1) *ℤ s1)

-- of either sign
unfoldable pub factors : ℤ → ℕ → Factors
unfolding extended
factors (pos a) b = extended b a b (pos 1) (pos 0)
factors (negsuc a) b = let f = extended b (suc a) b (pos 1) (pos 0) in record { gcd = f.gcd; cofactor = pos 0 -ℤ f.cofactor }

-- ---- u·i ≡ v (mod d)
unfoldable pub solved : Congruence → Option Class
unfolding factors
solved s =
    let f = factors s.u (nat_abs s.d) in
    let period = floor_div s.d f.gcd in
    cond (lt_z (pos 0) (floor_mod s.v f.gcd)) None
    (Some record { first = floor_mod (floor_mod f.cofactor period *ℤ floor_mod (floor_div s.v f.gcd) period) period; step = period })

-- ---- the workings
unfoldable pub meet_model : Run → Run → Run
unfolding solved floor_div floor_mod
meet_model a b = cond (eqb a.many 0) empty (cond (eqb b.many 0) empty (meet_by (solved (places_in a b)) a b))

unfoldable pub carry_model : Equation → Run → Run
unfolding solved floor_div floor_mod
carry_model e q = cond (eqb q.many 0) empty (carry_by (solved (places_with_partner (upright e) q)) (upright e) q)
