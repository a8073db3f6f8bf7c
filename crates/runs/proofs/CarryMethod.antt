-- Carrying by the method: `carry_by` is the run of all p within ±1,000,000,000 that have a partner, for an equation with a
-- above 0; and any equation is made one.
use mathlib.Core.Path.{◌≡◌, refl, ap, subst}
use mathlib.Core.Logic.Iff
use mathlib.Core.Logic.{◌↔◌, ◌≢◌}
use mathlib.Core.Bool.{Bool, true, false, cond}
use mathlib.Core.List.{List, [], ◌∷◌}
use Prim.Native.Nat.{◌≤◌}
use lib.Signed.{≤ℤ_refl}
use Rattle.ints.specs.Within.{Within}
use Rattle.ints.specs.Floor.{floor_div}
use Rattle.ints.specs.Division.{limit}
use Rattle.ints.specs.Divides.{Congruent}
use Rattle.ints.proofs.{ℤ, pos, negsuc, neg_ℤ, nat_abs, ◌+ℤ◌, ◌-ℤ◌, ◌*ℤ◌, ◌≤ℤ◌, ◌<ℤ◌, lt_z, arith, lin, lin₀, ◌&◌, facts, prod, Within-mul}
use Rattle.ints.proofs.Order.{nat_nonneg}
use Rattle.ints.proofs.Products.{mul-le_iff}
use Rattle.ints.proofs.Floor.{floor_iff, floor_range, floor-Within}
use Rattle.std.specs.Prelude.{Option, Some, None}
use Rattle.runs.specs.Run.{Run, InRun, OneForm, empty, bound}
use Rattle.runs.specs.Search.{Partner}
use Rattle.runs.specs.Workings.{Equation, CarryLimits}
use Rattle.runs.specs.Method.{Carriable, Class, Countable, Places, InReach, AllSolutions, Solves, stride, counted_run, partner_value, places_with_partner, numbers_at, partners, last_place, more_in, falls, rising, carry_by, upright}
use Rattle.runs.proofs.Members.{empty_form, not_in_empty}
use Rattle.runs.proofs.Progressions.{Along}
use Rattle.runs.proofs.ClassOfRun.{in_places, first-Within, sizes, stride_small}
use Rattle.runs.proofs.Intervals.{either}
use Rattle.runs.proofs.CountedClass.{counted_run_form, counted_run_iff}
use Rattle.runs.proofs.CarryWidths.{value_Within}
use Rattle.runs.proofs.SolutionPeriod.{period_above, not_before, period_within}
use Rattle.runs.proofs.CarryMembers.{IsCarry}
use Rattle.runs.proofs.PartnerClass.{b_sign, G_above, T_above, partner_at}

module _ {e : Equation} {q : Run} (k : Carriable e q) where
  abbrev P : ℤ → Type 0
  P p = Partner e.a e.b e.c q p

  -- the place of a partner
  place : {p : ℤ} (y : P p) → Along q.first (stride q) (last_place q) y.q
  place y = (in_places k.form k.some y.q).0 y.member

  -- it solves the congruence
  solves : {p : ℤ} (y : P p) → Congruent e.a (e.b *ℤ stride q *ℤ (place y).k) (partner_value e q.first)
  solves {p} y = record {
    factor = neg_ℤ p;
    exact = lin (e.a ∷ e.b ∷ e.c ∷ q.first ∷ stride q ∷ p ∷ y.q ∷ (place y).k ∷ []) (y.holds & ap (λ x. e.b *ℤ x) (place y).is) (search facts depth 20) (omega arith);
  }

  -- how large |b|·stride is
  pub product_small : Within 2000000000000000 (pos (nat_abs e.b) *ℤ stride q)
  product_small = let w : Within 1000000 (pos (nat_abs e.b)) = record { size = k.limits.right.size } in Within-mul w (stride_small k.form k.some)

  none : ((i : ℤ) → Congruent e.a (e.b *ℤ stride q *ℤ i) (e.c -ℤ e.b *ℤ q.first) → ⊥) → IsCarry e.a e.b e.c q empty
  none n = record { form = empty_form; all = λ p. (λ m. not_in_empty m, λ m. absurd (n (place m.1).k (solves m.1))) }

  module _ {j : Class} (E : AllSolutions (places_with_partner e q) j) where
    pub carry_places : Places j
    carry_places = record {
      low = E.low;
      high = E.high;
      small = lin (j.step ∷ e.a ∷ []) (period_within E k.above & k.limits.left) (search facts depth 20) (omega arith);
    }

    -- a divided by the period
    pub parts_above : pos 0 <ℤ floor_div e.a j.step
    parts_above = G_above k E

    -- a partner is some periods after the first place
    after : {p : ℤ} (y : P p) → Congruent j.step (place y).k j.first
    after y = (E.all (place y).k).0 (solves y)

    not_first : {p : ℤ} (y : P p) → j.first ≤ℤ (place y).k
    not_first y = not_before E (place y).k (place y).low (after y)

    -- the first place is past the last
    past : last_place q <ℤ j.first → {p : ℤ} → P p → ⊥
    past l y = lin (pos q.many ∷ j.first ∷ (place y).k ∷ []) (l & not_first y & (place y).high) (search facts depth 20) (omega arith)

    -- otherwise it is one of the run's
    module _ (l : j.first ≤ℤ last_place q) where
      abbrev n : ℤ
      n = more_in q j

      abbrev ps : Class
      ps = partners e q j

      abbrev ρ : List ℤ
      ρ = pos q.many ∷ j.first ∷ j.step ∷ n ∷ []

      pub last_places : Within 2000000000 (last_place q -ℤ j.first)
      last_places = lin ρ (l & E.low & (sizes k.form k.some).many) (search facts depth 20) (omega arith)

      pub more_low : pos 0 ≤ℤ n
      more_low = (floor_iff (last_place q -ℤ j.first) j.step (pos 0) (period_above E)).0 (lin ρ l (search facts depth 20) (omega arith))

      pub more_high : n ≤ℤ pos 2000000000
      more_high =
          let one : pos 1 ≤ℤ j.step = lin ρ (period_above E) (search facts depth 20) (omega arith) in
          lin ρ (prod one more_low & (floor_range (last_place q -ℤ j.first) j.step (period_above E)).0 & last_places) (search facts depth 20) (omega arith)

      -- the number that is m periods after the first place, and its partner
      abbrev number : ℤ → ℤ
      number m = q.first +ℤ stride q *ℤ (j.first +ℤ j.step *ℤ m)

      abbrev partner : ℤ → ℤ
      partner m = ps.first -ℤ (b_sign k E).σ *ℤ (ps.step *ℤ m)

      in_run : (m : ℤ) → pos 0 ≤ℤ m → m ≤ℤ n → InRun q (number m)
      in_run m a b = (in_places k.form k.some (number m)).1 record {
        k = j.first +ℤ j.step *ℤ m;
        low = lin (j.first ∷ j.step ∷ m ∷ []) (E.low & prod period a) (search facts depth 20) (omega arith);
        high = lin (m ∷ ρ) ((floor_iff (last_place q -ℤ j.first) j.step m (period_above E)).1 b) (search facts depth 20) (omega arith);
        is = refl;
      }
        where
          period : pos 0 ≤ℤ j.step
          period = lin ρ (period_above E) (search facts depth 20) (omega arith)

      pub start_Within : Within bound (numbers_at q j).first
      start_Within = subst (Within bound) (lin₀ (q.first ∷ stride q ∷ j.first ∷ j.step ∷ []) (search facts depth 20) (omega arith)) (k.form.inside (number (pos 0)) (in_run (pos 0) (nat_nonneg 0) more_low))

      -- no partner is larger in size than a·p
      partner-Within : (m : ℤ) → pos 0 ≤ℤ m → m ≤ℤ n → Within 3000000000000000 (partner m)
      partner-Within m a b = small e.a (partner m) k.above (lin (e.a ∷ e.b ∷ e.c ∷ number m ∷ partner m ∷ [])
          ((partner_at k E (partner m) m).1 refl & value_Within k.limits (k.form.inside (number m) (in_run m a b))) (search facts depth 20) (omega arith))
        where
          small : (a x : ℤ) → pos 0 <ℤ a → Within 3000000000000000 (a *ℤ x) → Within 3000000000000000 x
          small a x h w = lin (x ∷ []) (up & down) (search facts depth 20) (omega arith)
            where
              up : x ≤ℤ pos 3000000000000000
              up = (mul-le_iff a x (pos 3000000000000000) h).1 (lin (a ∷ x ∷ []) (h & w) (search facts depth 20) (omega arith))

              down : neg_ℤ (pos 3000000000000000) ≤ℤ x
              down = (mul-le_iff a (neg_ℤ (pos 3000000000000000)) x h).1 (lin (a ∷ x ∷ []) (h & w) (search facts depth 20) (omega arith))

      -- just these p have a partner
      partnered : (p : ℤ) → P p ↔ ((m : ℤ) × (pos 0 ≤ℤ m) × (m ≤ℤ n) × (p ≡ partner m))
      partnered p = (to, from)
        where
          to : P p → (m : ℤ) × (pos 0 ≤ℤ m) × (m ≤ℤ n) × (p ≡ partner m)
          to y = (m, low, high, (partner_at k E p m).0 holds)
            where
              m : ℤ
              m = (after y).factor

              low : pos 0 ≤ℤ m
              low = (mul-le_iff j.step (pos 0) m (period_above E)).1 (lin ((place y).k ∷ m ∷ ρ) ((after y).exact & not_first y) (search facts depth 20) (omega arith))

              high : m ≤ℤ n
              high = (floor_iff (last_place q -ℤ j.first) j.step m (period_above E)).0 (lin ((place y).k ∷ m ∷ ρ) ((after y).exact & (place y).high) (search facts depth 20) (omega arith))

              holds : e.a *ℤ p +ℤ e.b *ℤ number m ≡ e.c
              holds = lin (e.a ∷ e.b ∷ e.c ∷ p ∷ q.first ∷ stride q ∷ y.q ∷ (place y).k ∷ m ∷ j.first ∷ j.step ∷ [])
                  (y.holds & ap (λ x. e.b *ℤ x) (place y).is & ap (λ x. e.b *ℤ (stride q *ℤ x)) (after y).exact) (search facts depth 20 fits 5000) (omega arith)

          from : (m : ℤ) × (pos 0 ≤ℤ m) × (m ≤ℤ n) × (p ≡ partner m) → P p
          from (m, a, b, is) = record { q = number m; member = in_run m a b; holds = (partner_at k E p m).1 is }

      -- from the lowest on they rise
      abbrev up : Class
      up = rising e ps n

      record Risen (c : Class) : Type 0 where
        step : c.step ≡ ps.step
        first : Within 3000000000000000 c.first
        last : Within 3000000000000000 (c.first +ℤ c.step *ℤ n)
        all : (p : ℤ) → P p ↔ Along c.first c.step n p

      risen : Risen up
      risen = go (falls e) refl
        where
          sign : ℤ
          sign = (b_sign k E).σ

          ends : Within 3000000000000000 (partner (pos 0)) × Within 3000000000000000 (partner n)
          ends = (partner-Within (pos 0) (nat_nonneg 0) more_low, partner-Within n more_low (≤ℤ_refl n))

          falling : sign ≡ pos 1 → Risen (record { first = ps.first -ℤ ps.step *ℤ n; step = ps.step })
          falling h = record {
            step = refl;
            first = lin (sign ∷ ps.first ∷ ps.step ∷ n ∷ []) (ends & ap (λ x. x *ℤ (ps.step *ℤ n)) h) (search facts depth 20) (omega arith);
            last = lin (sign ∷ ps.first ∷ ps.step ∷ n ∷ []) ends (search facts depth 20) (omega arith);
            all = λ p. Iff.trans (partnered p) (to p, from p);
          }
            where
              to : (p : ℤ) → (m : ℤ) × (pos 0 ≤ℤ m) × (m ≤ℤ n) × (p ≡ partner m) → Along (ps.first -ℤ ps.step *ℤ n) ps.step n p
              to p (m, a, b, is) = record {
                k = n -ℤ m;
                low = lin (n ∷ m ∷ []) b (search facts depth 20) (omega arith);
                high = lin (n ∷ m ∷ []) a (search facts depth 20) (omega arith);
                is = lin (p ∷ m ∷ sign ∷ ps.first ∷ ps.step ∷ n ∷ []) (is & ap (λ x. x *ℤ (ps.step *ℤ m)) h) (search facts depth 20) (omega arith);
              }

              from : (p : ℤ) → Along (ps.first -ℤ ps.step *ℤ n) ps.step n p → (m : ℤ) × (pos 0 ≤ℤ m) × (m ≤ℤ n) × (p ≡ partner m)
              from p y = (
                n -ℤ y.k,
                lin (n ∷ y.k ∷ []) y.high (search facts depth 20) (omega arith),
                lin (n ∷ y.k ∷ []) y.low (search facts depth 20) (omega arith),
                lin (p ∷ y.k ∷ sign ∷ ps.first ∷ ps.step ∷ n ∷ []) (y.is & ap (λ x. x *ℤ (ps.step *ℤ (n -ℤ y.k))) h) (search facts depth 20) (omega arith),
              )

          climbing : sign ≡ negsuc 0 → Risen ps
          climbing h = record {
            step = refl;
            first = lin (sign ∷ ps.first ∷ ps.step ∷ n ∷ []) ends (search facts depth 20) (omega arith);
            last = lin (sign ∷ ps.first ∷ ps.step ∷ n ∷ []) (ends & ap (λ x. x *ℤ (ps.step *ℤ n)) h) (search facts depth 20) (omega arith);
            all = λ p. Iff.trans (partnered p) (to p, from p);
          }
            where
              to : (p : ℤ) → (m : ℤ) × (pos 0 ≤ℤ m) × (m ≤ℤ n) × (p ≡ partner m) → Along ps.first ps.step n p
              to p (m, a, b, is) = record {
                k = m;
                low = a;
                high = b;
                is = lin (p ∷ m ∷ sign ∷ ps.first ∷ ps.step ∷ []) (is & ap (λ x. x *ℤ (ps.step *ℤ m)) h) (search facts depth 20) (omega arith);
              }

              from : (p : ℤ) → Along ps.first ps.step n p → (m : ℤ) × (pos 0 ≤ℤ m) × (m ≤ℤ n) × (p ≡ partner m)
              from p y = (y.k, y.low, y.high, lin (p ∷ y.k ∷ sign ∷ ps.first ∷ ps.step ∷ []) (y.is & ap (λ x. x *ℤ (ps.step *ℤ y.k)) h) (search facts depth 20) (omega arith))

          go : (t : Bool) → falls e ≡ t → Risen (cond {A = Class} t (record { first = ps.first -ℤ ps.step *ℤ n; step = ps.step }) ps)
          go true t = falling ((b_sign k E).above (lin (e.b ∷ []) t (search facts depth 20) (omega arith)))
          go false t = climbing ((b_sign k E).below (lin (e.b ∷ []) (t & k.limits.right_not_zero) (search facts depth 20) (omega arith)))

      -- how large they are
      pub way_Within : Within limit (ps.step *ℤ n)
      way_Within = lin (up.first ∷ up.step ∷ ps.step ∷ n ∷ []) (risen.first & risen.last & ap (λ x. x *ℤ n) risen.step) (search facts depth 20) (omega arith)

      pub lowest_Within : Within limit (ps.first -ℤ ps.step *ℤ n)
      lowest_Within = lin (up.first ∷ up.step ∷ ps.first ∷ ps.step ∷ n ∷ (b_sign k E).σ ∷ [])
          (partner-Within (pos 0) (nat_nonneg 0) more_low & risen.first & risen.last & ap (λ x. x *ℤ n) risen.step) (search facts depth 20) (omega arith)

      pub carry_Countable : Countable up n
      carry_Countable = record {
        moves = lin (up.step ∷ ps.step ∷ []) (risen.step & T_above k E) (search facts depth 20) (omega arith);
        step = lin (up.step ∷ ps.step ∷ []) (risen.step & floor-Within (pos (nat_abs e.b) *ℤ stride q) (floor_div e.a j.step) parts product_small) (search facts depth 20) (omega arith);
        low = more_low;
        high = more_high;
        first = risen.first;
        last = risen.last;
      }
        where
          parts : floor_div e.a j.step ≢ pos 0
          parts z = lin (floor_div e.a j.step ∷ []) (z & parts_above) (search facts depth 20) (omega arith)

      some : IsCarry e.a e.b e.c q (counted_run up n)
      some = record { form = counted_run_form carry_Countable; all = λ p. Iff.trans (counted_run_iff carry_Countable p) (λ (w, m). (w, (risen.all p).1 m), λ (w, y). (w, (risen.all p).0 y)) }

    every : IsCarry e.a e.b e.c q (carry_by (Some j) e q)
    every = go (lt_z (last_place q) j.first) refl
      where
        go : (t : Bool) → lt_z (last_place q) j.first ≡ t → IsCarry e.a e.b e.c q (cond t empty (counted_run (rising e (partners e q j) (more_in q j)) (more_in q j)))
        go true t = record { form = empty_form; all = λ p. (λ m. not_in_empty m, λ m. absurd (past (lin (pos q.many ∷ j.first ∷ []) t (search facts depth 20) (omega arith)) m.1)) }
        go false t = some (lin (pos q.many ∷ j.first ∷ []) t (search facts depth 20) (omega arith))

  pub carried : (sol : Option Class) → Solves (places_with_partner e q) sol → IsCarry e.a e.b e.c q (carry_by sol e q)
  carried None n = none n
  carried (Some j) E = every E

  -- and the places are within reach of the congruence
  pub places_reach : InReach (e.b *ℤ stride q) (partner_value e q.first) e.a
  places_reach = record {
    factor = lin (e.b ∷ stride q ∷ []) (Within-mul k.limits.right (stride_small k.form k.some)) (search facts depth 20) (omega arith);
    value = lin (partner_value e q.first ∷ []) (value_Within k.limits (first-Within k.form k.some)) (search facts depth 20) (omega arith);
    above = k.above;
    modulus = lin (e.a ∷ []) k.limits.left (search facts depth 20) (omega arith);
  }

-- ---- the same equation with a above 0
module _ {e : Equation} (lim : CarryLimits e) where
  upright_limits : CarryLimits (upright e)
  upright_limits = either {A = Equation} CarryLimits (lt_z e.a (pos 0)) turned lim
    where
      some : (x : ℤ) → x ≢ pos 0 → neg_ℤ x ≢ pos 0
      some x h z = h (lin (x ∷ []) z (search facts depth 20) (omega arith))

      turned : CarryLimits (record { a = neg_ℤ e.a; b = neg_ℤ e.b; c = neg_ℤ e.c })
      turned = record {
        left = lin (e.a ∷ []) lim.left (search facts depth 20) (omega arith);
        left_not_zero = some e.a lim.left_not_zero;
        right = lin (e.b ∷ []) lim.right (search facts depth 20) (omega arith);
        right_not_zero = some e.b lim.right_not_zero;
        constant = lin (e.c ∷ []) lim.constant (search facts depth 20) (omega arith);
      }

  upright_above : pos 0 <ℤ (upright e).a
  upright_above = go (lt_z e.a (pos 0)) refl
    where
      go : (t : Bool) → lt_z e.a (pos 0) ≡ t → pos 0 <ℤ (cond {A = Equation} t (record { a = neg_ℤ e.a; b = neg_ℤ e.b; c = neg_ℤ e.c }) e).a
      go true t = lin (e.a ∷ []) t (search facts depth 20) (omega arith)
      go false t = lin (e.a ∷ []) (t & lim.left_not_zero) (search facts depth 20) (omega arith)

  pub upright-Carriable : {q : Run} → OneForm q → 1 ≤ q.many → Carriable (upright e) q
  upright-Carriable o h = record { limits = upright_limits; above = upright_above; form = o; some = h }

-- it has the same partners
pub upright-IsCarry : (e : Equation) {q r : Run} → IsCarry (upright e).a (upright e).b (upright e).c q r → IsCarry e.a e.b e.c q r
upright-IsCarry e {q} {r} = either {A = Equation} (λ u. IsCarry u.a u.b u.c q r → IsCarry e.a e.b e.c q r) (lt_z e.a (pos 0)) turned (λ k. k)
  where
    turned : IsCarry (neg_ℤ e.a) (neg_ℤ e.b) (neg_ℤ e.c) q r → IsCarry e.a e.b e.c q r
    turned k = record { form = k.form; all = λ p. Iff.trans (k.all p) (to p, from p) }
      where
        to : (p : ℤ) → Within bound p × Partner (neg_ℤ e.a) (neg_ℤ e.b) (neg_ℤ e.c) q p → Within bound p × Partner e.a e.b e.c q p
        to p (w, y) = (w, record { q = y.q; member = y.member; holds = lin (e.a ∷ e.b ∷ e.c ∷ p ∷ y.q ∷ []) y.holds (search facts depth 20) (omega arith) })

        from : (p : ℤ) → Within bound p × Partner e.a e.b e.c q p → Within bound p × Partner (neg_ℤ e.a) (neg_ℤ e.b) (neg_ℤ e.c) q p
        from p (w, y) = (w, record { q = y.q; member = y.member; holds = lin (e.a ∷ e.b ∷ e.c ∷ p ∷ y.q ∷ []) y.holds (search facts depth 20) (omega arith) })
