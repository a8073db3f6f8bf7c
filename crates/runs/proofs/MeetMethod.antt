-- Two runs meet in the run of the numbers in both: the definition by its members, and the method.
use mathlib.Core.Path.{◌≡◌, refl, ap}
use mathlib.Core.Logic.Iff
use mathlib.Core.Logic.{◌↔◌}
use mathlib.Core.Bool.{true}
use mathlib.Core.List.{List, [], ◌∷◌}
use Prim.Native.Nat.{◌≤◌}
use Rattle.ints.specs.Within.{Within}
use Rattle.ints.specs.Equal.{is_equal}
use Rattle.ints.specs.Divides.{Congruent}
use Rattle.ints.proofs.{ℤ, pos, ◌+ℤ◌, ◌-ℤ◌, ◌*ℤ◌, ◌≤ℤ◌, lt_z, arith, lin, lin₀, ◌&◌, facts, prod}
use Rattle.ints.proofs.Equal.{equal_true}
use Rattle.lists.specs.Members.{◌∈◌}
use Rattle.lists.specs.Keep.{keep}
use Rattle.lists.proofs.Keep.{in-keep, Rising-keep, any_iff}
use Rattle.std.specs.Prelude.{Option, Some, None}
use Rattle.std.specs.Int.{int_max, int_min}
use Rattle.runs.specs.Run.{Run, numbers, InRun, OneForm, empty, bound}
use Rattle.runs.specs.Search.{is_in, meet}
use Rattle.runs.specs.Method.{Class, InInterval, Clippable, Places, Congruence, InReach, AllSolutions, Solves, stride, span, clip, common, places_in, numbers_at, meet_by}
use Rattle.runs.proofs.Members.{in-numbers, Rising-numbers, is_run_of, empty_form, not_in_empty, no_place}
use Rattle.runs.proofs.ClassOfRun.{in_span, stride_above, first-Within, last_Within, stride_within}
use Rattle.runs.proofs.Intervals.{in_common, either, max_over}
use Rattle.runs.proofs.ClassInInterval.{IsClip, is_clip}
use Rattle.runs.proofs.SolutionPeriod.{period_above, period_within}

-- ---- the definition by its members
pub is_in_iff : (r : Run) (x : ℤ) → (is_in r x ≡ true) ↔ InRun r x
unfolding is_in
is_in_iff r x = Iff.trans (any_iff (is_equal x) (numbers r)) (to, from)
  where
    to : (y : ℤ) × (y ∈ numbers r) × (is_equal x y ≡ true) → InRun r x
    to (y, h, e) = let e' : x ≡ y = (equal_true x y).0 e in rw e' ((in-numbers r y).0 h)

    from : InRun r x → (y : ℤ) × (y ∈ numbers r) × (is_equal x y ≡ true)
    from h = (x, (in-numbers r x).1 h, (equal_true x x).1 refl)

in_both : (a b : Run) (x : ℤ) → x ∈ keep (is_in b) (numbers a) ↔ (InRun a x × InRun b x)
in_both a b x = Iff.trans (in-keep (is_in b) (numbers a) x) (to, from)
  where
    to : (x ∈ numbers a) × (is_in b x ≡ true) → InRun a x × InRun b x
    to (h, t) = ((in-numbers a x).0 h, (is_in_iff b x).0 t)

    from : InRun a x × InRun b x → (x ∈ numbers a) × (is_in b x ≡ true)
    from (h, k) = ((in-numbers a x).1 h, (is_in_iff b x).1 k)

-- r is a run of just the numbers in both
pub record IsMeet (a b r : Run) : Type 0 where
  pub form : OneForm r
  pub all : (x : ℤ) → InRun r x ↔ (InRun a x × InRun b x)

-- and so it is where they meet
pub is_meet : {a b r : Run} → OneForm a → IsMeet a b r → r ≡ meet a b
unfolding meet
is_meet {a} {b} {r} o m =
    is_run_of m.form (Rising-keep (is_in b) (Rising-numbers o)) (λ x. Iff.trans (m.all x) (Iff.symm (in_both a b x)))

-- ---- two classes meet in a class, or do not meet
module _ (f s g t : ℤ) where
  abbrev S : Congruence
  S = record { u = s; v = g -ℤ f; d = t }

  at_place : (x : ℤ) → (c : Congruent s x f) → Congruent t x g ↔ Congruent t (s *ℤ c.factor) (g -ℤ f)
  at_place x c = (
    λ k. record { factor = k.factor; exact = lin (f ∷ s ∷ g ∷ t ∷ x ∷ c.factor ∷ k.factor ∷ []) (c.exact & k.exact) (search facts depth 20) (omega arith) },
    λ k. record { factor = k.factor; exact = lin (f ∷ s ∷ g ∷ t ∷ x ∷ c.factor ∷ k.factor ∷ []) (c.exact & k.exact) (search facts depth 20) (omega arith) },
  )

  both_classes : (i : Class) → AllSolutions S i → (x : ℤ) → (Congruent s x f × Congruent t x g) ↔ Congruent (s *ℤ i.step) x (f +ℤ s *ℤ i.first)
  both_classes i e x = (to, from)
    where
      to : Congruent s x f × Congruent t x g → Congruent (s *ℤ i.step) x (f +ℤ s *ℤ i.first)
      to (c, k) =
          let m : Congruent i.step c.factor i.first = (e.all c.factor).0 ((at_place x c).0 k) in
          record {
            factor = m.factor;
            exact = lin (f ∷ s ∷ x ∷ c.factor ∷ i.first ∷ i.step ∷ m.factor ∷ []) (c.exact & ap (λ t. s *ℤ t) m.exact) (search facts depth 20) (omega arith);
          }

      from : Congruent (s *ℤ i.step) x (f +ℤ s *ℤ i.first) → Congruent s x f × Congruent t x g
      from m = (c, (at_place x c).1 ((e.all c.factor).1 record { factor = m.factor; exact = lin₀ (i.first ∷ i.step ∷ m.factor ∷ []) (search facts depth 20) (omega arith) }))
        where
          c : Congruent s x f
          c = record {
            factor = i.first +ℤ i.step *ℤ m.factor;
            exact = lin (f ∷ s ∷ x ∷ i.first ∷ i.step ∷ m.factor ∷ []) m.exact (search facts depth 20) (omega arith);
          }

-- ---- the method
module _ {a b : Run} (o : OneForm a) (o' : OneForm b) (h : 1 ≤ a.many) (h' : 1 ≤ b.many) where
  none : ((i : ℤ) → Congruent (stride b) (stride a *ℤ i) (b.first -ℤ a.first) → ⊥) → IsMeet a b empty
  none n = record { form = empty_form; all = λ x. (λ k. not_in_empty k, λ p. absurd (clash x p.0 p.1)) }
    where
      clash : (x : ℤ) → InRun a x → InRun b x → ⊥
      clash x k l =
          let c : Congruent (stride a) x a.first = ((in_span o h x).0 k).0 in
          n c.factor ((at_place a.first (stride a) b.first (stride b) x c).0 ((in_span o' h' x).0 l).0)

  module _ (i : Class) (e : AllSolutions (places_in a b) i) where
    pub meet_places : Places i
    meet_places = record {
      low = e.low;
      high = e.high;
      small = lin (i.step ∷ stride b ∷ []) (period_within e (stride_above o' h') & stride_within o' h') (search facts depth 20) (omega arith);
    }

    pub meet_fair : Clippable (numbers_at a i) (common (span a) (span b))
    meet_fair = record {
      moves = lin ρ (prod one p_one & one & p_one) (search facts depth 20) (omega arith);
      step = lin ρ (product & prod one p_one & one & p_one) (search facts depth 20) (omega arith);
      distance = lin ρ (product & place & prod (nat_low one) e.low & first-Within o h & low-Within & (max_over a.first b.first).0 & one) (search facts depth 20) (omega arith);
      start = lin ρ low-Within (search facts depth 20) (omega arith);
      low = lin ρ low-Within (search facts depth 20) (omega arith);
      high = lin ρ high-Within (search facts depth 20) (omega arith);
    }
      where
        s : ℤ
        s = stride a

        low : ℤ
        low = int_max a.first b.first

        high : ℤ
        high = int_min (span a).high (span b).high

        ρ : List ℤ
        ρ = s ∷ i.first ∷ i.step ∷ a.first ∷ low ∷ high ∷ []

        one : pos 1 ≤ℤ s
        one = lin (s ∷ []) (stride_above o h) (search facts depth 20) (omega arith)

        nat_low : pos 1 ≤ℤ s → pos 0 ≤ℤ s
        nat_low k = lin (s ∷ []) k (search facts depth 20) (omega arith)

        p_one : pos 1 ≤ℤ i.step
        p_one = lin (i.step ∷ []) (period_above e) (search facts depth 20) (omega arith)

        product : (s *ℤ i.step) ≤ℤ pos 4000000000000000000
        product = lin ρ (prod (nat_low one) meet_places.small & stride_within o h) (search facts depth 20) (omega arith)

        place : (s *ℤ i.first) ≤ℤ (s *ℤ i.step -ℤ s)
        place =
            let under : i.first ≤ℤ (i.step -ℤ pos 1) = lin (i.first ∷ i.step ∷ []) e.high (search facts depth 20) (omega arith) in
            lin ρ (prod (nat_low one) under) (search facts depth 20) (omega arith)

        low-Within : Within bound low
        low-Within = either (Within bound) (lt_z b.first a.first) (first-Within o h) (first-Within o' h')

        high-Within : Within bound high
        high-Within = either (Within bound) (lt_z (span b).high (span a).high) (last_Within o' h') (last_Within o h)

    some : IsMeet a b (meet_by (Some i) a b)
    some = record { form = k.form; all = λ x. Iff.trans (k.all x) (to x, from x) }
      where
        k : IsClip (numbers_at a i) (common (span a) (span b)) (clip (numbers_at a i) (common (span a) (span b)))
        k = is_clip (numbers_at a i) (common (span a) (span b)) meet_fair

        to : (x : ℤ) → Congruent (numbers_at a i).step x (numbers_at a i).first × InInterval (common (span a) (span b)) x → InRun a x × InRun b x
        to x (c, m) =
            let (ca, cb) = (both_classes a.first (stride a) b.first (stride b) i e x).1 c in
            let (ma, mb) = (in_common (span a) (span b) x).0 m in
            ((in_span o h x).1 (ca, ma), (in_span o' h' x).1 (cb, mb))

        from : (x : ℤ) → InRun a x × InRun b x → Congruent (numbers_at a i).step x (numbers_at a i).first × InInterval (common (span a) (span b)) x
        from x (ka, kb) =
            let (ca, ma) = (in_span o h x).0 ka in
            let (cb, mb) = (in_span o' h' x).0 kb in
            ((both_classes a.first (stride a) b.first (stride b) i e x).0 (ca, cb), (in_common (span a) (span b) x).1 (ma, mb))

  pub met : (sol : Option Class) → Solves (places_in a b) sol → IsMeet a b (meet_by sol a b)
  met None n = none n
  met (Some i) e = some i e

  -- and the places are within reach of the congruence
  pub places_in_reach : InReach (stride a) (b.first -ℤ a.first) (stride b)
  places_in_reach = record {
    factor = lin (stride a ∷ []) (stride_above o h & stride_within o h) (search facts depth 20) (omega arith);
    value = lin (a.first ∷ b.first ∷ []) (first-Within o h & first-Within o' h') (search facts depth 20) (omega arith);
    above = stride_above o' h';
    modulus = stride_within o' h';
  }

-- ---- an empty run meets no other
pub empty_left : {a : Run} (b : Run) → a.many ≡ 0 → IsMeet a b empty
empty_left b z = record { form = empty_form; all = λ x. (λ k. not_in_empty k, λ p. absurd (no_place z p.0)) }

pub empty_right : (a : Run) {b : Run} → b.many ≡ 0 → IsMeet a b empty
empty_right a z = record { form = empty_form; all = λ x. (λ k. not_in_empty k, λ p. absurd (no_place z p.1)) }
