-- The list `solutions j` has just the solutions of the job, in lexicographic order, and `best j` is the best of them: where
-- there is a solution at all, it is one and better than every other, and no other is.
use mathlib.Core.Path.{◌≡◌, refl, ap}
use mathlib.Core.Logic.Iff
use mathlib.Core.Logic.{◌↔◌, ◌⊎◌}
use mathlib.Core.Bool.{Bool, true}
use mathlib.Core.List.Memᴰ
use mathlib.Core.List.{map}
use Prim.Native.Nat.{ℕ, zero, suc, ◌<◌}
use lib.ListN.{length, get_or}
use Rattle.ints.specs.Equal.{is_equal}
use Rattle.ints.proofs.{ℤ, ◌≤ℤ◌, ◌<ℤ◌, List, [], ◌∷◌, arith}
use Rattle.ints.proofs.Equal.{equal_true}
use Rattle.lists.specs.Members.{◌∈◌, here, there}
use Rattle.lists.specs.Rising.{Rising}
use Rattle.lists.specs.Keep.{every}
use Rattle.lists.specs.Range.{range}
use Rattle.lists.specs.Lexicographic.{Lower, now, later}
use Rattle.lists.specs.Best.{Best}
use Rattle.lists.proofs.Members.{no_members, in-map, in-flat_map}
use Rattle.lists.proofs.Rising.{Rising-one, Rising-map, Rising-flat_map}
use Rattle.lists.proofs.Keep.{in-keep, Rising-keep, every_at}
use Rattle.lists.proofs.Range.{in-range, Rising-range}
use Rattle.lists.proofs.Best.{best_of-Best, is_best_of, Beats-asym, Beats-trans, Beats-compared}
use Rattle.jobs.specs.Job.{Variable, Equation, Job, no_variable, no_equation, equation}
use Rattle.jobs.specs.TieBreak.{Earlier, earliest_first}
use Rattle.jobs.specs.Solution.{Optimal, number, value, IsSolution, fronts, box, solutions, objective, Better, best}
use Rattle.jobs.proofs.TieBreak.{Rising-earliest_first, in-earliest_first, Earlier-asym, Earlier-trans, Earlier-compared}

-- ---- the box: the lists within the bounds, in lexicographic order
in-fronts : (xs : List ℤ) (rest : List (List ℤ)) (z : List ℤ) → z ∈ fronts xs rest ↔ ((x : ℤ) × (ys : List ℤ) × (x ∈ xs) × (ys ∈ rest) × (z ≡ x ∷ ys))
unfolding fronts
in-fronts xs rest z = Iff.trans (in-flat_map (λ x. map (λ ys. x ∷ ys) rest) xs z) (to, from)
  where
    to : (x : ℤ) × (x ∈ xs) × (z ∈ map (λ ys. x ∷ ys) rest) → (x : ℤ) × (ys : List ℤ) × (x ∈ xs) × (ys ∈ rest) × (z ≡ x ∷ ys)
    to (x, h, k) = let (ys, l, e) = (in-map (λ ys. x ∷ ys) rest z).0 k in (x, ys, h, l, e)

    from : (x : ℤ) × (ys : List ℤ) × (x ∈ xs) × (ys ∈ rest) × (z ≡ x ∷ ys) → (x : ℤ) × (x ∈ xs) × (z ∈ map (λ ys. x ∷ ys) rest)
    from (x, ys, h, l, e) = (x, h, (in-map (λ ys. x ∷ ys) rest z).1 (ys, l, e))

Rising-fronts : {xs : List ℤ} {rest : List (List ℤ)} → Rising ◌<ℤ◌ xs → Rising Lower rest → Rising Lower (fronts xs rest)
unfolding fronts
Rising-fronts {xs} {rest} r s = Rising-flat_map (λ x. map (λ ys. x ∷ ys) rest) (λ x. Rising-map (λ ys. x ∷ ys) (λ y z h. later refl h) s) across r
  where
    across : (x y : ℤ) → x <ℤ y → (u v : List ℤ) → u ∈ map (λ ys. x ∷ ys) rest → v ∈ map (λ ys. y ∷ ys) rest → Lower u v
    across x y l u v h k =
        let (us, a, d) = (in-map (λ ys. x ∷ ys) rest u).0 h in
        let (vs, b, e) = (in-map (λ ys. y ∷ ys) rest v).0 k in
        rw (d, e) (now l)

pub Rising-box : (vs : List Variable) → Rising Lower (box vs)
unfolding box
Rising-box [] = Rising-one []
Rising-box (v ∷ vs) = Rising-fronts (Rising-range v.low v.high) (Rising-box vs)

-- a number for each variable, from its low to its high
pub record InBounds (vs : List Variable) (x : List ℤ) : Type 0 where
  pub long : length x ≡ length vs
  pub low : (i : ℕ) → i < length vs → (get_or vs i no_variable).low ≤ℤ number x i
  pub high : (i : ℕ) → i < length vs → number x i ≤ℤ (get_or vs i no_variable).high

bounds_more : (v : Variable) {vs : List Variable} {x : ℤ} {xs : List ℤ} → v.low ≤ℤ x → x ≤ℤ v.high → InBounds vs xs → InBounds (v ∷ vs) (x ∷ xs)
bounds_more v {vs} {x} {xs} h k b = record { long = ap suc b.long; low = low'; high = high' }
  where
    low' : (i : ℕ) → i < suc (length vs) → (get_or (v ∷ vs) i no_variable).low ≤ℤ number (x ∷ xs) i
    low' zero l = h
    low' (suc i) l = b.low i (omega arith)

    high' : (i : ℕ) → i < suc (length vs) → number (x ∷ xs) i ≤ℤ (get_or (v ∷ vs) i no_variable).high
    high' zero l = k
    high' (suc i) l = b.high i (omega arith)

bounds_less : {v : Variable} {vs : List Variable} {x : ℤ} {xs : List ℤ} → InBounds (v ∷ vs) (x ∷ xs) → InBounds vs xs
bounds_less {v} {vs} {x} {xs} b = record {
  long = let e : suc (length xs) ≡ suc (length vs) = b.long in omega arith;
  low = λ i h. b.low (suc i) (omega arith);
  high = λ i h. b.high (suc i) (omega arith);
}

pub in-box : (vs : List Variable) (x : List ℤ) → (x ∈ box vs) ↔ InBounds vs x
unfolding box
in-box vs x = (out vs x, into vs x)
  where
    out : (vs : List Variable) (x : List ℤ) → x ∈ box vs → InBounds vs x
    out [] x (here e) = rw e record { long = refl; low = λ i h. absurd (omega arith); high = λ i h. absurd (omega arith) }
    out [] x (there h) = absurd (Memᴰ.not-nil h)
    out (v ∷ vs) x h =
        let (y, ys, k, m, e) = (in-fronts (range v.low v.high) (box vs) x).0 h in
        let (l, u) = (in-range v.low v.high y).0 k in
        rw e (bounds_more v l u (out vs ys m))

    into : (vs : List Variable) (x : List ℤ) → InBounds vs x → x ∈ box vs
    into [] [] b = here refl
    into [] (x ∷ xs) b = absurd (let e : suc (length xs) ≡ 0 = b.long in omega arith)
    into (v ∷ vs) [] b = absurd (let e : 0 ≡ suc (length vs) = b.long in omega arith)
    into (v ∷ vs) (x ∷ xs) b =
        (in-fronts (range v.low v.high) (box vs) (x ∷ xs)).1
        (x, xs, (in-range v.low v.high x).1 (b.low 0 (omega arith), b.high 0 (omega arith)), into vs xs (bounds_less b), refl)

-- ---- the solutions
abbrev holds : List ℤ → Equation → Bool
holds x e = is_equal (value e x) e.c

pub Rising-solutions : (j : Job) → Rising Lower (solutions j)
unfolding solutions
Rising-solutions j = Rising-keep (λ x. every (holds x) j.equations) (Rising-box j.variables)

pub in-solutions : (j : Job) (x : List ℤ) → (x ∈ solutions j) ↔ IsSolution j x
unfolding solutions
in-solutions j x = Iff.trans (in-keep (λ x. every (holds x) j.equations) (box j.variables) x) (to, from)
  where
    tie : (k : ℕ) → (holds x (equation j k) ≡ true) ↔ (value (equation j k) x ≡ (equation j k).c)
    tie k = equal_true (value (equation j k) x) (equation j k).c

    to : (x ∈ box j.variables) × (every (holds x) j.equations ≡ true) → IsSolution j x
    to (h, t) =
        let b = (in-box j.variables x).0 h in
        record { long = b.long; low = b.low; high = b.high; holds = λ k l. (tie k).0 ((every_at (holds x) j.equations no_equation).0 t k l) }

    from : IsSolution j x → (x ∈ box j.variables) × (every (holds x) j.equations ≡ true)
    from s = (
      (in-box j.variables x).1 record { long = s.long; low = s.low; high = s.high },
      (every_at (holds x) j.equations no_equation).1 (λ k l. (tie k).1 (s.holds k l)),
    )

pub none_iff : (j : Job) → (length (solutions j) ≡ 0) ↔ ((x : List ℤ) → ¬ IsSolution j x)
none_iff j = Iff.trans (no_members (solutions j)) (λ f x s. f x ((in-solutions j x).1 s), λ f x h. f x ((in-solutions j x).0 h))

-- ---- `Better j` is a strict total order on the lists of one length
pub Better-asym : (j : Job) (x y : List ℤ) → Better j x y → Better j y x → ⊥
Better-asym j x y = Beats-asym (objective j) Earlier-asym

pub Better-trans : (j : Job) (x y z : List ℤ) → Better j x y → Better j y z → Better j x z
Better-trans j x y z = Beats-trans (objective j) Earlier-trans

pub Better-compared : (j : Job) (x y : List ℤ) → length x ≡ length y → (x ≡ y) ⊎ (Better j x y ⊎ Better j y x)
Better-compared j x y e = Beats-compared (objective j) (Earlier-compared x y e)

-- ---- the best
-- the solutions, earliest first
Rising-earliest : (j : Job) → Rising Earlier (earliest_first (solutions j))
Rising-earliest j = Rising-earliest_first (Rising-solutions j)

in_earliest : (j : Job) (x : List ℤ) → (x ∈ earliest_first (solutions j)) ↔ IsSolution j x
in_earliest j x = Iff.trans (in-earliest_first (solutions j) x) (in-solutions j x)

-- x is the best of that list exactly when it is optimal
Best-iff : (j : Job) (x : List ℤ) → Best (objective j) Earlier (earliest_first (solutions j)) x ↔ Optimal j x
Best-iff j x = (
  λ b. record { solution = (in_earliest j x).0 b.member; beats = λ y s. b.beats y ((in_earliest j y).1 s) },
  λ o. record { member = (in_earliest j x).1 o.solution; beats = λ y h. o.beats y ((in_earliest j y).0 h) },
)

-- where there is a solution at all, the best is one, and better than every other
pub best_is : (j : Job) (x : List ℤ) → IsSolution j x → Optimal j (best j)
unfolding best
best_is j x s = (Best-iff j (best j)).0 (best_of-Best (objective j) Earlier-trans [] (Rising-earliest j) ((in_earliest j x).1 s))

-- and no other is
pub best_only : (j : Job) (x : List ℤ) → Optimal j x → x ≡ best j
unfolding best
best_only j x o = is_best_of (objective j) Earlier-asym Earlier-trans [] (Rising-earliest j) ((Best-iff j x).1 o)
