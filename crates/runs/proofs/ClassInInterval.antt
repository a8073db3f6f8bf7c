-- The part of a residue class in an interval is a run: `clip`.
use mathlib.Core.Path.{◌≡◌, refl, sym, ap, subst}
use mathlib.Core.Logic.Iff
use mathlib.Core.Logic.{◌↔◌}
use mathlib.Core.Bool.{Bool, true, false, cond}
use mathlib.Core.List.{[], ◌∷◌}
use Prim.Native.Nat.{ℕ, zero, suc}
use Rattle.ints.specs.Within.{Within}
use Rattle.ints.specs.Floor.{floor_div, floor_mod}
use Rattle.ints.specs.Divides.{Congruent}
use Rattle.ints.proofs.{ℤ, pos, negsuc, neg_ℤ, nat_abs, lt_z, ◌+ℤ◌, ◌-ℤ◌, ◌*ℤ◌, ◌≤ℤ◌, ◌<ℤ◌, arith, lin, lin₀, ◌&◌, facts, prod}
use Rattle.ints.proofs.Order.{abs_nonneg}
use Rattle.ints.proofs.Products.{cancel_lt, mul-le}
use Rattle.ints.proofs.Floor.{div_mod, mod_range, floor_range, floor_iff}
use Rattle.runs.specs.Run.{Run, InRun, OneForm, empty, full, bound}
use Rattle.runs.specs.Method.{Class, Interval, InInterval, Clippable, lowest_in, steps, progression, clip}
use Rattle.runs.proofs.Members.{not_in_empty, empty_form}
use Rattle.runs.proofs.Progressions.{Along, Along-iff, alone, in_Along}

-- a progression in its one form
pub one_less : (m n : ℕ) → m ≡ suc n → pos m -ℤ pos 1 ≡ pos n
one_less m n e = lin (pos m ∷ pos n ∷ []) e (search facts depth 20) (omega arith)

pub in_progression : (f s x : ℤ) (n : ℕ) → InRun (progression f s n) x ↔ Along f s (pos n) x
in_progression f s x zero = Iff.trans (in_Along (progression f s zero) x) (alone f (pos 0) s x, alone f s (pos 0) x)
in_progression f s x (suc n) = Iff.trans (in_Along (progression f s (suc n)) x) (again, back)
  where
    e : pos (suc (suc n)) -ℤ pos 1 ≡ pos (suc n)
    e = one_less (suc (suc n)) (suc n) refl

    again : Along f s (pos (suc (suc n)) -ℤ pos 1) x → Along f s (pos (suc n)) x
    again a = rw e at a

    back : Along f s (pos (suc n)) x → Along f s (pos (suc (suc n)) -ℤ pos 1) x
    back a = rw e a

pub progression_form : (f s : ℤ) (n : ℕ) → pos 0 <ℤ s → neg_ℤ (pos bound) ≤ℤ f → (f +ℤ s *ℤ pos n) ≤ℤ pos bound → OneForm (progression f s n)
progression_form f s n h a b = go n (λ x i. inside x ((in_progression f s x n).0 i))
  where
    inside : (x : ℤ) → Along f s (pos n) x → Within bound x
    inside x i =
        let (_, l, u) = (Along-iff f s (pos n) x h).0 i in
        lin (f ∷ s ∷ x ∷ pos n ∷ []) (a & b & l & u) (search facts depth 20) (omega arith)

    go : (m : ℕ) → ((x : ℤ) → InRun (progression f s m) x → Within bound x) → OneForm (progression f s m)
    go zero w = record { empty = λ e. absurd (omega arith); one = λ e. refl; rises = λ t. absurd (omega arith); inside = w }
    go (suc m) w = record {
      empty = λ e. absurd (omega arith);
      one = λ e. absurd (omega arith);
      rises = λ t. lin (s ∷ []) h (search facts depth 20) (omega arith);
      inside = w;
    }

-- the whole range has it
pub full_form : OneForm full
full_form =
    progression_form (negsuc 999999999) (pos 1) 2000000000
    (lin₀ [] (search facts depth 20) (omega arith)) (lin₀ [] (search facts depth 20) (omega arith)) (lin₀ [] (search facts depth 20) (omega arith))

-- of numbers: the class of f modulo s, from l on, begins at l + (f − l mod s)
module _ (s f l : ℤ) (h : pos 0 <ℤ s) where
  abbrev q : ℤ
  q = floor_div (f -ℤ l) s

  abbrev r : ℤ
  r = floor_mod (f -ℤ l) s

  sum : s *ℤ q +ℤ r ≡ f -ℤ l
  sum = div_mod (f -ℤ l) s

  from_first : (x : ℤ) → Congruent s x f × (l ≤ℤ x) → Congruent s x (l +ℤ r) × ((l +ℤ r) ≤ℤ x)
  from_first x (c, a) = (
    record { factor = c.factor +ℤ q; exact = apart },
    lin (s ∷ l ∷ r ∷ x ∷ c.factor ∷ q ∷ []) (apart & prod low whole) (search facts depth 20) (omega arith),
  )
    where
      low : pos 0 ≤ℤ s
      low = lin (s ∷ []) h (search facts depth 20) (omega arith)

      apart : x -ℤ (l +ℤ r) ≡ s *ℤ (c.factor +ℤ q)
      apart = lin (s ∷ f ∷ l ∷ r ∷ q ∷ x ∷ c.factor ∷ []) (sum & c.exact) (search facts depth 20) (omega arith)

      above : (pos 0 -ℤ pos 1) <ℤ (c.factor +ℤ q)
      above = cancel_lt s (pos 0 -ℤ pos 1) (c.factor +ℤ q) h
          (lin (s ∷ l ∷ r ∷ q ∷ x ∷ c.factor ∷ []) (apart & a & (mod_range (f -ℤ l) s h).1) (search facts depth 20) (omega arith))

      whole : pos 0 ≤ℤ (c.factor +ℤ q)
      whole = lin (c.factor ∷ q ∷ []) above (search facts depth 20) (omega arith)

  to_first : (x : ℤ) → Congruent s x (l +ℤ r) × ((l +ℤ r) ≤ℤ x) → Congruent s x f × (l ≤ℤ x)
  to_first x (c, a) = (
    record { factor = c.factor -ℤ q; exact = lin (s ∷ f ∷ l ∷ r ∷ q ∷ x ∷ c.factor ∷ []) (sum & c.exact) (search facts depth 20) (omega arith) },
    lin (l ∷ r ∷ x ∷ []) (a & (mod_range (f -ℤ l) s h).0) (search facts depth 20) (omega arith),
  )

-- up to u there are ⌊ (u − f) / s ⌋ steps
up_to : (s f u x : ℤ) → pos 0 <ℤ s → (Congruent s x f × (f ≤ℤ x) × (x ≤ℤ u)) ↔ Along f s (floor_div (u -ℤ f) s) x
up_to s f u x h = (to, from)
  where
    n : ℤ
    n = floor_div (u -ℤ f) s

    to : Congruent s x f × (f ≤ℤ x) × (x ≤ℤ u) → Along f s n x
    to (c, a, b) =
        let under : c.factor ≤ℤ n = (floor_iff (u -ℤ f) s c.factor h).0 (lin (s ∷ f ∷ u ∷ x ∷ c.factor ∷ []) (c.exact & b) (search facts depth 20) (omega arith)) in
        (Along-iff f s n x h).1 (c, a, lin (s ∷ f ∷ u ∷ x ∷ n ∷ c.factor ∷ []) (c.exact & mul-le s c.factor n h under) (search facts depth 20) (omega arith))

    from : Along f s n x → Congruent s x f × (f ≤ℤ x) × (x ≤ℤ u)
    from t =
        let (c, a, b) = (Along-iff f s n x h).0 t in
        (c, a, lin (s ∷ f ∷ u ∷ x ∷ n ∷ []) (b & (floor_range (u -ℤ f) s h).0) (search facts depth 20) (omega arith))

-- r is the part of a class in an interval
pub record IsClip (c : Class) (i : Interval) (r : Run) : Type 0 where
  pub form : OneForm r
  pub all : (x : ℤ) → InRun r x ↔ (Congruent c.step x c.first × InInterval i x)

module _ (c : Class) (i : Interval) (fair : Clippable c i) where
  abbrev L : ℤ
  L = lowest_in c i

  abbrev N : ℤ
  N = steps c i

  members : (x : ℤ) → (Congruent c.step x c.first × InInterval i x) ↔ Along L c.step N x
  members x = Iff.trans (to, from) (up_to c.step L i.high x fair.moves)
    where
      to : Congruent c.step x c.first × InInterval i x → Congruent c.step x L × (L ≤ℤ x) × (x ≤ℤ i.high)
      to (k, b) = let (k', l) = from_first c.step c.first i.low fair.moves x (k, b.low) in (k', l, b.high)

      from : Congruent c.step x L × (L ≤ℤ x) × (x ≤ℤ i.high) → Congruent c.step x c.first × InInterval i x
      from (k, l, b) = let (k', l') = to_first c.step c.first i.low fair.moves x (k, l) in (k', record { low = l'; high = b })

  low_enough : i.low ≤ℤ L
  low_enough = lin (i.low ∷ floor_mod (c.first -ℤ i.low) c.step ∷ []) (mod_range (c.first -ℤ i.low) c.step fair.moves).0 (search facts depth 20) (omega arith)

  -- where the lowest is not past the end, there is a whole number of steps
  pub steps_nonneg : L ≤ℤ i.high → pos 0 ≤ℤ N
  steps_nonneg h = (floor_iff (i.high -ℤ L) c.step (pos 0) fair.moves).0 (lin (L ∷ i.high ∷ c.step ∷ []) h (search facts depth 20) (omega arith))

  pub is_clip : IsClip c i (clip c i)
  is_clip = go (lt_z i.high L) refl
    where
      none : lt_z i.high L ≡ true → {x : ℤ} → Congruent c.step x c.first × InInterval i x → ⊥
      none t {x} m =
          let (_, l, _) = (up_to c.step L i.high x fair.moves).1 ((members x).0 m) in
          lin (L ∷ i.high ∷ x ∷ []) (t & l & m.1.high) (search facts depth 20) (omega arith)

      go : (b : Bool) → lt_z i.high L ≡ b → IsClip c i (cond b empty (progression L c.step (nat_abs N)))
      go true t = record { form = empty_form; all = λ x. (λ h. not_in_empty h, λ m. absurd (none t m)) }
      go false t = record {
        form = progression_form L c.step (nat_abs N) fair.moves
            (lin (L ∷ i.low ∷ []) (fair.low & low_enough) (search facts depth 20) (omega arith))
            (lin (L ∷ c.step ∷ N ∷ pos (nat_abs N) ∷ i.high ∷ []) (ap (λ t. c.step *ℤ t) e & (floor_range (i.high -ℤ L) c.step fair.moves).0 & fair.high) (search facts depth 20) (omega arith));
        all = λ x. Iff.trans (in_progression L c.step x (nat_abs N)) (Iff.trans (count x) (Iff.symm (members x)));
      }
        where
          e : N ≡ pos (nat_abs N)
          e = abs_nonneg N (steps_nonneg (lin (L ∷ i.high ∷ []) t (search facts depth 20) (omega arith)))

          count : (x : ℤ) → Along L c.step (pos (nat_abs N)) x ↔ Along L c.step N x
          count x = (subst (λ n. Along L c.step n x) (sym e), subst (λ n. Along L c.step n x) e)

-- two classes with the same first number and step are one
pub same_class : {c d : Class} → c.first ≡ d.first → c.step ≡ d.step → c ≡ d
same_class a b = λ k. record { first = a k; step = b k }
