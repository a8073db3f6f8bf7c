-- Part of a family: the members at the indices of a run. `through` takes them, and it gives a family again.
use mathlib.Core.Path.{◌≡◌, refl, sym, ◌∙◌, ap, subst}
use mathlib.Core.Logic.{◌≢◌}
use mathlib.Core.Bool.{Bool, true, false, cond}
use mathlib.Core.List.{[], ◌∷◌}
use Prim.Native.Nat.{ℕ, ◌≤◌, ◌<◌}
use lib.Dec.{eqb}
use borrow.Author.Tests.{eqb-true, eqb-false, eq-eqb, ne_eqb}
use Rattle.ints.proofs.{ℤ, pos, nat_abs, ◌+ℤ◌, ◌*ℤ◌, ◌≤ℤ◌, ◌<ℤ◌, arith, lin, ◌&◌, facts}
use Rattle.ints.proofs.Order.{abs_nonneg}
use Rattle.ints.proofs.Products.{cancel}
use Rattle.runs.specs.declared.Run.{Run}
use Rattle.runs.specs.declared.Equation.{Equation as Form}
use Rattle.runs.specs.Run.{nth, InRun, empty}
use Rattle.families.specs.FamilyRun.{Moves, FamilyRun}
use Rattle.families.proofs.FamilyRuns.{OneForm-Moves}
use Rattle.runs.proofs.Members.{empty_form}
use Rattle.families.proofs.ExactQuotients.{index_one}
use Rattle.families.specs.Model.{Indices, members_at, through, run_after}

-- the equation holds at p and q
abbrev pub HoldsAt : Form → ℤ → ℤ → Type 0
HoldsAt e p q = e.a *ℤ p +ℤ e.b *ℤ q ≡ e.c

-- a run with step 0 stays where it is
pub at_rest : (q s : ℤ) (k : ℕ) → s ≡ pos 0 → q +ℤ s *ℤ pos k ≡ q
at_rest q s k z = lin (q ∷ s ∷ pos k ∷ []) (ap (λ t. t *ℤ pos k) z) (search facts depth 20) (omega arith)

-- ---- s is a run of indices below many
pub record Picks (s : Run) (many : ℕ) : Type 0 where
  pub moves : Moves s
  pub inside : (k : ℕ) → k < s.many → (pos 0 ≤ℤ nth s k) × (nth s k <ℤ pos many)

-- the index at place k, as a natural number
abbrev pub pick : Run → ℕ → ℕ
pick s k = nat_abs (nth s k)

pub same_nat : (m n : ℕ) → pos m ≡ pos n → m ≡ n
same_nat m n e = lin (pos m ∷ pos n ∷ []) e (search facts depth 20) (omega arith)

module _ {s : Run} {many : ℕ} (p : Picks s many) {k : ℕ} (h : k < s.many) where
  pub pick_is : nth s k ≡ pos (pick s k)
  pick_is = abs_nonneg (nth s k) (p.inside k h).0

  pub pick_below : pick s k < many
  pick_below = go (nth s k) (pick s k) pick_is (p.inside k h).1
    where
      go : (x : ℤ) (i : ℕ) → x ≡ pos i → x <ℤ pos many → i < many
      go x i e l = lin (x ∷ pos i ∷ pos many ∷ []) (e & l) (search facts depth 20) (omega arith)

-- two indices differ, so there are two to pick from
pub two_to_pick : {s : Run} {many : ℕ} → Picks s many → 2 ≤ s.many → 2 ≤ many
two_to_pick {s} {many} p h =
    lin (s.first ∷ s.step ∷ pos many ∷ []) (p.inside 0 (omega arith) & p.inside 1 (omega arith) & p.moves.moves h) (search facts depth 20) (omega arith)

-- none at all
pub Picks-empty : (many : ℕ) → Picks empty many
Picks-empty many = record { moves = OneForm-Moves empty_form; inside = λ k h. absurd (omega arith) }

-- a number stands at one index only
pub index_only : {r : Run} → Moves r → {k l : ℕ} → k < r.many → l < r.many → nth r k ≡ nth r l → k ≡ l
index_only {r} m {k} {l} h h' e = same_nat k l (sym (index_one m h refl) ∙ index_one m h' e)

-- ---- the members at those indices
pub through_many : (r s : Run) → (through r s).many ≡ s.many
through_many r s = go (eqb s.many 0) refl
  where
    go : (t : Bool) → eqb s.many 0 ≡ t → (cond t empty (members_at r s)).many ≡ s.many
    go true e = sym (eqb-true s.many 0 e)
    go false e = refl

through_some : (r s : Run) → 1 ≤ s.many → through r s ≡ members_at r s
through_some r s h = go (eqb s.many 0) refl
  where
    go : (t : Bool) → eqb s.many 0 ≡ t → cond t empty (members_at r s) ≡ members_at r s
    go true e = absurd (omega (arith, h, eqb-true s.many 0 e))
    go false e = refl

through_none : (r s : Run) → s.many ≡ 0 → through r s ≡ empty
through_none r s h = go (eqb s.many 0) refl
  where
    go : (t : Bool) → eqb s.many 0 ≡ t → cond t empty (members_at r s) ≡ empty
    go true e = refl
    go false e = absurd (eqb-false s.many 0 e h)

pub through-step : (r s : Run) → 1 ≤ s.many → (through r s).step ≡ r.step *ℤ s.step
through-step r s h = ap (λ t. t.step) (through_some r s h)

-- number k of them is number `pick s k` of r
pub through_at : (r : Run) {s : Run} → Picks s r.many → {k : ℕ} → k < s.many → nth (through r s) k ≡ nth r (pick s k)
through_at r {s} p {k} h = ap (λ t. nth t k) (through_some r s (omega arith)) ∙ go (pick s k) (pick_is p h)
  where
    go : (i : ℕ) → nth s k ≡ pos i → nth (members_at r s) k ≡ nth r i
    go i e = lin (r.first ∷ r.step ∷ s.first ∷ s.step ∷ pos k ∷ pos i ∷ []) (ap (λ t. r.step *ℤ t) e) (search facts depth 20) (omega arith)

module _ {r s : Run} (f : FamilyRun r) (p : Picks s r.many) where
  few : s.many ≤ 1 → (through r s).step ≡ pos 0
  few h = go (eqb s.many 0) refl
    where
      go : (t : Bool) → eqb s.many 0 ≡ t → (cond t empty (members_at r s)).step ≡ pos 0
      go true e = refl
      go false e = lin (r.step ∷ s.step ∷ []) (ap (λ t. r.step *ℤ t) (p.moves.rests h)) (search facts depth 20) (omega arith)

  more : 2 ≤ s.many → (through r s).step ≢ pos 0
  more h z =
      let q : r.step *ℤ s.step ≡ pos 0 = sym (through-step r s (omega arith)) ∙ z in
      p.moves.moves h (cancel r.step s.step (pos 0) (f.moves.moves (two_to_pick p h)) (lin (r.step ∷ s.step ∷ []) q (search facts depth 20) (omega arith)))

  through-Moves : Moves (through r s)
  through-Moves = record { moves = λ h. more (subst (λ n. 2 ≤ n) (through_many r s) h); rests = λ h. few (subst (λ n. n ≤ 1) (through_many r s) h) }

  -- it is a family's run again
  pub through_form : FamilyRun (through r s)
  through_form = record {
    moves = through-Moves;
    empty = λ e. ap (λ t. t.first) (through_none r s (sym (through_many r s) ∙ e));
    inside = λ x h. f.inside x (in_through x h);
  }
    where
      in_through : (x : ℤ) → InRun (through r s) x → InRun r x
      in_through x h =
          let l : h.place < s.many = subst (λ n. h.place < n) (through_many r s) h.below in
          record { place = pick s h.place; below = pick_below p l; is = h.is ∙ through_at r p l }

-- ---- the run of a variable in component g, of which l and r keep the members at their indices
module _ (l r : ℕ) (i : Indices) (g : ℕ) (run : Run) where
  pub after_left : g ≡ l → run_after l r i g run ≡ through run i.left
  after_left e = rw (eq-eqb g l e) refl

  pub after_right : g ≢ l → g ≡ r → run_after l r i g run ≡ through run i.right
  after_right n e = rw (ne_eqb g l n, eq-eqb g r e) refl

  pub after_other : g ≢ l → g ≢ r → run_after l r i g run ≡ run
  after_other n m = rw (ne_eqb g l n, ne_eqb g r m) refl
