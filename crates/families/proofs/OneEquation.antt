-- What one equation leaves of the families of its two variables, in one form for both cases: `kept`.
use mathlib.Core.Path.{◌≡◌, refl, sym, ◌∙◌, ap, subst}
use mathlib.Core.Logic.{◌≢◌}
use mathlib.Core.Bool.{Bool, true, false, cond}
use mathlib.Core.Option.{Option, none, some}
use Prim.Native.Nat.{ℕ, ◌≤◌, ◌<◌}
use lib.Dec.{eqb, ltb}
use borrow.Author.Tests.{eqb-true, eqb-false}
use Rattle.ints.proofs.{pos, ◌<ℤ◌, arith}
use Rattle.runs.specs.declared.Run.{Run}
use Rattle.runs.specs.declared.Equation.{Equation as Form}
use Rattle.runs.specs.Run.{nth, InRun}
use Rattle.runs.specs.Workings.{CarryLimits}
use Rattle.families.specs.FamilyRun.{FamilyRun}
use Rattle.families.specs.Model.{leading, Indices, cycle, common_numbers, join, both_sides, kept}
use Rattle.families.proofs.Subfamily.{HoldsAt, Picks, pick, pick_is, pick_below}
use Rattle.families.proofs.CycleStep.{Remains, cycle_leaves}
use Rattle.families.proofs.JoinPairs.{At, Pairs}
use Rattle.families.proofs.JoinStep.{join-Pairs, join_rises}

-- i has just the pairs of indices into P and Q at which the equation holds; where P and Q are of one component, l and r are the
-- same, and only an index and itself is a pair
pub record Leaves (e : Form) (l r : ℕ) (P Q : Run) (i : Indices) : Type 0 where
  pub left : Picks i.left P.many
  pub right : Picks i.right Q.many
  pub many : i.right.many ≡ i.left.many
  pub one : l ≡ r → i.left ≡ i.right
  pub holds : (t : ℕ) → t < i.left.many → HoldsAt e (nth P (pick i.left t)) (nth Q (pick i.right t))
  pub all : (k k' : ℕ) → k < P.many → k' < Q.many → (l ≡ r → k ≡ k') → HoldsAt e (nth P k) (nth Q k') → At i k k'
  pub rises : 2 ≤ i.left.many → pos 0 <ℤ (leading (ltb l r) i).step

-- redundant, or what it leaves
abbrev pub Kept : Form → ℕ → ℕ → Run → Run → Option Indices → Type 0
Kept e l r P Q none = (l ≡ r) × ((k : ℕ) → HoldsAt e (nth P k) (nth Q k))
Kept e l r P Q (some i) = Leaves e l r P Q i

module _ (e : Form) (l r : ℕ) (P Q : Run) where
  one_group : l ≡ r → P.many ≡ Q.many → (o : Option Run) → Remains e P Q o → Kept e l r P Q (both_sides o)
  one_group q m none h = (q, h)
  one_group q m (some s) h = record {
    left = h.picks;
    right = subst (Picks s) m h.picks;
    many = refl;
    one = λ q. refl;
    holds = λ t b. (h.all (pick s t) (pick_below h.picks b)).1 (record { place = t; below = b; is = sym (pick_is h.picks b) });
    all = λ k k' b b' same z. found k k' (same q) ((h.all k b).0 (subst (λ n. HoldsAt e (nth P k) (nth Q n)) (sym (same q)) z));
    rises = λ b. absurd (omega (arith, b, h.few));
  }
    where
      found : (k k' : ℕ) → k ≡ k' → InRun s (pos k) → At (record { left = s; right = s }) k k'
      found k k' z n = record { place = n.place; below = n.below; left = n.is; right = sym (ap pos z) ∙ n.is }

  two_groups : l ≢ r → {i : Indices} → Pairs e P Q i → (2 ≤ i.left.many → pos 0 <ℤ (leading (ltb l r) i).step) → Leaves e l r P Q i
  two_groups n o up = record {
    left = o.left;
    right = o.right;
    many = o.many;
    one = λ q. absurd (n q);
    holds = o.holds;
    all = λ k k' b b' same z. o.all k k' b b' z;
    rises = up;
  }

  pub kept_is : (l ≢ r → CarryLimits e) → FamilyRun P → FamilyRun Q → (l ≡ r → P.many ≡ Q.many) → Kept e l r P Q (kept e l r P Q)
  unfolding kept
  kept_is lim f g m = go (eqb l r) refl
    where
      go : (t : Bool) → eqb l r ≡ t → Kept e l r P Q (cond t (both_sides (cycle e P Q)) (some (join e P Q (common_numbers e P Q) (ltb l r))))
      go true t = one_group (eqb-true l r t) (m (eqb-true l r t)) (cycle e P Q) (cycle_leaves e P Q)
      go false t = let n = eqb-false l r t in two_groups n (join-Pairs (lim n) f g (ltb l r)) (join_rises (lim n) f g (ltb l r))
