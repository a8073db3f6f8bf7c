-- The pairs of indices at which an equation holds between two families, turned so that the indices of one of them rise.
use mathlib.Core.Path.{◌≡◌, refl, sym, subst}
use mathlib.Core.Logic.{◌≢◌}
use mathlib.Core.Bool.{Bool, true, false, cond}
use mathlib.Core.List.{[], ◌∷◌}
use Prim.Native.Nat.{ℕ, ◌≤◌, ◌<◌}
use Rattle.ints.proofs.{pos, neg_ℤ, lt_z, ◌<ℤ◌, arith, lin, ◌&◌, facts}
use Rattle.runs.specs.declared.Run.{Run}
use Rattle.runs.specs.declared.Equation.{Equation as Form}
use Rattle.runs.specs.Run.{nth}
use Rattle.families.specs.Model.{leading, downwards, Indices, directed}
use Rattle.families.proofs.Subfamily.{HoldsAt, Picks, pick}

-- k and l stand at one place of the two runs of indices
pub record At (i : Indices) (k l : ℕ) : Type 0 where
  pub place : ℕ
  pub below : place < i.left.many
  pub left : pos k ≡ nth i.left place
  pub right : pos l ≡ nth i.right place

-- i has just the pairs of indices into P and Q at which the equation holds
pub record Pairs (e : Form) (P Q : Run) (i : Indices) : Type 0 where
  pub left : Picks i.left P.many
  pub right : Picks i.right Q.many
  pub many : i.right.many ≡ i.left.many
  pub holds : (t : ℕ) → t < i.left.many → HoldsAt e (nth P (pick i.left t)) (nth Q (pick i.right t))
  pub all : (k l : ℕ) → k < P.many → l < Q.many → HoldsAt e (nth P k) (nth Q l) → At i k l

-- ---- which way
leading_down : (lower : Bool) (i : Indices) → (leading lower (downwards i)).step ≡ neg_ℤ (leading lower i).step
leading_down true i = refl
leading_down false i = refl

leading_moves : {e : Form} {P Q : Run} {i : Indices} → Pairs e P Q i → (lower : Bool) → 2 ≤ i.left.many → (leading lower i).step ≢ pos 0
leading_moves o true h = o.left.moves.moves h
leading_moves o false h = o.right.moves.moves (subst (λ n. 2 ≤ n) (sym o.many) h)

-- the pairs, in the direction that is asked for
pub record Turned (e : Form) (P Q : Run) (lower : Bool) (i : Indices) : Type 0 where
  pub pairs : Pairs e P Q i
  pub rises : 2 ≤ i.left.many → pos 0 <ℤ (leading lower i).step

pub directed_is : {e : Form} {P Q : Run} {i : Indices} (lower : Bool) → Pairs e P Q i → Pairs e P Q (downwards i) → Turned e P Q lower (directed lower i)
directed_is {e} {P} {Q} {i} lower up down = go (lt_z (leading lower i).step (pos 0)) refl
  where
    go : (t : Bool) → lt_z (leading lower i).step (pos 0) ≡ t → Turned e P Q lower (cond t (downwards i) i)
    go true t = record {
      pairs = down;
      rises = λ h. rw (leading_down lower i) (lin ((leading lower i).step ∷ []) t (search facts depth 20) (omega arith));
    }
    go false t = record {
      pairs = up;
      rises = λ h. lin ((leading lower i).step ∷ []) (t & leading_moves up lower h) (search facts depth 20) (omega arith);
    }
