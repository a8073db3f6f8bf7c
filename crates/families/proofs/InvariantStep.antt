-- One equation more, in general: the invariant goes on where the family of the joined component is what both components and the
-- equation leave, and every other component stays as it was.
use mathlib.Core.Path.{◌≡◌, refl, sym, ◌∙◌, ap, subst}
use mathlib.Core.Logic.Iff
use mathlib.Core.Logic.{◌↔◌, ◌⊎◌, inl, inr, ⊎_elim, ◌≢◌}
use mathlib.Core.List.{List}
use Prim.Native.Nat.{ℕ, suc, ◌≤◌, ◌<◌}
use native.Mathlib.Decide.{ℕ_discrete}
use native.Mathlib.Omega.{arith}
use lib.ListN.{length}
use Rattle.ints.proofs.{ℤ, pos, ◌<ℤ◌}
use Rattle.runs.specs.declared.Run.{Run}
use Rattle.runs.specs.Run.{nth}
use Rattle.families.specs.FamilyRun.{FamilyRun}
use Rattle.jobs.specs.Job.{Job}
use Rattle.jobs.specs.NormalForm.{normal_row}
use Rattle.jobs.specs.Solution.{value}
use Rattle.jobs.specs.Component.{lowest_by}
use Rattle.jobs.proofs.Components.{lowest_by-le, lowest_by_self}
use Rattle.families.specs.Model.{State, label_at, run_at}
use Rattle.families.specs.Invariant.{Keeps, IsMember, OnFamily, Invariant}
use Rattle.families.proofs.Subfamily.{index_only}
use Rattle.families.proofs.Labels.{left_label, right_label, new_label, InEither, new_is, to_new, from_new, from_other, to_other, apart}

-- a member is on the family: at the component's lowest variable there is one index only
pub on_family : {j : Job} {m : ℕ} {run : ℕ → Run} {g k : ℕ} {x : List ℤ} → g < length j.variables → lowest_by j m g ≡ g → FamilyRun (run g) →
    IsMember j m run g k x → OnFamily j m run g x
on_family {g} {k} b s f h = record { k = k; is = h; only = λ k' h'. index_only f.moves h'.below h.below (sym (h'.at g b s) ∙ h.at g b s) }

-- x is on the families of both components of equation m, and keeps it
abbrev pub OnBoth : (j : Job) → ℕ → (ℕ → Run) → List ℤ → Type 0
OnBoth j m run x = OnFamily j m run (left_label j m) x × OnFamily j m run (right_label j m) x × (value (normal_row j m) x ≡ (normal_row j m).c)

-- the runs before and after equation m
pub record Step (j : Job) (m : ℕ) (run run' : ℕ → Run) : Type 0 where
  pub other : (i : ℕ) → i < length j.variables → lowest_by j m i ≢ left_label j m → lowest_by j m i ≢ right_label j m → run' i ≡ run i
  pub many : (i : ℕ) → i < length j.variables → lowest_by j (suc m) i ≡ new_label j m → (run' i).many ≡ (run' (new_label j m)).many
  pub form : (i : ℕ) → i < length j.variables → lowest_by j (suc m) i ≡ new_label j m → FamilyRun (run' i)
  pub rises : 2 ≤ (run' (new_label j m)).many → pos 0 <ℤ (run' (new_label j m)).step
  pub family : (x : List ℤ) → OnFamily j (suc m) run' (new_label j m) x ↔ OnBoth j m run x

-- ---- the components of an equation that names variables of the job
pub record Named (j : Job) (m : ℕ) : Type 0 where
  pub left : (normal_row j m).left < length j.variables
  pub right : (normal_row j m).right < length j.variables

module _ {j : Job} {m : ℕ} (named : Named j m) where
  pub left_below : left_label j m < length j.variables
  left_below = omega (arith, lowest_by-le j m (normal_row j m).left, named.left)

  pub right_below : right_label j m < length j.variables
  right_below = omega (arith, lowest_by-le j m (normal_row j m).right, named.right)

  pub left_self : lowest_by j m (left_label j m) ≡ left_label j m
  left_self = lowest_by_self j m (normal_row j m).left

  pub right_self : lowest_by j m (right_label j m) ≡ right_label j m
  right_self = lowest_by_self j m (normal_row j m).right

  pub new_below : new_label j m < length j.variables
  new_below = omega (arith, left_below)

  pub new_self : lowest_by j (suc m) (new_label j m) ≡ new_label j m
  new_self = to_new j m (new_label j m) (go (new_is j m))
    where
      go : (new_label j m ≡ left_label j m) ⊎ (new_label j m ≡ right_label j m) → InEither j m (new_label j m)
      go (inl e) = inl (ap (lowest_by j m) e ∙ left_self)
      go (inr e) = inr (ap (lowest_by j m) e ∙ right_self)

-- ---- what the bounds and the equations ask of the joined component: what they ask of both, and equation m
module _ (j : Job) (m : ℕ) (x : List ℤ) where
  abbrev KeepsBoth : Type 0
  KeepsBoth = Keeps j m (left_label j m) x × Keeps j m (right_label j m) x × (value (normal_row j m) x ≡ (normal_row j m).c)

  -- a component whose variables all come into the new one
  part : (g : ℕ) → ((i : ℕ) → lowest_by j m i ≡ g → lowest_by j (suc m) i ≡ new_label j m) → Keeps j (suc m) (new_label j m) x → Keeps j m g x
  part g to q = record { low = λ i h l. q.low i h (to i l); high = λ i h l. q.high i h (to i l); holds = λ k h l. q.holds k (omega arith) (to (normal_row j k).left l) }

  Keeps-joined : Keeps j (suc m) (new_label j m) x ↔ KeepsBoth
  Keeps-joined = (
    λ q. (
      part (left_label j m) (λ i l. to_new j m i (inl l)) q,
      part (right_label j m) (λ i l. to_new j m i (inr l)) q,
      q.holds m (omega arith) (to_new j m (normal_row j m).left (inl refl)),
    ),
    λ (p, q, e). record {
      low = λ i h l. ⊎_elim (p.low i h) (q.low i h) (from_new j m i l);
      high = λ i h l. ⊎_elim (p.high i h) (q.high i h) (from_new j m i l);
      holds = λ k h l. holds p q e k h (ℕ_discrete k m) (from_new j m (normal_row j k).left l);
    },
  )
    where
      holds : Keeps j m (left_label j m) x → Keeps j m (right_label j m) x → value (normal_row j m) x ≡ (normal_row j m).c →
          (k : ℕ) → k < suc m → Dec (k ≡ m) → InEither j m (normal_row j k).left → value (normal_row j k) x ≡ (normal_row j k).c
      holds p q e k h (yes z) l = rw z e
      holds p q e k h (no z) l = ⊎_elim (p.holds k (omega arith)) (q.holds k (omega arith)) l

-- ---- another component g
module _ {j : Job} {m : ℕ} (g : ℕ) (n : g ≢ new_label j m) (s : lowest_by j (suc m) g ≡ g) where
  Keeps-other : (x : List ℤ) → Keeps j (suc m) g x ↔ Keeps j m g x
  Keeps-other x = (
    λ q. record { low = λ i h l. q.low i h (up i l); high = λ i h l. q.high i h (up i l); holds = λ k h l. q.holds k (omega arith) (up (normal_row j k).left l) },
    λ q. record { low = λ i h l. q.low i h (down i l); high = λ i h l. q.high i h (down i l); holds = λ k h l. holds q k h (ℕ_discrete k m) l },
  )
    where
      up : (i : ℕ) → lowest_by j m i ≡ g → lowest_by j (suc m) i ≡ g
      up = to_other j m g n s

      down : (i : ℕ) → lowest_by j (suc m) i ≡ g → lowest_by j m i ≡ g
      down = from_other j m g n

      -- equation m is not in it
      holds : Keeps j m g x → (k : ℕ) → k < suc m → Dec (k ≡ m) → lowest_by j (suc m) (normal_row j k).left ≡ g → value (normal_row j k) x ≡ (normal_row j k).c
      holds q k h (yes z) l =
          let e : lowest_by j (suc m) (normal_row j m).left ≡ g = subst (λ k. lowest_by j (suc m) (normal_row j k).left ≡ g) z l in
          absurd ((apart j m g n s (normal_row j m).left (down (normal_row j m).left e)).0 refl)
      holds q k h (no z) l = q.holds k (omega arith) (down (normal_row j k).left l)

  module _ {run run' : ℕ → Run} (S : Step j m run run') (b : g < length j.variables) where
    stays : (i : ℕ) → i < length j.variables → lowest_by j m i ≡ g → run' i ≡ run i
    stays i h l = let (a, c) = apart j m g n s i l in S.other i h a c

    old_self : lowest_by j m g ≡ g
    old_self = from_other j m g n g s

    on_other : FamilyRun (run g) → (x : List ℤ) → OnFamily j m run g x ↔ OnFamily j (suc m) run' g x
    on_other f x = (
      λ o. on_family b s (subst FamilyRun (sym (stays g b old_self)) f) (record {
        below = subst (λ r. o.k < r.many) (sym (stays g b old_self)) o.is.below;
        at = λ i h l. let l' = from_other j m g n i l in o.is.at i h l' ∙ ap (λ r. nth r o.k) (sym (stays i h l'));
      }),
      λ o. on_family b old_self f (record {
        below = subst (λ r. o.k < r.many) (stays g b old_self) o.is.below;
        at = λ i h l. o.is.at i h (to_other j m g n s i l) ∙ ap (λ r. nth r o.k) (stays i h l);
      }),
    )

-- ---- the invariant for one equation more
pub advance : {j : Job} {m : ℕ} {s s' : State} → Named j m → Invariant j m s → Step j m (run_at s) (run_at s') →
    ((i : ℕ) → i < length j.variables → label_at s' i ≡ lowest_by j (suc m) i) → Invariant j (suc m) s'
advance {j} {m} {s} {s'} named inv S labels = record {
  labels = labels;
  family = λ g b z x. family g b z x (ℕ_discrete g (new_label j m));
  many = λ i h. many i h (ℕ_discrete (lowest_by j (suc m) i) (new_label j m));
  form = λ i h. form i h (ℕ_discrete (lowest_by j (suc m) i) (new_label j m));
  rises = λ g b z. rises g b z (ℕ_discrete g (new_label j m));
}
  where
    joined : (x : List ℤ) → Keeps j (suc m) (new_label j m) x ↔ OnFamily j (suc m) (run_at s') (new_label j m) x
    joined x = Iff.trans (Keeps-joined j m x) (Iff.trans (to, from) (Iff.symm (S.family x)))
      where
        to : KeepsBoth j m x → OnBoth j m (run_at s) x
        to (p, q, e) = ((inv.family (left_label j m) (left_below named) (left_self named) x).0 p, (inv.family (right_label j m) (right_below named) (right_self named) x).0 q, e)

        from : OnBoth j m (run_at s) x → KeepsBoth j m x
        from (p, q, e) = ((inv.family (left_label j m) (left_below named) (left_self named) x).1 p, (inv.family (right_label j m) (right_below named) (right_self named) x).1 q, e)

    family : (g : ℕ) → g < length j.variables → lowest_by j (suc m) g ≡ g → (x : List ℤ) → Dec (g ≡ new_label j m) → Keeps j (suc m) g x ↔ OnFamily j (suc m) (run_at s') g x
    family g b z x (yes e) = rw e (joined x)
    family g b z x (no n) =
        Iff.trans (Keeps-other g n z x) (Iff.trans (inv.family g b (from_other j m g n g z) x) (on_other g n z S b (inv.form g b) x))

    below : (i : ℕ) → i < length j.variables → lowest_by j (suc m) i < length j.variables
    below i h = omega (arith, lowest_by-le j (suc m) i)

    -- a variable of another component
    old : (i : ℕ) → lowest_by j (suc m) i ≢ new_label j m → lowest_by j m i ≡ lowest_by j (suc m) i
    old i n = from_other j m (lowest_by j (suc m) i) n i refl

    same : (i : ℕ) → i < length j.variables → lowest_by j (suc m) i ≢ new_label j m → run_at s' i ≡ run_at s i
    same i h n = stays (lowest_by j (suc m) i) n (lowest_by_self j (suc m) i) S (below i h) i h (old i n)

    many : (i : ℕ) → i < length j.variables → Dec (lowest_by j (suc m) i ≡ new_label j m) → (run_at s' i).many ≡ (run_at s' (lowest_by j (suc m) i)).many
    many i h (yes e) = S.many i h e ∙ ap (λ g. (run_at s' g).many) (sym e)
    many i h (no n) =
        ap (λ r. r.many) (same i h n) ∙ inv.many i h ∙ ap (λ g. (run_at s g).many) (old i n)
        ∙ sym (ap (λ r. r.many) (same (lowest_by j (suc m) i) (below i h) (subst (λ g. g ≢ new_label j m) (sym (lowest_by_self j (suc m) i)) n)))

    form : (i : ℕ) → i < length j.variables → Dec (lowest_by j (suc m) i ≡ new_label j m) → FamilyRun (run_at s' i)
    form i h (yes e) = S.form i h e
    form i h (no n) = subst FamilyRun (sym (same i h n)) (inv.form i h)

    rises : (g : ℕ) → g < length j.variables → lowest_by j (suc m) g ≡ g → Dec (g ≡ new_label j m) → 2 ≤ (run_at s' g).many → pos 0 <ℤ (run_at s' g).step
    rises g b z (yes e) t = subst (λ g. 2 ≤ (run_at s' g).many → pos 0 <ℤ (run_at s' g).step) (sym e) S.rises t
    rises g b z (no n) t =
        let q : run_at s' g ≡ run_at s g = stays g n z S b g b (from_other j m g n g z) in
        subst (λ r. pos 0 <ℤ r.step) (sym q) (inv.rises g b (from_other j m g n g z) (subst (λ r. 2 ≤ r.many) q t))
