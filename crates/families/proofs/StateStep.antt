-- The two ways in which an equation changes the runs: not at all where it is redundant, and else to the members at the
-- indices that it leaves. Either way the joined component's family is what both components and the equation leave.
use mathlib.Core.Path.{◌≡◌, refl, sym, ◌∙◌, ap, ap₂, subst}
use mathlib.Core.Logic.{inl, inr, ⊎_elim, ◌≢◌}
use mathlib.Core.Bool.{Bool, true, false}
use mathlib.Core.List.{List, [], ◌∷◌}
use Prim.Native.Nat.{ℕ, suc, ◌≤◌, ◌<◌}
use native.Mathlib.Decide.{ℕ_discrete}
use lib.Dec.{ltb}
use lib.ListN.{length}
use borrow.Author.Tests.{ltb-true, ltb-false}
use Rattle.ints.proofs.{ℤ, pos, ◌+ℤ◌, ◌*ℤ◌, ◌≤ℤ◌, ◌<ℤ◌, arith, lin, ◌&◌, facts, prod}
use Rattle.runs.specs.declared.Run.{Run}
use Rattle.runs.specs.Run.{nth}
use Rattle.families.specs.FamilyRun.{FamilyRun}
use Rattle.jobs.specs.declared.Equation.{Equation}
use Rattle.jobs.specs.Job.{Job, form}
use Rattle.jobs.specs.NormalForm.{normal_row}
use Rattle.jobs.specs.Solution.{number, value}
use Rattle.jobs.specs.Component.{lowest_by}
use Rattle.families.specs.Model.{leading, State, run_at, Indices, through, run_after}
use Rattle.families.specs.Invariant.{IsMember, OnFamily, Invariant}
use Rattle.families.proofs.Subfamily.{after_left, after_right, after_other, HoldsAt, Picks, pick, pick_is, pick_below, same_nat, two_to_pick, through_many, through-step, through_at, through_form}
use Rattle.families.proofs.JoinPairs.{At}
use Rattle.families.proofs.OneEquation.{Leaves}
use Rattle.families.proofs.Labels.{left_label, right_label, new_label, InEither, Relabelled, from_left, from_right, stays, relabelled, new_is, to_new, from_new}
use Rattle.families.proofs.InvariantStep.{on_family, OnBoth, Step, Named, left_below, right_below, left_self, right_self, new_below, new_self}

-- an equation's value by the numbers of its two variables
valued : (e : Equation) (x : List ℤ) {p q : ℤ} → number x e.left ≡ p → number x e.right ≡ q → value e x ≡ e.a *ℤ p +ℤ e.b *ℤ q
valued e x u v = ap₂ (λ p q. e.a *ℤ p +ℤ e.b *ℤ q) u v

mul_above : (x y : ℤ) → pos 0 <ℤ x → pos 0 <ℤ y → pos 0 <ℤ (x *ℤ y)
mul_above x y h k =
    let a : pos 1 ≤ℤ x = lin (x ∷ []) h (search facts depth 20) (omega arith) in
    let b : pos 1 ≤ℤ y = lin (y ∷ []) k (search facts depth 20) (omega arith) in
    lin (x ∷ y ∷ []) (prod a b & a & b) (search facts depth 20) (omega arith)

-- ---- one of the two components, with lowest variable g: its members are taken at the indices x
record Side (j : Job) (m : ℕ) (s : State) (run' : ℕ → Run) (g : ℕ) (x : Run) : Type 0 where
  below : g < length j.variables
  self : lowest_by j m g ≡ g
  picks : Picks x (run_at s g).many
  taken : (i : ℕ) → i < length j.variables → lowest_by j m i ≡ g → run' i ≡ through (run_at s i) x

module _ {j : Job} {m : ℕ} {s : State} (inv : Invariant j m s) {run' : ℕ → Run} {g : ℕ} {x : Run} (o : Side j m s run' g x) where
  -- many is the same in all of a component, so the indices go for each of its variables
  Picks-at : (i : ℕ) → i < length j.variables → lowest_by j m i ≡ g → Picks x (run_at s i).many
  Picks-at i h e = subst (Picks x) (sym (inv.many i h ∙ ap (λ g. (run_at s g).many) e)) o.picks

  taken_at : {t : ℕ} → t < x.many → (i : ℕ) → i < length j.variables → lowest_by j m i ≡ g → nth (run' i) t ≡ nth (run_at s i) (pick x t)
  taken_at {t} b i h e = ap (λ r. nth r t) (o.taken i h e) ∙ through_at (run_at s i) (Picks-at i h e) b

  taken_many : (i : ℕ) → i < length j.variables → lowest_by j m i ≡ g → (run' i).many ≡ x.many
  taken_many i h e = ap (λ r. r.many) (o.taken i h e) ∙ through_many (run_at s i) x

  taken_form : (i : ℕ) → i < length j.variables → lowest_by j m i ≡ g → FamilyRun (run' i)
  taken_form i h e = subst FamilyRun (sym (o.taken i h e)) (through_form (inv.form i h) (Picks-at i h e))

  -- the lowest variable rises at indices that rise
  taken_rises : 2 ≤ x.many → pos 0 <ℤ x.step → pos 0 <ℤ (run' g).step
  taken_rises t h =
      let e : (run' g).step ≡ (run_at s g).step *ℤ x.step = ap (λ r. r.step) (o.taken g o.below o.self) ∙ through-step (run_at s g) x (omega arith) in
      subst (λ y. pos 0 <ℤ y) (sym e) (mul_above (run_at s g).step x.step (inv.rises g o.below o.self (two_to_pick o.picks t)) h)

  -- number t of those taken is number `pick x t` of the component's family
  was_IsMember : {t : ℕ} {y : List ℤ} → t < x.many → ((i : ℕ) → i < length j.variables → lowest_by j m i ≡ g → number y i ≡ nth (run' i) t) → IsMember j m (run_at s) g (pick x t) y
  was_IsMember b at = record { below = pick_below o.picks b; at = λ i h e. at i h e ∙ taken_at b i h e }

module _ {j : Job} {m : ℕ} {s : State} (named : Named j m) (inv : Invariant j m s) where
  abbrev P : Run
  P = run_at s (normal_row j m).left

  abbrev Q : Run
  Q = run_at s (normal_row j m).right

  left_many : P.many ≡ (run_at s (left_label j m)).many
  left_many = inv.many (normal_row j m).left named.left

  right_many : Q.many ≡ (run_at s (right_label j m)).many
  right_many = inv.many (normal_row j m).right named.right

  -- ---- a redundant equation: the components are one already, and it holds at every index
  module _ (one : left_label j m ≡ right_label j m) (all : (k : ℕ) → HoldsAt (form (normal_row j m)) (nth P k) (nth Q k)) where
    new_left : new_label j m ≡ left_label j m
    new_left = ⊎_elim (λ e. e) (λ e. e ∙ sym one) (new_is j m)

    pub same_label : (i : ℕ) → lowest_by j (suc m) i ≡ lowest_by j m i
    same_label i = go (relabelled j m i)
      where
        go : Relabelled j m i → lowest_by j (suc m) i ≡ lowest_by j m i
        go (from_left a b) = b ∙ new_left ∙ sym a
        go (from_right a b) = b ∙ new_left ∙ one ∙ sym a
        go (stays a b c) = c

    new_old : lowest_by j m (new_label j m) ≡ new_label j m
    new_old = sym (same_label (new_label j m)) ∙ new_self named

    -- a member of the component's family before is one after, and keeps the equation
    was_on : (x : List ℤ) → OnFamily j (suc m) (run_at s) (new_label j m) x → OnFamily j m (run_at s) (left_label j m) x
    was_on x o = on_family (left_below named) (left_self named) (inv.form (left_label j m) (left_below named)) (record {
      below = subst (λ g. o.k < (run_at s g).many) new_left o.is.below;
      at = λ i h l. o.is.at i h (to_new j m i (inl l));
    })

    is_on : (x : List ℤ) → OnFamily j m (run_at s) (left_label j m) x → OnFamily j (suc m) (run_at s) (new_label j m) x
    is_on x o = on_family (new_below named) (new_self named) (inv.form (new_label j m) (new_below named)) (record {
      below = subst (λ g. o.k < (run_at s g).many) (sym new_left) o.is.below;
      at = λ i h l. o.is.at i h (sym (same_label i) ∙ l ∙ new_left);
    })

    keeps : (x : List ℤ) → OnFamily j (suc m) (run_at s) (new_label j m) x → value (normal_row j m) x ≡ (normal_row j m).c
    keeps x o =
        valued (normal_row j m) x (o.is.at (normal_row j m).left named.left (to_new j m (normal_row j m).left (inl refl)))
        (o.is.at (normal_row j m).right named.right (to_new j m (normal_row j m).right (inr refl))) ∙ all o.k

    pub redundant : Step j m (run_at s) (run_at s)
    redundant = record {
      other = λ i h a b. refl;
      many = λ i h e. inv.many i h ∙ ap (λ g. (run_at s g).many) (sym (same_label i) ∙ e);
      form = λ i h e. inv.form i h;
      rises = inv.rises (new_label j m) (new_below named) new_old;
      family = λ x. (λ o. (was_on x o, subst (λ g. OnFamily j m (run_at s) g x) one (was_on x o), keeps x o), λ (p, q, e). is_on x p);
    }

  -- ---- an equation that leaves the pairs of indices ix
  module _ {ix : Indices} (L : Leaves (form (normal_row j m)) (left_label j m) (right_label j m) P Q ix) {run' : ℕ → Run}
      (is : (i : ℕ) → i < length j.variables → run' i ≡ run_after (left_label j m) (right_label j m) ix (lowest_by j m i) (run_at s i)) where
    in_left : (i : ℕ) → i < length j.variables → lowest_by j m i ≡ left_label j m → run' i ≡ through (run_at s i) ix.left
    in_left i h e = is i h ∙ after_left (left_label j m) (right_label j m) ix (lowest_by j m i) (run_at s i) e

    in_right : (i : ℕ) → i < length j.variables → lowest_by j m i ≡ right_label j m → run' i ≡ through (run_at s i) ix.right
    in_right i h e = go (ℕ_discrete (lowest_by j m i) (left_label j m))
      where
        go : Dec (lowest_by j m i ≡ left_label j m) → run' i ≡ through (run_at s i) ix.right
        go (yes l) = in_left i h l ∙ ap (through (run_at s i)) (L.one (sym l ∙ e))
        go (no n) = is i h ∙ after_right (left_label j m) (right_label j m) ix (lowest_by j m i) (run_at s i) n e

    elsewhere : (i : ℕ) → i < length j.variables → lowest_by j m i ≢ left_label j m → lowest_by j m i ≢ right_label j m → run' i ≡ run_at s i
    elsewhere i h a b = is i h ∙ after_other (left_label j m) (right_label j m) ix (lowest_by j m i) (run_at s i) a b

    left : Side j m s run' (left_label j m) ix.left
    left = record { below = left_below named; self = left_self named; picks = subst (Picks ix.left) left_many L.left; taken = in_left }

    right : Side j m s run' (right_label j m) ix.right
    right = record { below = right_below named; self = right_self named; picks = subst (Picks ix.right) right_many L.right; taken = in_right }

    also : {t : ℕ} → t < ix.left.many → t < ix.right.many
    also {t} h = subst (λ n. t < n) (sym L.many) h

    new_many : (i : ℕ) → i < length j.variables → lowest_by j (suc m) i ≡ new_label j m → (run' i).many ≡ ix.left.many
    new_many i h e = ⊎_elim (taken_many inv left i h) (λ l. taken_many inv right i h l ∙ L.many) (from_new j m i e)

    lowest_many : (run' (new_label j m)).many ≡ ix.left.many
    lowest_many = new_many (new_label j m) (new_below named) (new_self named)

    new_form : (i : ℕ) → i < length j.variables → lowest_by j (suc m) i ≡ new_label j m → FamilyRun (run' i)
    new_form i h e = ⊎_elim (taken_form inv left i h) (taken_form inv right i h) (from_new j m i e)

    new_rises : 2 ≤ (run' (new_label j m)).many → pos 0 <ℤ (run' (new_label j m)).step
    new_rises t = go (ltb (left_label j m) (right_label j m)) refl (L.rises two)
      where
        two : 2 ≤ ix.left.many
        two = subst (λ n. 2 ≤ n) lowest_many t

        go : (b : Bool) → ltb (left_label j m) (right_label j m) ≡ b → pos 0 <ℤ (leading b ix).step → pos 0 <ℤ (run' (new_label j m)).step
        go true b h =
            let e : new_label j m ≡ left_label j m = omega (arith, ltb-true (left_label j m) (right_label j m) b) in
            subst (λ g. pos 0 <ℤ (run' g).step) (sym e) (taken_rises inv left two h)
        go false b h =
            let e : new_label j m ≡ right_label j m = omega (arith, ltb-false (left_label j m) (right_label j m) b) in
            subst (λ g. pos 0 <ℤ (run' g).step) (sym e) (taken_rises inv right (subst (λ n. 2 ≤ n) (sym L.many) two) h)

    -- a member of the new family is a member of both, at a pair of indices
    split : (x : List ℤ) → OnFamily j (suc m) run' (new_label j m) x → OnBoth j m (run_at s) x
    split x o = (
      on_family (left_below named) (left_self named) (inv.form (left_label j m) (left_below named)) p,
      on_family (right_below named) (right_self named) (inv.form (right_label j m) (right_below named)) q,
      valued (normal_row j m) x (p.at (normal_row j m).left named.left refl) (q.at (normal_row j m).right named.right refl) ∙ L.holds o.k b,
    )
      where
        b : o.k < ix.left.many
        b = subst (λ n. o.k < n) lowest_many o.is.below

        p : IsMember j m (run_at s) (left_label j m) (pick ix.left o.k) x
        p = was_IsMember inv left b (λ i h l. o.is.at i h (to_new j m i (inl l)))

        q : IsMember j m (run_at s) (right_label j m) (pick ix.right o.k) x
        q = was_IsMember inv right (also b) (λ i h l. o.is.at i h (to_new j m i (inr l)))

    -- and the members of both at a pair of indices make one of the new family
    module _ {x : List ℤ} (p : OnFamily j m (run_at s) (left_label j m) x) (q : OnFamily j m (run_at s) (right_label j m) x) where
      pair : value (normal_row j m) x ≡ (normal_row j m).c → At ix p.k q.k
      pair e =
          L.all p.k q.k (subst (λ n. p.k < n) (sym left_many) p.is.below) (subst (λ n. q.k < n) (sym right_many) q.is.below)
          (λ z. q.only p.k (subst (λ g. IsMember j m (run_at s) g p.k x) z p.is))
          (sym (valued (normal_row j m) x (p.is.at (normal_row j m).left named.left refl) (q.is.at (normal_row j m).right named.right refl)) ∙ e)

      paired : At ix p.k q.k → OnFamily j (suc m) run' (new_label j m) x
      paired a = on_family (new_below named) (new_self named) (new_form (new_label j m) (new_below named) (new_self named)) (record {
        below = subst (λ n. a.place < n) (sym lowest_many) a.below;
        at = λ i h l. at i h (from_new j m i l);
      })
        where
          k_is : p.k ≡ pick ix.left a.place
          k_is = same_nat p.k (pick ix.left a.place) (a.left ∙ pick_is L.left a.below)

          l_is : q.k ≡ pick ix.right a.place
          l_is = same_nat q.k (pick ix.right a.place) (a.right ∙ pick_is L.right (also a.below))

          at : (i : ℕ) → i < length j.variables → InEither j m i → number x i ≡ nth (run' i) a.place
          at i h (inl l) = p.is.at i h l ∙ ap (nth (run_at s i)) k_is ∙ sym (taken_at inv left a.below i h l)
          at i h (inr l) = q.is.at i h l ∙ ap (nth (run_at s i)) l_is ∙ sym (taken_at inv right (also a.below) i h l)

    pub changed : Step j m (run_at s) run'
    changed = record {
      other = elsewhere;
      many = λ i h e. new_many i h e ∙ sym lowest_many;
      form = new_form;
      rises = new_rises;
      family = λ x. (split x, λ (p, q, e). paired p q (pair p q e));
    }
