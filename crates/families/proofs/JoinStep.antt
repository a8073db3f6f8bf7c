-- An equation between two components: `join` has just the pairs of indices into their families at which it holds, each once, and
-- the indices of the component that keeps its lowest variable rise.
use mathlib.Core.Path.{◌≡◌, refl, sym, ◌∙◌, ap, ap₂, subst}
use mathlib.Core.Logic.Iff
use mathlib.Core.Logic.{◌↔◌, ◌≢◌}
use mathlib.Core.Bool.{Bool, true, false, cond, false≢true}
use mathlib.Core.List.{[], ◌∷◌}
use Prim.Native.Nat.{ℕ, ◌≤◌, ◌<◌}
use lib.Dec.{eqb}
use borrow.Author.Tests.{eqb-true, eqb-false}
use Rattle.ints.specs.Equal.{is_equal}
use Rattle.ints.specs.Floor.{floor_div}
use Rattle.ints.proofs.{ℤ, pos, neg_ℤ, ◌+ℤ◌, ◌*ℤ◌, ◌<ℤ◌, arith, lin, lin₀, ◌&◌, facts}
use Rattle.ints.proofs.Products.{cancel}
use Rattle.ints.proofs.Equal.{equal_true}
use Rattle.ints.proofs.Divides.{floor_exact}
use Rattle.runs.specs.declared.Run.{Run}
use Rattle.runs.specs.declared.Equation.{Equation as Form}
use Rattle.runs.specs.Run.{nth, InRun, OneForm, empty}
use Rattle.runs.specs.Search.{meet, carry, Partner}
use Rattle.runs.specs.Workings.{CarryLimits}
use Rattle.runs.proofs.Members.{no_place}
use Rattle.runs.specs.Model.{meet_model}
use Rattle.runs.proofs.Model.{meet_model_lem, carry_model_lem}
use Rattle.runs.proofs.MeetAndCarry.{carry_form}
use Rattle.families.specs.FamilyRun.{Moves, FamilyRun, upward, ratio, index_of, stride_in, across}
use Rattle.families.proofs.FamilyRuns.{OneForm-Moves, turned-Moves, in_turned, upward_form}
use Rattle.families.proofs.ExactQuotients.{Indexed, turned-Indexed, Across, at_across, Across-turned, Across-Moves}
use Rattle.families.proofs.JoinedRuns.{join_form, in_join, join_partners, left, right}
use Rattle.families.specs.Model.{leading, downwards, common_numbers, places, directed, join}
use Rattle.families.proofs.JoinPairs.{At, Pairs, Turned, directed_is}
use Rattle.families.proofs.Subfamily.{HoldsAt, Picks, pick, pick_is, pick_below, Picks-empty, index_only}

-- ---- from the run R of the numbers that are common, and the run S of their partners
-- a step of 0 goes 0 indices
no_stride : (d : ℤ) → ratio (pos 0) d ≡ pos 0
no_stride d = go (is_equal d (pos 0)) refl
  where
    go : (t : Bool) → is_equal d (pos 0) ≡ t → cond t (pos 0) (floor_div (pos 0) d) ≡ pos 0
    go true t = refl
    go false t =
        let nz : d ≢ pos 0 = λ z. false≢true (sym t ∙ (equal_true d (pos 0)).1 z) in
        let zero : pos 0 ≡ d *ℤ pos 0 = lin₀ (d ∷ []) (search facts depth 20) (omega arith) in
        cancel d (floor_div (pos 0) d) (pos 0) nz (floor_exact (pos 0) d nz (record { factor = pos 0; exact = zero }) ∙ zero)

-- indices that are those of the numbers of R, which moves
Picks-of : {r R : Run} {k₀ kₜ : ℤ} → Indexed r R k₀ kₜ → Moves R → (R.many ≤ 1 → kₜ ≡ pos 0) → Picks (record { first = k₀; step = kₜ; many = R.many }) r.many
Picks-of {r} {R} {k₀} {kₜ} i m still = record { moves = record { moves = moves; rests = still }; inside = i.inside }
  where
    moves : 2 ≤ R.many → kₜ ≢ pos 0
    moves h z = m.moves h (lin (R.step ∷ r.step ∷ kₜ ∷ []) (i.step & ap (λ t. r.step *ℤ t) z) (search facts depth 20) (omega arith))

-- number t of R is the number of r at its index
Indexed-at : {r R : Run} {k₀ kₜ : ℤ} → Indexed r R k₀ kₜ → (t k : ℕ) → k₀ +ℤ kₜ *ℤ pos t ≡ pos k → nth R t ≡ nth r k
Indexed-at {r} i t k e = i.at t ∙ ap (λ x. r.first +ℤ r.step *ℤ x) e

-- R has the p of P that some q of Q completes
abbrev Completed : Form → Run → Run → Run → Type 0
Completed e P Q R = (p : ℤ) → InRun R p ↔ (InRun P p × Partner e.a e.b e.c Q p)

-- so it has the number of P of a pair at which the equation holds
completes : {e : Form} {P Q R : Run} → Completed e P Q R → {k l : ℕ} → k < P.many → l < Q.many → HoldsAt e (nth P k) (nth Q l) → InRun R (nth P k)
completes {P} {Q} joined {k} {l} h h' q =
    (joined (nth P k)).1 (record { place = k; below = h; is = refl }, record { q = nth Q l; member = record { place = l; below = h'; is = refl }; holds = q })

-- what crate runs knows of R
record Known (e : Form) (P Q R : Run) : Type 0 where
  form : OneForm R
  completed : Completed e P Q R
  partners : 1 ≤ R.many → Across e.a e.b e.c R (across e.a e.b e.c R)
  left : 1 ≤ R.many → Indexed P R (index_of P R.first) (stride_in P R.step)
  right : 1 ≤ R.many → Indexed Q (across e.a e.b e.c R) (index_of Q (across e.a e.b e.c R).first) (stride_in Q (across e.a e.b e.c R).step)

module _ {e : Form} (lim : CarryLimits e) {P Q : Run} (f : FamilyRun P) (g : FamilyRun Q) where
  module _ {R S : Run} (m : Moves R) (joined : Completed e P Q R) (o : Across e.a e.b e.c R S) {k₀ kₜ l₀ lₜ : ℤ}
      (i : Indexed P R k₀ kₜ) (j : Indexed Q S l₀ lₜ) (still : R.many ≤ 1 → kₜ ≡ pos 0) (still' : S.many ≤ 1 → lₜ ≡ pos 0) where
    abbrev ps : Run
    ps = record { first = k₀; step = kₜ; many = R.many }

    abbrev qs : Run
    qs = record { first = l₀; step = lₜ; many = S.many }

    lefts : Picks ps P.many
    lefts = Picks-of i m still

    rights : Picks qs Q.many
    rights = Picks-of j (Across-Moves lim.left_not_zero lim.right_not_zero o m) still'

    also : {t : ℕ} → t < R.many → t < S.many
    also {t} h = subst (λ n. t < n) (sym o.many) h

    left_at : {t : ℕ} → t < R.many → nth R t ≡ nth P (pick ps t)
    left_at {t} h = Indexed-at i t (pick ps t) (pick_is lefts h)

    right_at : {t : ℕ} → t < R.many → nth S t ≡ nth Q (pick qs t)
    right_at {t} h = Indexed-at j t (pick qs t) (pick_is rights (also h))

    find : (k l : ℕ) → k < P.many → l < Q.many → HoldsAt e (nth P k) (nth Q l) → At (record { left = ps; right = qs }) k l
    find k l h h' q = go (completes joined h h' q)
      where
        partner : (p p' u v : ℤ) → p ≡ p' → e.a *ℤ p +ℤ e.b *ℤ u ≡ e.c → e.a *ℤ p' +ℤ e.b *ℤ v ≡ e.c → u ≡ v
        partner p p' u v z x y =
            cancel e.b u v lim.right_not_zero
            (lin (e.a ∷ e.b ∷ e.c ∷ p ∷ p' ∷ u ∷ v ∷ []) (x & y & ap (λ s. e.a *ℤ s) z) (search facts depth 20) (omega arith))

        go : InRun R (nth P k) → At (record { left = ps; right = qs }) k l
        go n =
            let t : ℕ = n.place in
            let b : t < R.many = n.below in
            let x : k ≡ pick ps t = index_only f.moves h (pick_below lefts b) (n.is ∙ left_at b) in
            let z : nth Q l ≡ nth S t = partner (nth P k) (nth R t) (nth Q l) (nth S t) n.is q (at_across o t) in
            let y : l ≡ pick qs t = index_only g.moves h' (pick_below rights (also b)) (z ∙ right_at b) in
            record { place = t; below = b; left = ap pos x ∙ sym (pick_is lefts b); right = ap pos y ∙ sym (pick_is rights (also b)) }

    paired : Pairs e P Q (record { left = ps; right = qs })
    paired = record {
      left = lefts;
      right = rights;
      many = o.many;
      holds = λ t h. ap₂ (λ p q. e.a *ℤ p +ℤ e.b *ℤ q) (sym (left_at h)) (sym (right_at h)) ∙ at_across o t;
      all = find;
    }

  -- ---- R is worked out by the model; it is the definitions' meet
  pub common_is : common_numbers e P Q ≡ meet (upward P) (carry e.a e.b e.c (upward Q))
  unfolding common_numbers
  common_is = ap (meet_model (upward P)) (carry_model_lem lim (upward_form g)) ∙ meet_model_lem (upward_form f) (carry_form lim (upward_form g))

  known : Known e P Q (common_numbers e P Q)
  known = subst (Known e P Q) (sym common_is) (record {
    form = join_form lim f g;
    completed = in_join lim f g;
    partners = join_partners lim f g;
    left = left lim f g;
    right = right lim f g;
  })

  -- ---- the indices of R and of the partners, and the same downwards
  module _ {R : Run} (o : Known e P Q R) (some : 1 ≤ R.many) where
    abbrev S : Run
    S = across e.a e.b e.c R

    moves : Moves R
    moves = OneForm-Moves o.form

    still : (r : Run) {x : Run} → Moves x → x.many ≤ 1 → stride_in r x.step ≡ pos 0
    still r m h = ap (λ s. ratio s r.step) (m.rests h) ∙ no_stride r.step

    partners_move : Moves S
    partners_move = Across-Moves lim.left_not_zero lim.right_not_zero (o.partners some) moves

    upwards_paired : Pairs e P Q (places e P Q R)
    upwards_paired = paired moves o.completed (o.partners some) (o.left some) (o.right some) (still P moves) (still Q partners_move)

    downwards_paired : Pairs e P Q (downwards (places e P Q R))
    downwards_paired =
        paired (turned-Moves moves) (λ p. Iff.trans (Iff.symm (in_turned R p)) (o.completed p)) (Across-turned (o.partners some))
        (turned-Indexed (o.left some)) (turned-Indexed (o.right some)) (λ h. ap neg_ℤ (still P moves h)) (λ h. ap neg_ℤ (still Q partners_move h))

  -- nothing is common, and no pair holds
  none_paired : {R : Run} → Known e P Q R → R.many ≡ 0 → Pairs e P Q (record { left = empty; right = empty })
  none_paired o z = record {
    left = Picks-empty P.many;
    right = Picks-empty Q.many;
    many = refl;
    holds = λ t h. absurd (omega arith);
    all = λ k l h h' q. absurd (no_place z (completes o.completed h h' q));
  }

  joined : {R : Run} → Known e P Q R → (lower : Bool) → Turned e P Q lower (join e P Q R lower)
  joined {R} o lower = go (eqb R.many 0) refl
    where
      go : (t : Bool) → eqb R.many 0 ≡ t → Turned e P Q lower (cond t (record { left = empty; right = empty }) (directed lower (places e P Q R)))
      go true t = record { pairs = none_paired o (eqb-true R.many 0 t); rises = λ h. absurd (omega arith) }
      go false t =
          let z : R.many ≢ 0 = eqb-false R.many 0 t in
          let some : 1 ≤ R.many = omega (arith, z) in
          directed_is lower (upwards_paired o some) (downwards_paired o some)

  -- the join has just the pairs of indices at which the equation holds
  pub join-Pairs : (lower : Bool) → Pairs e P Q (join e P Q (common_numbers e P Q) lower)
  join-Pairs lower = (joined known lower).pairs

  -- and the indices of the component that keeps its lowest variable rise
  pub join_rises : (lower : Bool) → 2 ≤ (join e P Q (common_numbers e P Q) lower).left.many → pos 0 <ℤ (leading lower (join e P Q (common_numbers e P Q) lower)).step
  join_rises lower = (joined known lower).rises
