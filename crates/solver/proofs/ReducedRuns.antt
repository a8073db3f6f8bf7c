-- What stays of the runs of one component, and of two: variable by variable.
use mathlib.Core.Path.{◌≡◌, refl, sym, ◌∙◌, ap, subst}
use mathlib.Core.Logic.{◌≢◌}
use mathlib.Core.Bool.{cond}
use mathlib.Core.List.{List}
use Prim.Native.Nat.{ℕ, ◌+◌, ◌≤◌, ◌<◌}
use native.Mathlib.Decide.{ℕ_discrete}
use native.Mathlib.Omega.{arith}
use borrow.Author.Tests.{eq-eqb, ne_eqb}
use lib.Dec.{eqb}
use lib.ListN.{length, set, get_or, length-set}
use lib.Seq.{get_or-set_same, get_or-set_other}
use mir.Syntax.{w64}
use mir.Val.{SFits}
use mir.Facts.{to_z-of_z}
use Rattle.ints.proofs.Signed.{held}
use Rattle.runs.specs.declared.Run.{Run}
use Rattle.runs.specs.Run.{empty}
use Rattle.runs.proofs.Members.{same_run}
use Rattle.families.specs.FamilyRun.{FamilyRun}
use Rattle.families.specs.Model.{through}
use Rattle.families.proofs.Subfamily.{after_left, after_right, after_other, through_many}
use Rattle.lists.proofs.ArrayPass.{Passed, begin, write, skip, leap}
use Rattle.solver.specs.StateArrays.{label_in, run_in}
use Rattle.solver.specs.Labels.{Lowest}
use Rattle.solver.specs.Spans.{Leads, Spans}
use Rattle.solver.specs.Runs.{gathered}
use Rattle.solver.specs.declared.join.Indices.{Indices}
use Rattle.solver.specs.Steps.{indices_by, Reducible, part_of, Reduces, Stays, both_part, BothReduce}

-- a run whose numbers locals hold
held_run : (r : Run) (many : ℕ) → SFits w64 r.first → SFits w64 r.step → ◌≡◌ {A = Run} record { first = held r.first; step = held r.step; many = many } (record r { many = many })
held_run r many f t = same_run (to_z-of_z f) (to_z-of_z t) refl

-- ---- one component
module _ (labels : List ℕ) (runs : List Run) (g : ℕ) (kept : Run) where
  pub part_other : (v : ℕ) → label_in labels v ≢ g → gathered labels runs v ≡ part_of labels runs g kept v
  part_other v h = sym (ap (λ b. cond b (through (gathered labels runs v) kept) (gathered labels runs v)) (ne_eqb (label_in labels v) g h))

  pub part_own : (v : ℕ) → label_in labels v ≡ g → through (gathered labels runs v) kept ≡ part_of labels runs g kept v
  part_own v h = sym (ap (λ b. cond b (through (gathered labels runs v) kept) (gathered labels runs v)) (eq-eqb (label_in labels v) g h))

-- the array once it is written how many stay
abbrev pub counted : List Run → ℕ → Run → List Run
counted runs g kept = set runs g (record (run_in runs g) { many = kept.many })

-- what the walk makes of a run of the component, if it had so many numbers
abbrev pub moved_run : Run → Run → ℕ → Run
moved_run r kept many = record { first = (through (record r { many = many }) kept).first; step = (through (record r { many = many }) kept).step; many = r.many }

-- and so of the place v of that array
abbrev pub moved : List ℕ → List Run → ℕ → Run → ℕ → Run
moved labels runs g kept v =
    cond (eqb (label_in labels v) g) (moved_run (run_in (counted runs g kept) v) kept (run_in runs g).many) (run_in (counted runs g kept) v)

module _ {labels lasts : List ℕ} {n g : ℕ} (runs : List Run) (kept : Run) (spans : Spans labels lasts n) (leads : Leads labels n g) (small : n ≤ 256) (wide : length runs ≡ 256) where
  abbrev many : ℕ
  many = (run_in runs g).many

  abbrev first_runs : List Run
  first_runs = counted runs g kept

  at_g : run_in (counted runs g kept) g ≡ record (run_in runs g) { many = kept.many }
  at_g = get_or-set_same runs g (record (run_in runs g) { many = kept.many }) empty (omega (arith, leads.below, small, wide))

  off_g : (v : ℕ) → v ≢ g → run_in (counted runs g kept) v ≡ run_in runs v
  off_g v d = get_or-set_other runs g v (record (run_in runs g) { many = kept.many }) empty d

  same_first : (v : ℕ) → Dec (v ≡ g) → (run_in (counted runs g kept) v).first ≡ (run_in runs v).first
  same_first v (yes e) = ap (λ v. (run_in (counted runs g kept) v).first) e ∙ ap (λ r. r.first) at_g ∙ ap (λ v. (run_in runs v).first) (sym e)
  same_first v (no d) = ap (λ r. r.first) (off_g v d)

  same_step : (v : ℕ) → Dec (v ≡ g) → (run_in (counted runs g kept) v).step ≡ (run_in runs v).step
  same_step v (yes e) = ap (λ v. (run_in (counted runs g kept) v).step) e ∙ ap (λ r. r.step) at_g ∙ ap (λ v. (run_in runs v).step) (sym e)
  same_step v (no d) = ap (λ r. r.step) (off_g v d)

  -- what stood there, with how many it had
  pub stood : (v : ℕ) → label_in labels v ≡ g → record (run_in (counted runs g kept) v) { many = (run_in runs g).many } ≡ gathered labels runs v
  stood v e = same_run (same_first v (ℕ_discrete v g)) (same_step v (ℕ_discrete v g)) (ap (λ u. (run_in runs u).many) (sym e))

  pub moved_own : (v : ℕ) → label_in labels v ≡ g → moved_run (run_in (counted runs g kept) v) kept (run_in runs g).many ≡ moved labels runs g kept v
  moved_own v e = sym (ap (λ b. cond b (moved_run (run_in first_runs v) kept many) (run_in first_runs v)) (eq-eqb (label_in labels v) g e))

  pub moved_other : (v : ℕ) → label_in labels v ≢ g → run_in (counted runs g kept) v ≡ moved labels runs g kept v
  moved_other v d = sym (ap (λ b. cond b (moved_run (run_in first_runs v) kept many) (run_in first_runs v)) (ne_eqb (label_in labels v) g d))

  moved_many : (v : ℕ) → Dec (label_in labels v ≡ g) → (moved labels runs g kept v).many ≡ (run_in (counted runs g kept) v).many
  moved_many v (yes e) = ap (λ r. r.many) (sym (moved_own v e))
  moved_many v (no d) = ap (λ r. r.many) (sym (moved_other v d))

  -- with every place as it is wanted
  module _ (after : List Run) (done : (v : ℕ) → v < n → run_in after v ≡ moved labels runs g kept v) where
    how_many : (v : ℕ) → v < n → (run_in after (label_in labels v)).many ≡ (run_in (counted runs g kept) (label_in labels v)).many
    how_many v h = ap (λ r. r.many) (done (label_in labels v) (omega (arith, spans.low v h, h))) ∙ moved_many (label_in labels v) (ℕ_discrete (label_in labels (label_in labels v)) g)

    reduced : Reduces labels runs g kept n after
    reduced = record { at = λ v h. go v h (ℕ_discrete (label_in labels v) g) }
      where
        go : (v : ℕ) → v < n → Dec (label_in labels v ≡ g) → gathered labels after v ≡ part_of labels runs g kept v
        go v h (yes e) =
            same_run
            (ap (λ r. r.first) (done v h ∙ sym (moved_own v e)) ∙ ap (λ r. (through r kept).first) (stood v e))
            (ap (λ r. r.step) (done v h ∙ sym (moved_own v e)) ∙ ap (λ r. (through r kept).step) (stood v e))
            (how_many v h ∙ ap (λ u. (run_in first_runs u).many) e ∙ ap (λ r. r.many) at_g ∙ sym (through_many (gathered labels runs v) kept))
            ∙ part_own labels runs g kept v e
        go v h (no d) =
            same_run
            (ap (λ r. r.first) (done v h ∙ sym (moved_other v d)) ∙ same_first v (ℕ_discrete v g))
            (ap (λ r. r.step) (done v h ∙ sym (moved_other v d)) ∙ same_step v (ℕ_discrete v g))
            (how_many v h ∙ ap (λ r. r.many) (off_g (label_in labels v) d))
            ∙ part_other labels runs g kept v d

  -- the walk from the lowest variable of the component,
  pub setting_out : Passed 256 empty (moved labels runs g kept) (counted runs g kept) g (counted runs g kept)
  setting_out = begin empty (moved labels runs g kept) first_runs g (simp length-set wide) (λ k h. moved_other k (λ e. omega (arith, spans.low k (omega (arith, h, leads.below)), e, h)))

  -- past what it has written already: the run that it reads, as locals hold it, and what it writes
  module _ (i : ℕ) (e : label_in labels i ≡ g) (now : List Run) (p : Passed 256 empty (moved labels runs g kept) (counted runs g kept) i now) where
    pub standing : SFits w64 (run_in now i).first → SFits w64 (run_in now i).step →
        ◌≡◌ {A = Run} record { first = held (run_in now i).first; step = held (run_in now i).step; many = (run_in runs g).many } (gathered labels runs i)
    standing f t = held_run (run_in now i) many f t ∙ ap (λ (r : Run). record r { many = many }) (p.ahead i (omega arith)) ∙ stood i e

    pub walked : i < 256 → (part : Run) → part ≡ through (gathered labels runs i) kept → SFits w64 part.first → SFits w64 part.step →
        Passed 256 empty (moved labels runs g kept) (counted runs g kept) (i + 1) (set now i (record { first = held part.first; step = held part.step; many = (run_in now i).many }))
    walked h part q f t = write empty (moved labels runs g kept) first_runs i now p (record { first = held part.first; step = held part.step; many = (run_in now i).many }) h
        (held_run part (run_in now i).many f t
        ∙ same_run (ap (λ r. r.first) from_stood) (ap (λ r. r.step) from_stood) (ap (λ r. r.many) (p.ahead i (omega arith)))
        ∙ moved_own i e)
      where
        from_stood : part ≡ through (record (run_in (counted runs g kept) i) { many = (run_in runs g).many }) kept
        from_stood = q ∙ ap (λ run. through run kept) (sym (stood i e))

  pub passed_by : (i : ℕ) → label_in labels i ≢ g → (now : List Run) → Passed 256 empty (moved labels runs g kept) (counted runs g kept) i now →
      Passed 256 empty (moved labels runs g kept) (counted runs g kept) (i + 1) now
  passed_by i d now p = skip empty (moved labels runs g kept) first_runs i now p (moved_other i d)

  -- to its last: outside the component has no variables
  pub arrived : (i : ℕ) → get_or lasts g 0 + 1 ≤ i → (g ≤ get_or lasts g 0 + 1 → i ≤ get_or lasts g 0 + 1) → (after : List Run) →
      Passed 256 empty (moved labels runs g kept) (counted runs g kept) i after → Reduces labels runs g kept n after
  arrived i behind ahead after p = reduced after far.behind.done
    where
      beyond : (k : ℕ) → i ≤ k → k < n → run_in (counted runs g kept) k ≡ moved labels runs g kept k
      beyond k a b = moved_other k (λ e. omega (arith, spans.high k b, ap (λ l. get_or lasts l 0) e, a, behind))

      last : g ≤ get_or lasts g 0
      last = omega (arith, spans.high g leads.below, ap (λ l. get_or lasts l 0) leads.self)

      far : Passed 256 empty (moved labels runs g kept) (counted runs g kept) n after
      far = leap empty (moved labels runs g kept) first_runs i after p n (omega (arith, spans.inside g leads.below, ahead (omega (arith, last)))) beyond

  -- where the members keep their places there is no walk
  pub staying : Reducible labels runs g kept n → Stays kept (run_in runs g).many → Reduces labels runs g kept n (counted runs g kept)
  staying x s = reduced (counted runs g kept) (λ v h. go v h (ℕ_discrete (label_in labels v) g))
    where
      go : (v : ℕ) → v < n → Dec (label_in labels v ≡ g) → run_in (counted runs g kept) v ≡ moved labels runs g kept v
      go v h (yes e) =
          let f : FamilyRun (gathered labels runs v) = x.before v h e in
          let m : (gathered labels runs v).many ≡ many = ap (λ u. (run_in runs u).many) e in
          same_run
          (same_first v (ℕ_discrete v g) ∙ sym (s.first (gathered labels runs v) f m) ∙ ap (λ r. (through r kept).first) (sym (stood v e)))
          (same_step v (ℕ_discrete v g) ∙ sym (s.step (gathered labels runs v) f m) ∙ ap (λ r. (through r kept).step) (sym (stood v e)))
          refl
          ∙ moved_own v e
      go v h (no d) = moved_other v d

-- ---- two
module _ (labels : List ℕ) (runs : List Run) (l r : ℕ) (i : Indices) (n : ℕ) (runs₁ : List Run) (a : Reduces labels runs l i.left n runs₁) where
  -- what the first leaves of its own component, and of the others
  first_left : (v : ℕ) → v < n → label_in labels v ≡ l → gathered labels runs₁ v ≡ both_part labels runs l r i v
  first_left v h e = a.at v h ∙ sym (part_own labels runs l i.left v e) ∙ sym (after_left l r (indices_by i) (label_in labels v) (gathered labels runs v) e)

  as_it_was : (v : ℕ) → v < n → label_in labels v ≢ l → gathered labels runs₁ v ≡ gathered labels runs v
  as_it_was v h d = a.at v h ∙ sym (part_other labels runs l i.left v d)

  neither : (v : ℕ) → v < n → label_in labels v ≢ l → label_in labels v ≢ r → gathered labels runs₁ v ≡ both_part labels runs l r i v
  neither v h d q = as_it_was v h d ∙ sym (after_other l r (indices_by i) (label_in labels v) (gathered labels runs v) d q)

  -- one component alone
  pub both_one : l ≡ r → BothReduce labels runs l r i n runs₁
  both_one z = record { at = λ v h. go v h (ℕ_discrete (label_in labels v) l) }
    where
      go : (v : ℕ) → v < n → Dec (label_in labels v ≡ l) → gathered labels runs₁ v ≡ both_part labels runs l r i v
      go v h (yes e) = first_left v h e
      go v h (no d) = neither v h d (λ e. d (e ∙ sym z))

  -- two of them, one after the other
  module _ (other : l ≢ r) where
    pub still_Reducible : Reducible labels runs r i.right n → Reducible labels runs₁ r i.right n
    still_Reducible x = record {
      before = λ v h e. subst FamilyRun (sym (as_it_was v h (λ z. other (sym z ∙ e)))) (x.before v h e);
      after = λ v h e. subst (λ run. FamilyRun (through run i.right)) (sym (as_it_was v h (λ z. other (sym z ∙ e)))) (x.after v h e);
    }

    pub both_two : (runs₂ : List Run) → Reduces labels runs₁ r i.right n runs₂ → BothReduce labels runs l r i n runs₂
    both_two runs₂ b = record { at = λ v h. b.at v h ∙ go v h (ℕ_discrete (label_in labels v) l) (ℕ_discrete (label_in labels v) r) }
      where
        go : (v : ℕ) → v < n → Dec (label_in labels v ≡ l) → Dec (label_in labels v ≡ r) → part_of labels runs₁ r i.right v ≡ both_part labels runs l r i v
        go v h (yes z) d = sym (part_other labels runs₁ r i.right v (λ e. other (sym z ∙ e))) ∙ first_left v h z
        go v h (no p) (yes z) =
            sym (part_own labels runs₁ r i.right v z) ∙ ap (λ run. through run i.right) (as_it_was v h p)
            ∙ sym (after_right l r (indices_by i) (label_in labels v) (gathered labels runs v) p z)
        go v h (no p) (no q) = sym (part_other labels runs₁ r i.right v q) ∙ neither v h p q

-- ---- every run with how many it has
module _ {labels : List ℕ} {n : ℕ} (runs : List Run) (w : Lowest labels n) where
  -- up to variable i it is written; how many the lowest variable has was there before
  pub found : (i : ℕ) → i < n → (now : List Run) → Passed 256 empty (gathered labels runs) runs i now → record (run_in now i) { many = (run_in now (label_in labels i)).many } ≡ gathered labels runs i
  found i h now p = same_run (ap (λ r. r.first) here) (ap (λ r. r.step) here) (go (ℕ_discrete (label_in labels i) i))
    where
      here : run_in now i ≡ run_in runs i
      here = p.ahead i (omega arith)

      go : Dec (label_in labels i ≡ i) → (run_in now (label_in labels i)).many ≡ (run_in runs (label_in labels i)).many
      go (yes e) = ap (λ r. r.many) (p.ahead (label_in labels i) (omega (arith, e)))
      go (no d) = ap (λ r. r.many) (p.behind.done (label_in labels i) (omega (arith, w.low i h, d))) ∙ ap (λ u. (run_in runs u).many) (w.self i h)
