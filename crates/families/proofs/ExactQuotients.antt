-- Where the numbers of one run stand in another: exact quotients.
use mathlib.Core.Path.{◌≡◌, refl, sym, ◌∙◌, ap, subst}
use mathlib.Core.Logic.{◌⊎◌, inl, inr, ◌≢◌}
use mathlib.Core.Bool.{Bool, true, false, cond, false≢true}
use mathlib.Core.List.{[], ◌∷◌}
use Prim.Native.Nat.{ℕ, zero, suc, ◌≤◌, ◌<◌}
use Rattle.ints.specs.Equal.{is_equal}
use Rattle.ints.specs.Floor.{floor_div}
use Rattle.ints.specs.Divides.{◌∣ℤ◌}
use Rattle.ints.proofs.{ℤ, pos, neg_ℤ, nat_abs, ◌+ℤ◌, ◌-ℤ◌, ◌*ℤ◌, ◌≤ℤ◌, ◌<ℤ◌, arith, lin, ◌&◌, facts}
use Rattle.ints.proofs.Order.{abs_nonneg, nat_nonneg}
use Rattle.ints.proofs.Products.{cancel}
use Rattle.ints.proofs.Equal.{equal_true}
use Rattle.ints.proofs.Divides.{floor_exact}
use Rattle.families.specs.FamilyRun.{Moves, turned, ratio, index_of, stride_in, across}
use Rattle.runs.specs.declared.Run.{Run}
use Rattle.runs.specs.Run.{nth, InRun}
use Rattle.runs.specs.Search.{Partner}

-- ---- the quotient
ratio_none : (n d : ℤ) → d ≡ pos 0 → ratio n d ≡ pos 0
ratio_none n d z = ap (λ t. cond t (pos 0) (floor_div n d)) ((equal_true d (pos 0)).1 z)

ratio_exact : (n d : ℤ) → d ∣ℤ n → d *ℤ ratio n d ≡ n
ratio_exact n d h = go (is_equal d (pos 0)) refl
  where
    go : (t : Bool) → is_equal d (pos 0) ≡ t → d *ℤ cond t (pos 0) (floor_div n d) ≡ n
    go true e = lin (n ∷ d ∷ h.factor ∷ []) (h.exact & ap (λ t. t *ℤ h.factor) ((equal_true d (pos 0)).0 e)) (search facts depth 20) (omega arith)
    go false e = floor_exact n d (λ z. false≢true (sym e ∙ (equal_true d (pos 0)).1 z)) h

-- fewer than two, or not
pub few_or_more : (n : ℕ) → (n ≤ 1) ⊎ (2 ≤ n)
few_or_more zero = inl (omega arith)
few_or_more (suc zero) = inl (omega arith)
few_or_more (suc (suc n)) = inr (omega arith)

-- what leads to the number at place k is k; a step of 0 leads there from anywhere, and has the place 0 alone
only : {r : Run} → Moves r → (i : ℤ) (k : ℕ) → k < r.many → r.step *ℤ i ≡ r.step *ℤ pos k → (r.step ≡ pos 0 → i ≡ pos 0) → i ≡ pos k
only {r} m i k h e z = go (few_or_more r.many)
  where
    go : (r.many ≤ 1) ⊎ (2 ≤ r.many) → i ≡ pos k
    go (inl l) = lin (i ∷ pos k ∷ pos r.many ∷ []) (z (m.rests l) & h & l) (search facts depth 20) (omega arith)
    go (inr l) = cancel r.step i (pos k) (m.moves l) e

-- an index is the only one
pub index_one : {r : Run} → Moves r → {x : ℤ} {k : ℕ} → k < r.many → x ≡ nth r k → index_of r x ≡ pos k
index_one {r} m {x} {k} h e = only m (index_of r x) k h there (ratio_none (x -ℤ r.first) r.step)
  where
    apart : x -ℤ r.first ≡ r.step *ℤ pos k
    apart = lin (x ∷ r.first ∷ r.step ∷ pos k ∷ []) e (search facts depth 20) (omega arith)

    there : r.step *ℤ index_of r x ≡ r.step *ℤ pos k
    there = ratio_exact (x -ℤ r.first) r.step (record { factor = pos k; exact = apart }) ∙ apart

-- ---- number k of R is number k₀ + kₜ·k of r
pub record Indexed (r R : Run) (k₀ kₜ : ℤ) : Type 0 where
  pub first : R.first ≡ r.first +ℤ r.step *ℤ k₀
  pub step : R.step ≡ r.step *ℤ kₜ
  pub inside : (k : ℕ) → k < R.many → (pos 0 ≤ℤ (k₀ +ℤ kₜ *ℤ pos k)) × ((k₀ +ℤ kₜ *ℤ pos k) <ℤ pos r.many)
  pub at : (k : ℕ) → nth R k ≡ r.first +ℤ r.step *ℤ (k₀ +ℤ kₜ *ℤ pos k)

-- the first number and the step decide the others
follow : (r R : Run) (k₀ kₜ : ℤ) → R.first ≡ r.first +ℤ r.step *ℤ k₀ → R.step ≡ r.step *ℤ kₜ →
    (k : ℕ) → nth R k ≡ r.first +ℤ r.step *ℤ (k₀ +ℤ kₜ *ℤ pos k)
follow r R k₀ kₜ e f k =
    lin (R.first ∷ R.step ∷ r.first ∷ r.step ∷ k₀ ∷ kₜ ∷ pos k ∷ []) (e & ap (λ t. t *ℤ pos k) f) (search facts depth 20) (omega arith)

-- where every number of R is one of r, the quotients are the indices
module _ {r R : Run} (m : Moves r) (M : Moves R) (some : 1 ≤ R.many) (sub : (x : ℤ) → InRun R x → InRun r x) where
  abbrev k₀ : ℤ
  k₀ = index_of r R.first

  abbrev kₜ : ℤ
  kₜ = stride_in r R.step

  found : (k : ℕ) → k < R.many → InRun r (nth R k)
  found k h = sub (nth R k) (record { place = k; below = h; is = refl })

  -- r's step divides the way to the first number, and to the next
  begins : r.step ∣ℤ (R.first -ℤ r.first)
  begins =
      let f : InRun r (nth R 0) = found 0 some in
      record { factor = pos f.place; exact = lin (r.first ∷ r.step ∷ R.first ∷ R.step ∷ pos f.place ∷ []) f.is (search facts depth 20) (omega arith) }

  goes_on : r.step ∣ℤ R.step
  goes_on = go (few_or_more R.many)
    where
      go : (R.many ≤ 1) ⊎ (2 ≤ R.many) → r.step ∣ℤ R.step
      go (inl h) = record { factor = pos 0; exact = lin (r.step ∷ R.step ∷ []) (M.rests h) (search facts depth 20) (omega arith) }
      go (inr h) =
          let f : InRun r (nth R 1) = found 1 h in
          record {
            factor = pos f.place -ℤ begins.factor;
            exact = lin (r.first ∷ r.step ∷ R.first ∷ R.step ∷ pos f.place ∷ begins.factor ∷ []) (f.is & begins.exact) (search facts depth 20) (omega arith);
          }

  pub indexed : Indexed r R (index_of r R.first) (stride_in r R.step)
  indexed = record { first = first; step = step; inside = inside; at = at }
    where
      first : R.first ≡ r.first +ℤ r.step *ℤ k₀
      first = lin (r.first ∷ r.step ∷ R.first ∷ k₀ ∷ []) (ratio_exact (R.first -ℤ r.first) r.step begins) (search facts depth 20) (omega arith)

      step : R.step ≡ r.step *ℤ kₜ
      step = sym (ratio_exact R.step r.step goes_on)

      at : (k : ℕ) → nth R k ≡ r.first +ℤ r.step *ℤ (k₀ +ℤ kₜ *ℤ pos k)
      at = follow r R k₀ kₜ first step

      none : (k : ℕ) → r.step ≡ pos 0 → k₀ +ℤ kₜ *ℤ pos k ≡ pos 0
      none k z =
          lin (k₀ ∷ kₜ ∷ pos k ∷ []) (ratio_none (R.first -ℤ r.first) r.step z & ap (λ t. t *ℤ pos k) (ratio_none R.step r.step z)) (search facts depth 20) (omega arith)

      inside : (k : ℕ) → k < R.many → (pos 0 ≤ℤ (k₀ +ℤ kₜ *ℤ pos k)) × ((k₀ +ℤ kₜ *ℤ pos k) <ℤ pos r.many)
      inside k h =
          let f : InRun r (nth R k) = found k h in
          let i : ℤ = k₀ +ℤ kₜ *ℤ pos k in
          let e : i ≡ pos f.place =
          only m i f.place f.below (lin (r.first ∷ r.step ∷ nth R k ∷ i ∷ pos f.place ∷ []) (f.is & at k) (search facts depth 20) (omega arith)) (none k) in
          lin (i ∷ pos f.place ∷ pos r.many ∷ []) (e & nat_nonneg f.place & f.below) (search facts depth 20) (omega arith)

-- downwards: from the last index, the other way
pub turned-Indexed : {r R : Run} {k₀ kₜ : ℤ} → Indexed r R k₀ kₜ → Indexed r (turned R) (k₀ +ℤ kₜ *ℤ (pos R.many -ℤ pos 1)) (neg_ℤ kₜ)
turned-Indexed {r} {R} {k₀} {kₜ} i = record { first = first; step = step; inside = inside; at = follow r (turned R) j₀ (neg_ℤ kₜ) first step }
  where
    n : ℤ
    n = pos R.many -ℤ pos 1

    j₀ : ℤ
    j₀ = k₀ +ℤ kₜ *ℤ n

    first : R.first +ℤ R.step *ℤ n ≡ r.first +ℤ r.step *ℤ j₀
    first = lin (R.first ∷ R.step ∷ r.first ∷ r.step ∷ k₀ ∷ kₜ ∷ n ∷ []) (i.first & ap (λ t. t *ℤ n) i.step) (search facts depth 20) (omega arith)

    step : neg_ℤ R.step ≡ r.step *ℤ neg_ℤ kₜ
    step = lin (R.step ∷ r.step ∷ kₜ ∷ []) i.step (search facts depth 20) (omega arith)

    inside : (k : ℕ) → k < R.many → (pos 0 ≤ℤ (j₀ +ℤ neg_ℤ kₜ *ℤ pos k)) × ((j₀ +ℤ neg_ℤ kₜ *ℤ pos k) <ℤ pos r.many)
    inside k h =
        let l : ℕ = nat_abs (n -ℤ pos k) in
        let e : n -ℤ pos k ≡ pos l = abs_nonneg (n -ℤ pos k) (lin (pos R.many ∷ pos k ∷ []) h (search facts depth 20) (omega arith)) in
        let below : l < R.many = lin (pos R.many ∷ pos k ∷ pos l ∷ []) (e & nat_nonneg k) (search facts depth 20) (omega arith) in
        lin (k₀ ∷ kₜ ∷ n ∷ pos k ∷ pos l ∷ pos r.many ∷ []) (i.inside l below & ap (λ t. kₜ *ℤ t) e) (search facts depth 20) (omega arith)

-- ---- the partners q of the numbers p of R under a·p + b·q = c
-- S is the run of them
pub record Across (a b c : ℤ) (R S : Run) : Type 0 where
  pub first : a *ℤ R.first +ℤ b *ℤ S.first ≡ c
  pub step : a *ℤ R.step +ℤ b *ℤ S.step ≡ pos 0
  pub many : S.many ≡ R.many

-- b divides, as the first two numbers and their partners show
pub is_across : {a b c : ℤ} {R Q : Run} → b ≢ pos 0 → Moves R → 1 ≤ R.many → ((x : ℤ) → InRun R x → Partner a b c Q x) → Across a b c R (across a b c R)
is_across {a} {b} {c} {R} {Q} nz M some partner = record { first = first; step = step; many = refl }
  where
    found : (k : ℕ) → k < R.many → Partner a b c Q (nth R k)
    found k h = partner (nth R k) (record { place = k; below = h; is = refl })

    begins : b ∣ℤ (c -ℤ a *ℤ R.first)
    begins =
        let p : Partner a b c Q (nth R 0) = found 0 some in
        record { factor = p.q; exact = lin (a ∷ b ∷ c ∷ R.first ∷ R.step ∷ p.q ∷ []) p.holds (search facts depth 20) (omega arith) }

    goes_on : b ∣ℤ neg_ℤ (a *ℤ R.step)
    goes_on = go (few_or_more R.many)
      where
        go : (R.many ≤ 1) ⊎ (2 ≤ R.many) → b ∣ℤ neg_ℤ (a *ℤ R.step)
        go (inl h) = record { factor = pos 0; exact = lin (a ∷ b ∷ R.step ∷ []) (ap (λ t. a *ℤ t) (M.rests h)) (search facts depth 20) (omega arith) }
        go (inr h) =
            let p : Partner a b c Q (nth R 1) = found 1 h in
            record {
              factor = p.q -ℤ begins.factor;
              exact = lin (a ∷ b ∷ c ∷ R.first ∷ R.step ∷ p.q ∷ begins.factor ∷ []) (p.holds & begins.exact) (search facts depth 20) (omega arith);
            }

    first : a *ℤ R.first +ℤ b *ℤ (across a b c R).first ≡ c
    first = lin (a ∷ b ∷ c ∷ R.first ∷ (across a b c R).first ∷ []) (floor_exact (c -ℤ a *ℤ R.first) b nz begins) (search facts depth 20) (omega arith)

    step : a *ℤ R.step +ℤ b *ℤ (across a b c R).step ≡ pos 0
    step = lin (a ∷ b ∷ R.step ∷ (across a b c R).step ∷ []) (floor_exact (neg_ℤ (a *ℤ R.step)) b nz goes_on) (search facts depth 20) (omega arith)

module _ {a b c : ℤ} {R S : Run} (o : Across a b c R S) where
  pub at_across : (k : ℕ) → a *ℤ nth R k +ℤ b *ℤ nth S k ≡ c
  at_across k =
      lin (a ∷ b ∷ c ∷ R.first ∷ R.step ∷ S.first ∷ S.step ∷ pos k ∷ []) (o.first & ap (λ t. t *ℤ pos k) o.step) (search facts depth 20) (omega arith)

  pub Across-turned : Across a b c (turned R) (turned S)
  Across-turned = record { first = first; step = step; many = o.many }
    where
      n : ℤ
      n = pos R.many -ℤ pos 1

      e : pos S.many -ℤ pos 1 ≡ n
      e = ap (λ t. pos t -ℤ pos 1) o.many

      first : a *ℤ (R.first +ℤ R.step *ℤ n) +ℤ b *ℤ (S.first +ℤ S.step *ℤ (pos S.many -ℤ pos 1)) ≡ c
      first = rw e (lin (a ∷ b ∷ c ∷ R.first ∷ R.step ∷ S.first ∷ S.step ∷ n ∷ []) (o.first & ap (λ t. t *ℤ n) o.step) (search facts depth 20) (omega arith))

      step : a *ℤ neg_ℤ R.step +ℤ b *ℤ neg_ℤ S.step ≡ pos 0
      step = lin (a ∷ b ∷ R.step ∷ S.step ∷ []) o.step (search facts depth 20) (omega arith)

-- a partner is the only one, so all of S is in the run where the partners are
pub Across-in : {a b c : ℤ} {R Q S : Run} → b ≢ pos 0 → Across a b c R S → ((x : ℤ) → InRun R x → Partner a b c Q x) → (y : ℤ) → InRun S y → InRun Q y
Across-in {a} {b} {c} {R} {Q} {S} nz o partner y h = subst (InRun Q) (same ∙ sym h.is) p.member
  where
    k : ℕ
    k = h.place

    p : Partner a b c Q (nth R k)
    p = partner (nth R k) (record { place = k; below = subst (λ n. k < n) o.many h.below; is = refl })

    same : p.q ≡ nth S k
    same = cancel b p.q (nth S k) nz (lin (a ∷ b ∷ c ∷ nth R k ∷ nth S k ∷ p.q ∷ []) (p.holds & at_across o k) (search facts depth 20) (omega arith))

pub Across-Moves : {a b c : ℤ} {R S : Run} → a ≢ pos 0 → b ≢ pos 0 → Across a b c R S → Moves R → Moves S
Across-Moves {a} {b} {c} {R} {S} az bz o m = record { moves = moves; rests = rests }
  where
    moves : 2 ≤ S.many → S.step ≢ pos 0
    moves h z = m.moves (subst (λ n. 2 ≤ n) o.many h)
        (cancel a R.step (pos 0) az (lin (a ∷ b ∷ R.step ∷ S.step ∷ []) (o.step & ap (λ t. b *ℤ t) z) (search facts depth 20) (omega arith)))

    rests : S.many ≤ 1 → S.step ≡ pos 0
    rests h =
        let z : R.step ≡ pos 0 = m.rests (subst (λ n. n ≤ 1) o.many h) in
        cancel b S.step (pos 0) bz (lin (a ∷ b ∷ R.step ∷ S.step ∷ []) (o.step & ap (λ t. a *ℤ t) z) (search facts depth 20) (omega arith))

-- where every number of R has a partner in Q, these stand in Q at exact quotients
pub Partner-Indexed : {a b c : ℤ} {Q R : Run} → Moves Q → Moves R → a ≢ pos 0 → b ≢ pos 0 → 1 ≤ R.many → ((x : ℤ) → InRun R x → Partner a b c Q x) →
    Indexed Q (across a b c R) (index_of Q (across a b c R).first) (stride_in Q (across a b c R).step)
Partner-Indexed {a} {b} {c} {Q} {R} m M az bz some partner =
    let o : Across a b c R (across a b c R) = is_across bz M some partner in
    indexed m (Across-Moves az bz o M) some (Across-in bz o partner)
