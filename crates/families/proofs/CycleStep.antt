-- An equation inside a component (01's ring): it is redundant, or it leaves one index or none.
use mathlib.Core.Path.{◌≡◌, refl, sym, ◌∙◌, ap}
use mathlib.Core.Logic.Iff
use mathlib.Core.Logic.{◌↔◌, ◌≢◌}
use mathlib.Core.Bool.{Bool, true, false, cond, false≢true}
use mathlib.Core.Option.{Option, none, some}
use mathlib.Core.List.{[], ◌∷◌}
use Prim.Native.Nat.{ℕ, ◌≤◌, ◌<◌}
use Rattle.ints.specs.Equal.{is_equal}
use Rattle.ints.specs.Floor.{floor_div, floor_mod}
use Rattle.ints.proofs.{ℤ, pos, lt_z, ◌+ℤ◌, ◌*ℤ◌, ◌≤ℤ◌, ◌<ℤ◌, arith, lin, lin₀, ◌&◌, facts}
use Rattle.ints.proofs.Order.{nat_nonneg}
use Rattle.ints.proofs.Products.{cancel}
use Rattle.ints.proofs.Equal.{equal_true}
use Rattle.ints.proofs.Divides.{floor_exact, divides_iff}
use Rattle.runs.specs.declared.Run.{Run}
use Rattle.runs.specs.declared.Equation.{Equation as Form}
use Rattle.runs.specs.Run.{nth, InRun, empty}
use Rattle.runs.proofs.Members.{not_in_empty}
use Rattle.families.specs.Model.{alone, coefficient, residual, in_range, candidate, cycle}
use Rattle.families.proofs.Subfamily.{HoldsAt, at_rest, Picks, Picks-empty}

-- s has just the indices below many of which P holds, and at most one
pub record Single (many : ℕ) (P : ℕ → Type 0) (s : Run) : Type 0 where
  pub picks : Picks s many
  pub few : s.many ≤ 1
  pub all : (k : ℕ) → k < many → P k ↔ InRun s (pos k)

-- the same indices in other words
Single-by : {many : ℕ} {P Q : ℕ → Type 0} {s : Run} → ((k : ℕ) → Q k ↔ P k) → Single many P s → Single many Q s
Single-by f o = record { picks = o.picks; few = o.few; all = λ k h. Iff.trans (f k) (o.all k h) }

-- none
no_index : {many : ℕ} {P : ℕ → Type 0} → ((k : ℕ) → k < many → ¬ P k) → Single many P empty
no_index {many} f = record { picks = Picks-empty many; few = omega arith; all = λ k h. (λ p. absurd (f k h p), λ i. not_in_empty i) }

-- ---- the index q alone, if it is one
one_index : (q : ℤ) (many : ℕ) → pos 0 ≤ℤ q → q <ℤ pos many → Single many (λ k. pos k ≡ q) (alone q)
one_index q many low high = record {
  picks = record { moves = record { moves = λ h. absurd (omega arith); rests = λ h. refl }; inside = inside };
  few = omega arith;
  all = λ k h. (λ e. record { place = 0; below = omega arith; is = e ∙ sym (at_rest q (pos 0) 0 refl) }, λ i. i.is ∙ at_rest q (pos 0) i.place refl);
}
  where
    inside : (k : ℕ) → k < 1 → (pos 0 ≤ℤ (q +ℤ pos 0 *ℤ pos k)) × ((q +ℤ pos 0 *ℤ pos k) <ℤ pos many)
    inside k h = rw (at_rest q (pos 0) k refl) (low, high)

in-range : (q : ℤ) (many : ℕ) → Single many (λ k. pos k ≡ q) (in_range q many)
in-range q many = low (lt_z q (pos 0)) refl
  where
    high : pos 0 ≤ℤ q → (t : Bool) → lt_z q (pos many) ≡ t → Single many (λ k. pos k ≡ q) (cond t (alone q) empty)
    high l true t = one_index q many l (lin (q ∷ pos many ∷ []) t (search facts depth 20) (omega arith))
    high l false t = no_index (λ k h e. lin (q ∷ pos k ∷ pos many ∷ []) (h & e & t) (search facts depth 20) (omega arith))

    low : (t : Bool) → lt_z q (pos 0) ≡ t → Single many (λ k. pos k ≡ q) (cond t empty (cond (lt_z q (pos many)) (alone q) empty))
    low true t = no_index (λ k h e. lin (q ∷ pos k ∷ []) (nat_nonneg k & e & t) (search facts depth 20) (omega arith))
    low false t = high (lin (q ∷ []) t (search facts depth 20) (omega arith)) (lt_z q (pos many)) refl

-- ---- d·k = v, for d that is not 0
quotient : (v d : ℤ) (many : ℕ) → d ≢ pos 0 → Single many (λ k. d *ℤ pos k ≡ v) (candidate v d many)
quotient v d many nz = go (is_equal (floor_mod v d) (pos 0)) refl
  where
    go : (t : Bool) → is_equal (floor_mod v d) (pos 0) ≡ t → Single many (λ k. d *ℤ pos k ≡ v) (cond t (in_range (floor_div v d) many) empty)
    go true t =
        let exact : d *ℤ floor_div v d ≡ v = floor_exact v d nz ((divides_iff v d nz).1 ((equal_true (floor_mod v d) (pos 0)).0 t)) in
        Single-by (λ k. (λ e. cancel d (pos k) (floor_div v d) nz (e ∙ sym exact), λ e. ap (λ t. d *ℤ t) e ∙ exact)) (in-range (floor_div v d) many)
    go false t = no_index (λ k h e. false≢true (sym t ∙ (equal_true (floor_mod v d) (pos 0)).1 ((divides_iff v d nz).0 (record { factor = pos k; exact = sym e }))))

-- ---- the equation at index k of both runs, in terms of k
module _ (e : Form) (P Q : Run) where
  at_index : (k : ℕ) → HoldsAt e (nth P k) (nth Q k) ↔ (coefficient e P Q *ℤ pos k ≡ residual e P Q)
  at_index k = lin₀ (e.a ∷ e.b ∷ e.c ∷ P.first ∷ P.step ∷ Q.first ∷ Q.step ∷ pos k ∷ []) (search facts depth 20) (omega arith)

  -- redundant where it holds at every index; else it leaves one index or none
  abbrev pub Remains : Option Run → Type 0
  Remains none = (k : ℕ) → HoldsAt e (nth P k) (nth Q k)
  Remains (some s) = Single P.many (λ k. HoldsAt e (nth P k) (nth Q k)) s

  -- coefficient 0: the index is of no account
  level : coefficient e P Q ≡ pos 0 → (k : ℕ) → coefficient e P Q *ℤ pos k ≡ pos 0
  level z k = lin (coefficient e P Q ∷ pos k ∷ []) (ap (λ t. t *ℤ pos k) z) (search facts depth 20) (omega arith)

  pub cycle_leaves : Remains (cycle e P Q)
  cycle_leaves = go (is_equal (coefficient e P Q) (pos 0)) refl
    where
      rest : coefficient e P Q ≡ pos 0 → (t : Bool) → is_equal (residual e P Q) (pos 0) ≡ t → Remains (cond t none (some empty))
      rest z true t = λ k. (at_index k).1 (level z k ∙ sym ((equal_true (residual e P Q) (pos 0)).0 t))
      rest z false t = no_index (λ k h q. false≢true (sym t ∙ (equal_true (residual e P Q) (pos 0)).1 (sym ((at_index k).0 q) ∙ level z k)))

      go : (t : Bool) → is_equal (coefficient e P Q) (pos 0) ≡ t →
          Remains (cond t (cond (is_equal (residual e P Q) (pos 0)) none (some empty)) (some (candidate (residual e P Q) (coefficient e P Q) P.many)))
      go true t = rest ((equal_true (coefficient e P Q) (pos 0)).0 t) (is_equal (residual e P Q) (pos 0)) refl
      go false t =
          Single-by at_index
          (quotient (residual e P Q) (coefficient e P Q) P.many (λ z. false≢true (sym t ∙ (equal_true (coefficient e P Q) (pos 0)).1 z)))
