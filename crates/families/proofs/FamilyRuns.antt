-- The run of a variable in its family: turned and upward it has the same numbers, and upward it is in the one form.
use mathlib.Core.Path.{◌≡◌, refl, ap}
use mathlib.Core.Logic.Iff
use mathlib.Core.Logic.{◌↔◌}
use mathlib.Core.Bool.{Bool, true, false, cond}
use mathlib.Core.List.{[], ◌∷◌}
use Prim.Native.Nat.{ℕ, zero, suc, ◌≤◌}
use Rattle.ints.proofs.{ℤ, pos, neg_ℤ, lt_z, ◌+ℤ◌, ◌-ℤ◌, ◌*ℤ◌, arith, lin, ◌&◌, facts}
use Rattle.families.specs.FamilyRun.{Moves, FamilyRun, turned, upward}
use Rattle.runs.specs.declared.Run.{Run}
use Rattle.runs.specs.Run.{InRun, OneForm}
use Rattle.runs.proofs.Progressions.{Along, in_Along}
use Rattle.runs.proofs.Intervals.{either}

pub OneForm-Moves : {r : Run} → OneForm r → Moves r
OneForm-Moves {r} o = record {
  moves = λ h z. lin (r.step ∷ []) (o.rises h & z) (search facts depth 20) (omega arith);
  rests = go r.many o.empty o.one;
}
  where
    go : (n : ℕ) → (n ≡ 0 → (r.first ≡ pos 0) × (r.step ≡ pos 0)) → (n ≡ 1 → r.step ≡ pos 0) → n ≤ 1 → r.step ≡ pos 0
    go zero e s h = (e refl).1
    go (suc zero) e s h = s refl
    go (suc (suc n)) e s h = absurd (omega (arith, h))

-- ---- downwards
pub turned-Moves : {r : Run} → Moves r → Moves (turned r)
turned-Moves {r} m = record {
  moves = λ h z. m.moves h (lin (r.step ∷ []) z (search facts depth 20) (omega arith));
  rests = λ h. ap neg_ℤ (m.rests h);
}

-- the same numbers: place k becomes many − 1 − k
pub in_turned : (r : Run) (x : ℤ) → InRun r x ↔ InRun (turned r) x
in_turned r x = Iff.trans (in_Along r x) (Iff.trans (to, from) (Iff.symm (in_Along (turned r) x)))
  where
    n : ℤ
    n = pos r.many -ℤ pos 1

    to : Along r.first r.step n x → Along (r.first +ℤ r.step *ℤ n) (neg_ℤ r.step) n x
    to a = record {
      k = n -ℤ a.k;
      low = lin (n ∷ a.k ∷ []) a.high (search facts depth 20) (omega arith);
      high = lin (n ∷ a.k ∷ []) a.low (search facts depth 20) (omega arith);
      is = lin (x ∷ r.first ∷ r.step ∷ n ∷ a.k ∷ []) a.is (search facts depth 20) (omega arith);
    }

    from : Along (r.first +ℤ r.step *ℤ n) (neg_ℤ r.step) n x → Along r.first r.step n x
    from a = record {
      k = n -ℤ a.k;
      low = lin (n ∷ a.k ∷ []) a.high (search facts depth 20) (omega arith);
      high = lin (n ∷ a.k ∷ []) a.low (search facts depth 20) (omega arith);
      is = lin (x ∷ r.first ∷ r.step ∷ n ∷ a.k ∷ []) a.is (search facts depth 20) (omega arith);
    }

-- ---- upwards
pub in_upward : (r : Run) (x : ℤ) → InRun r x ↔ InRun (upward r) x
in_upward r x = either (λ s. InRun r x ↔ InRun s x) (lt_z r.step (pos 0)) (in_turned r x) (λ h. h, λ h. h)

pub OneForm-family : {r : Run} → OneForm r → FamilyRun r
OneForm-family o = record { moves = OneForm-Moves o; empty = λ e. (o.empty e).0; inside = o.inside }

-- one that falls has two numbers or more, so the empty one stays 0, 0, 0
pub upward_form : {r : Run} → FamilyRun r → OneForm (upward r)
upward_form {r} f = go (lt_z r.step (pos 0)) refl
  where
    m : Moves r
    m = f.moves

    falls : lt_z r.step (pos 0) ≡ true → r.many ≤ 1 → ⊥
    falls t h = lin (r.step ∷ []) (t & m.rests h) (search facts depth 20) (omega arith)

    go : (b : Bool) → lt_z r.step (pos 0) ≡ b → OneForm (cond b (turned r) r)
    go true t = record {
      empty = λ e. absurd (falls t (omega (arith, e)));
      one = λ e. absurd (falls t (omega (arith, e)));
      rises = λ h. lin (r.step ∷ []) t (search facts depth 20) (omega arith);
      inside = λ x h. f.inside x ((in_turned r x).1 h);
    }
    go false t = record {
      empty = λ e. (f.empty e, m.rests (omega (arith, e)));
      one = λ e. m.rests (omega (arith, e));
      rises = λ h. lin (r.step ∷ []) (t & m.moves h) (search facts depth 20) (omega arith);
      inside = f.inside;
    }
