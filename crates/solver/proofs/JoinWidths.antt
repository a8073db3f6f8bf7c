-- An equation between two families: how large the numbers are that it goes through.
use mathlib.Core.Path.{◌≡◌, refl, sym, ◌∙◌, ap}
use mathlib.Core.Bool.{Bool, true, false, cond, false≢true}
use Prim.Native.Nat.{ℕ, zero, suc, ◌≤◌}
use Rattle.ints.specs.Within.{Within}
use Rattle.ints.specs.Equal.{is_equal}
use Rattle.ints.specs.Floor.{floor_div}
use Rattle.ints.proofs.{ℤ, pos, ◌+ℤ◌, ◌-ℤ◌, ◌*ℤ◌, [], ◌∷◌, arith, lin, ◌&◌, facts}
use Rattle.ints.proofs.Equal.{equal_true}
use Rattle.ints.proofs.Floor.{floor-Within}
use Rattle.runs.specs.declared.Run.{Run}
use Rattle.runs.specs.declared.Equation.{Equation}
use Rattle.runs.specs.Search.{meet, carry}
use Rattle.runs.specs.Workings.{CarryLimits}
use Rattle.runs.proofs.ClassInInterval.{one_less}
use Rattle.families.specs.FamilyRun.{FamilyRun, upward, ratio, across}
use Rattle.families.proofs.FamilyRuns.{OneForm-Moves, OneForm-family}
use Rattle.families.proofs.ExactQuotients.{Indexed, Across-in, Across-Moves}
use Rattle.families.proofs.JoinedRuns.{join_form, in_join, join_partners, left, right}
use Rattle.families.specs.Model.{indices_in}
use Rattle.families.proofs.FamilySizes.{many_within}
use Rattle.solver.specs.Widths.{Turnable, Crossable}
use Rattle.solver.proofs.In64Bits.{crossable}

-- a quotient is no larger than what is divided
ratio-Within : (b : ℕ) (n d : ℤ) → Within b n → Within b (ratio n d)
ratio-Within b n d w = go (is_equal d (pos 0)) refl
  where
    go : (t : Bool) → is_equal d (pos 0) ≡ t → Within b (cond t (pos 0) (floor_div n d))
    go true e = lin (n ∷ pos b ∷ []) w (search facts depth 20) (omega arith)
    go false e = floor-Within n d (λ z. false≢true (sym e ∙ (equal_true d (pos 0)).1 z)) w

-- the indices of R in a family
module _ {r R : Run} (f : FamilyRun r) (w : Crossable R) (some : 1 ≤ R.many) (i : Indexed r R (indices_in r R).first (indices_in r R).step) where
  pub indices_Turnable : Turnable (indices_in r R)
  indices_Turnable = record { first = first; last = last R.many refl some; step = step }
    where
      way : Within 2000000000 (R.first -ℤ r.first)
      way = lin (R.first ∷ r.first ∷ []) (w.first & (crossable f).first) (search facts depth 20) (omega arith)

      first : Within 4294967296 (indices_in r R).first
      first = lin ((indices_in r R).first ∷ []) (ratio-Within 2000000000 (R.first -ℤ r.first) r.step way) (search facts depth 20) (omega arith)

      step : Within 4294967296 (indices_in r R).step
      step = lin ((indices_in r R).step ∷ []) (ratio-Within 2000000000 R.step r.step w.step) (search facts depth 20) (omega arith)

      last : (n : ℕ) → R.many ≡ n → 1 ≤ n → Within 4294967296 ((indices_in r R).first +ℤ (indices_in r R).step *ℤ (pos R.many -ℤ pos 1))
      last zero e h = absurd (omega (arith, h))
      last (suc n) e h =
          lin ((indices_in r R).first ∷ (indices_in r R).step ∷ pos R.many ∷ pos n ∷ pos r.many ∷ [])
          (i.inside n (omega (arith, e)) & many_within f & ap (λ t. (indices_in r R).step *ℤ t) (one_less R.many n e)) (search facts depth 20) (omega arith)

-- the numbers of the left variable that are joined, and their partners
module _ {e : Equation} (lim : CarryLimits e) {P Q : Run} (f : FamilyRun P) (g : FamilyRun Q) where
  abbrev R : Run
  R = meet (upward P) (carry e.a e.b e.c (upward Q))

  abbrev S : Run
  S = across e.a e.b e.c R

  pub joined_Crossable : Crossable R
  joined_Crossable = crossable (OneForm-family (join_form lim f g))

  module _ (some : 1 ≤ R.many) where
    partners : FamilyRun S
    partners = record {
      moves = Across-Moves lim.left_not_zero lim.right_not_zero (join_partners lim f g some) (OneForm-Moves (join_form lim f g));
      empty = λ z. absurd (omega (arith, some, z));
      inside = λ x h. g.inside x (Across-in lim.right_not_zero (join_partners lim f g some) (λ p k. ((in_join lim f g p).0 k).1) x h);
    }

    pub partners_Crossable : Crossable S
    partners_Crossable = crossable partners

    pub left_Turnable : Turnable (indices_in P R)
    left_Turnable = indices_Turnable f joined_Crossable some (left lim f g some)

    pub right_Turnable : Turnable (indices_in Q S)
    right_Turnable = indices_Turnable g partners_Crossable some (right lim f g some)
