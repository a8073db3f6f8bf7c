-- The first number of a class and a count of those that follow it, as far as they lie within the range: `counted_run`.
use mathlib.Core.Path.{◌≡◌, sym, ap, subst}
use mathlib.Core.Logic.Iff
use mathlib.Core.Logic.{◌↔◌}
use mathlib.Core.List.{[], ◌∷◌}
use Rattle.ints.specs.Within.{Within}
use Rattle.ints.specs.Division.{limit}
use Rattle.ints.specs.Divides.{Congruent}
use Rattle.ints.proofs.{ℤ, pos, negsuc, nat_abs, lt_z, ◌+ℤ◌, ◌-ℤ◌, ◌*ℤ◌, ◌≤ℤ◌, arith, lin, lin₀, ◌&◌, facts}
use Rattle.ints.proofs.Order.{abs_nonneg}
use Rattle.runs.specs.Run.{InRun, OneForm, full, bound}
use Rattle.runs.specs.Method.{Class, Interval, InInterval, common, span, Clippable, Countable, counted, counted_run, progression}
use Rattle.runs.proofs.Members.{by_members}
use Rattle.runs.proofs.Progressions.{Along, Along-iff}
use Rattle.runs.proofs.Intervals.{either, max_over, min_under, in_common, in_whole}
use Rattle.runs.proofs.ClassInInterval.{is_clip, in_progression, progression_form}

module _ {c : Class} {n : ℤ} (k : Countable c n) where
  abbrev ends : Interval
  ends = common (counted c n) (span full)

  pub countable_fair : Clippable c ends
  countable_fair = record {
    moves = k.moves;
    step = k.step;
    distance = either (λ x. Within limit (c.first -ℤ x)) (lt_z (negsuc 999999999) c.first)
        (lin₀ (c.first ∷ []) (search facts depth 20) (omega arith)) (lin (c.first ∷ []) k.first (search facts depth 20) (omega arith));
    start = either (Within limit) (lt_z (negsuc 999999999) c.first) (lin (c.first ∷ []) k.first (search facts depth 20) (omega arith)) (lin₀ [] (search facts depth 20) (omega arith));
    low = (max_over c.first (negsuc 999999999)).1;
    high = (min_under (c.first +ℤ c.step *ℤ n) (pos 1000000000)).1;
  }

  pub counted_run_form : OneForm (counted_run c n)
  counted_run_form = (is_clip c ends countable_fair).form

  pub counted_run_iff : (x : ℤ) → InRun (counted_run c n) x ↔ (Within bound x × Along c.first c.step n x)
  counted_run_iff x = Iff.trans ((is_clip c ends countable_fair).all x) (to, from)
    where
      along : Along c.first c.step n x ↔ (Congruent c.step x c.first × (c.first ≤ℤ x) × (x ≤ℤ (c.first +ℤ c.step *ℤ n)))
      along = Along-iff c.first c.step n x k.moves

      to : Congruent c.step x c.first × InInterval ends x → Within bound x × Along c.first c.step n x
      to (m, i) = let (l, w) = (in_common (counted c n) (span full) x).0 i in ((in_whole x).1 w, along.1 (m, l.low, l.high))

      from : Within bound x × Along c.first c.step n x → Congruent c.step x c.first × InInterval ends x
      from (w, a) = let (m, l, h) = along.0 a in (m, (in_common (counted c n) (span full) x).1 (record { low = l; high = h }, (in_whole x).0 w))

  -- where the first and the last lie in it, so do all
  pub all_in_range : negsuc 999999999 ≤ℤ c.first → (c.first +ℤ c.step *ℤ n) ≤ℤ pos 1000000000 → progression c.first c.step (nat_abs n) ≡ counted_run c n
  all_in_range l h = by_members form counted_run_form (λ x. (to x, from x))
    where
      e : n ≡ pos (nat_abs n)
      e = abs_nonneg n k.low

      form : OneForm (progression c.first c.step (nat_abs n))
      form = progression_form c.first c.step (nat_abs n) k.moves (lin (c.first ∷ []) l (search facts depth 20) (omega arith))
          (lin (c.first ∷ c.step ∷ n ∷ pos (nat_abs n) ∷ []) (h & ap (λ t. c.step *ℤ t) e) (search facts depth 20) (omega arith))

      to : (x : ℤ) → InRun (progression c.first c.step (nat_abs n)) x → InRun (counted_run c n) x
      to x m = (counted_run_iff x).1 (form.inside x m, subst (λ t. Along c.first c.step t x) (sym e) ((in_progression c.first c.step x (nat_abs n)).0 m))

      from : (x : ℤ) → InRun (counted_run c n) x → InRun (progression c.first c.step (nat_abs n)) x
      from x m = (in_progression c.first c.step x (nat_abs n)).1 (subst (λ t. Along c.first c.step t x) e ((counted_run_iff x).0 m).1)
