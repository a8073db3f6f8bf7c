-- The rows of a map, one more at a time; x and y give the two numbers of a row.
use mathlib.Core.Path.{◌≡◌, refl, sym, ◌∙◌, ap}
use mathlib.Core.List.{List}
use Prim.Native.Nat.{ℕ, ◌+◌, ◌*◌, ◌≤◌}
use lib.ListN.{length}
use Rattle.little_endian.specs.Over.{over}
use Rattle.little_endian.proofs.Over.{over_none}
use Rattle.jobs.specs.MapLayout.{map_row, map_rows}
use Rattle.jobs.proofs.MapFields.{length_rows}
use Rattle.planner.proofs.ReportRows.{laid, no_rows, next_row}

module _ (x y : ℕ → ℕ) (from : ℕ) (a : List ℕ) where
  abbrev of : ℕ → List ℕ
  of k = map_row (x k) (y k)

  pub none : from ≤ length a → a ≡ over from (map_rows x y 0) a
  unfolding map_rows
  none h = sym (ap (λ b. over from b a) (no_rows of) ∙ over_none from a h)

  -- u and v are the area before and after one row more
  pub more : (i : ℕ) (u v : List ℕ) → from + 4 * i ≤ length a → u ≡ over from (map_rows x y i) a → v ≡ over (from + 4 * i) (map_row (x i) (y i)) u → v ≡ over from (map_rows x y (i + 1)) a
  unfolding map_rows
  more i u v h e f = laid 4 from i (map_rows x y i) (of i) a u v (length_rows x y i) h refl e f ∙ ap (λ b. over from b a) (next_row of i)
