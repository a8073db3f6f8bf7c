-- The whole numbers from lo to hi, both included; none where lo is above hi.
use Rattle.std.specs.Prelude.{cond, List, ℕ, suc, ℤ, pos, nat_abs, ◌+ℤ◌, ◌-ℤ◌}
use Rattle.std.specs.Int.Signed.{lt_z}
use Rattle.lists.specs.Table.{table}

-- how many
unfoldable pub width : ℤ → ℤ → ℕ
width lo hi = cond (lt_z hi lo) 0 (suc (nat_abs (hi -ℤ lo)))

unfoldable pub range : ℤ → ℤ → List ℤ
unfolding table width
range lo hi = table (λ k. lo +ℤ pos k) (width lo hi)
