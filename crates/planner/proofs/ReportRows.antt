-- The rows of a report, as they are laid one behind the other: each row w bytes.
use mathlib.Core.Path.{◌≡◌, refl, sym, ◌∙◌, ap}
use mathlib.Core.List.{List, [], ◌∷◌, ◌++◌, flat_map, append-nil}
use Prim.Native.Nat.{ℕ, ◌+◌, ◌*◌, ◌≤◌}
use native.Mathlib.Omega.{arith}
use lib.ListN.{length}
use Rattle.lists.specs.Table.{table, up_to}
use Rattle.lists.proofs.Maps.{flat_map_both}
use Rattle.lists.proofs.Table.{table_next}
use Rattle.little_endian.specs.Over.{over}
use Rattle.little_endian.proofs.Over.{over-over, length-over}

-- ---- one more row, behind those that stand from a place on
pub laid : (w at i : ℕ) (rows row a x y : List ℕ) {next : ℕ} → length rows ≡ w * i → at + w * i ≤ length a → next ≡ at + w * i →
    x ≡ over at rows a → y ≡ over next row x → y ≡ over at (rows ++ row) a
laid w at i rows row a x y {next} l h n e f = f ∙ ap (over next row) e ∙ over-over at rows row a (omega (arith, n, l)) (omega (arith, h, l))

-- and the area stays as long as it is
pub laid_length : (w at i : ℕ) (rows a x : List ℕ) → length rows ≡ w * i → at + w * i ≤ length a → x ≡ over at rows a → length x ≡ length a
laid_length w at i rows a x l h e = ap length e ∙ length-over at rows a (omega (arith, h, l))

-- ---- rows by their numbers
pub one_row : {A : Type 0} (f : A → List ℕ) (x : A) → flat_map f (x ∷ []) ≡ f x
unfolding flat_map
one_row f x = append-nil (f x)

pub no_rows : (f : ℕ → List ℕ) → flat_map f (up_to 0) ≡ []
unfolding table flat_map
no_rows f = refl

pub next_row : (f : ℕ → List ℕ) (i : ℕ) → flat_map f (up_to i) ++ f i ≡ flat_map f (up_to (i + 1))
next_row f i = sym (ap (flat_map f) (table_next (λ k. k) i) ∙ flat_map_both f (up_to i) (i ∷ []) ∙ ap (λ t. flat_map f (up_to i) ++ t) (one_row f i))
