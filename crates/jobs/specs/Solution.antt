-- Document 01, "Groups and their families": the fit-outs of a job, here its solutions; their worth, here the objective; and
-- the best of them. "All this is read from the job, and not from groups, bases or steps."
use Rattle.std.specs.Prelude.{◌≡◌, ◌⊎◌, ℕ, ◌<◌, length, get_or, ℤ, pos, ◌+ℤ◌, ◌*ℤ◌, ◌≤ℤ◌}
use mathlib.Core.List.{List, [], ◌∷◌, map, flat_map}
use Rattle.ints.specs.Equal.{is_equal}
use Rattle.lists.specs.Keep.{keep, every}
use Rattle.lists.specs.Range.{range}
use Rattle.lists.specs.Best.{Beats, best_of}
use Rattle.lists.specs.Sums.{sum}
use Rattle.jobs.specs.Job.{Variable, Equation, Job, variable, equation}
use Rattle.jobs.specs.TieBreak.{Earlier, earliest_first}

-- the number that a list gives to a variable
abbrev pub number : List ℤ → ℕ → ℤ
number x i = get_or x i (pos 0)

-- "It means a·left + b·right = c."
abbrev pub value : Equation → List ℤ → ℤ
value e x = e.a *ℤ number x e.left +ℤ e.b *ℤ number x e.right

-- "A fit-out of the job is a list of n whole numbers, one for each count in turn, where every number lies from the low to
-- the high of its count, and every equation row holds with the numbers of the counts it names."
pub record IsSolution (j : Job) (x : List ℤ) : Type 0 where
  pub long : length x ≡ length j.variables
  pub low : (i : ℕ) → i < length j.variables → (variable j i).low ≤ℤ number x i
  pub high : (i : ℕ) → i < length j.variables → number x i ≤ℤ (variable j i).high
  pub holds : (k : ℕ) → k < length j.equations → value (equation j k) x ≡ (equation j k).c

-- ---- all of them, by exhaustive search (proofs/Solutions.antt: x is in the list exactly when it is a solution)

-- each list of the rest behind each x of xs
unfoldable pub fronts : List ℤ → List (List ℤ) → List (List ℤ)
unfolding flat_map
fronts xs rest = flat_map (λ x. map (λ ys. x ∷ ys) rest) xs

-- every list within the bounds, in lexicographic order
unfoldable pub box : List Variable → List (List ℤ)
unfolding fronts range
box [] = [] ∷ []
box (v ∷ vs) = let rest = box vs in fronts (range v.low v.high) rest

-- those of them in which every equation holds
unfoldable pub solutions : Job → List (List ℤ)
unfolding box keep every
solutions j = keep (λ x. every (λ e. is_equal (value e x) e.c) j.equations) (box j.variables)

-- ---- the best of them

-- "The worth of such a list is the sum of weight × number over all counts; with no counts it is 0."
unfoldable pub objective : Job → List ℤ → ℤ
unfolding sum
objective j x = sum (length j.variables) (λ i. (variable j i).weight *ℤ number x i)

-- x is better than y: of more worth, or of equal worth and earlier
abbrev pub Better : Job → List ℤ → List ℤ → Type 0
Better j = Beats (objective j) Earlier

-- x is a solution, and better than every other
pub record Optimal (j : Job) (x : List ℤ) : Type 0 where
  pub solution : IsSolution j x
  pub beats : (y : List ℤ) → IsSolution j y → (y ≡ x) ⊎ Better j x y

-- the earliest solution that no other exceeds in worth, and so of these the last in lexicographic order (proofs/Solutions.antt: where
-- there is one, it is the optimal one)
unfoldable pub best : Job → List ℤ
unfolding best_of solutions objective
best j = best_of (objective j) [] (earliest_first (solutions j))
