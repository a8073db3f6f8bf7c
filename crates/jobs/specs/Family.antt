-- Document 01, "Groups and their families": the fit-outs of a group, "base + step·k, k = 0 to fits − 1".
use Rattle.std.specs.Prelude.{Bool, true, false, cond, ◌&&◌, List, [], ◌∷◌, ℕ, eqb, length, get_or, ℤ, pos, ◌-ℤ◌}
use Rattle.ints.specs.Equal.{is_equal}
use Rattle.lists.specs.Keep.{keep, place}
use Rattle.lists.specs.Table.{table}
use Rattle.runs.specs.declared.Run.{Run}
use Rattle.jobs.specs.Job.{Job, variable, no_variable}
use Rattle.jobs.specs.Solution.{number, solutions, objective, best}
use Rattle.jobs.specs.NormalForm.{home}
use Rattle.jobs.specs.Component.{lowest}

-- the own job of the group whose lowest variable is l: its variables and its equations. Every other variable stays in its
-- place, held at 0 and without weight, so that a solution is again a list of n numbers.
unfoldable pub component_job : Job → ℕ → Job
unfolding keep table lowest home
component_job j l = record {
  variables = table (λ i. cond (eqb (lowest j i) l) (variable j i) no_variable) (length j.variables);
  equations = keep (λ e. eqb (lowest j (home e)) l) j.equations;
}

-- ---- what is read off its solutions, which stand in lexicographic order; c is the group's own job

-- how many there are
unfoldable pub fits : Job → ℕ
unfolding solutions
fits c = length (solutions c)

-- the first of them
unfoldable pub base : Job → List ℤ
unfolding solutions
base c = get_or (solutions c) 0 []

-- from the first to the second, at a variable; "with one fit every step is 0"
abbrev pub advance : List (List ℤ) → ℕ → ℤ
advance [] i = pos 0
advance (x ∷ []) i = pos 0
advance (x ∷ y ∷ zs) i = number y i -ℤ number x i

unfoldable pub step : Job → List ℤ
unfolding table solutions
step c = table (advance (solutions c)) (length c.variables)

-- have two lists the same numbers?
abbrev pub agree : List ℤ → List ℤ → Bool
agree [] [] = true
agree [] (y ∷ ys) = false
agree (x ∷ xs) [] = false
agree (x ∷ xs) (y ∷ ys) = is_equal x y && agree xs ys

-- "k is chosen for the greatest worth": the place of the best
unfoldable pub chosen : Job → ℕ
unfolding place best solutions
chosen c = place (agree (best c)) (solutions c)

-- "Gain is the sum of weight × step over the group."
unfoldable pub slope : Job → ℤ
unfolding objective step
slope c = objective c (step c)

-- base and step at variable i, and the fits of its group, as a run: its number at k is first + step·k, for k below many
unfoldable pub family_run : Job → ℕ → Run
unfolding base step fits component_job lowest
family_run j i = let c = component_job j (lowest j i) in record { first = number (base c) i; step = number (step c) i; many = fits c }
