-- What is promised of the pass over the equations.
use Rattle.std.specs.Prelude.{cond, ℕ, eqb}
use Rattle.lists.specs.Table.{Tabulates}
use Rattle.jobs.specs.Job.{Job, equation}
use Rattle.jobs.specs.NormalForm.{home}
use Rattle.jobs.specs.Structure.{degree_by, kind}
use Rattle.solver.specs.Labels.{Labels}
use Rattle.solver.specs.declared.structure.Kind.{Kind}
use Rattle.solver.specs.declared.structure.Kind.TheVariants.{Joins, Ring, Fixes}
use Rattle.solver.specs.declared.structure.Structure.{Structure}

-- the number of a kind in the map
abbrev pub kind_number : Kind → ℕ
kind_number Joins = 1
kind_number Ring = 2
kind_number Fixes = 3

-- after the first m equations of the job: the labels of n variables, and how many equations name each; and of each equation its home
-- and its kind
pub record Structured (j : Job) (m n : ℕ) (t : Structure) : Type 0 where
  pub labels : Labels j m n t.labels
  pub degrees : Tabulates 0 (degree_by j m) n t.degrees
  pub homes : Tabulates 0 (λ k. home (equation j k)) m t.homes
  pub kinds : Tabulates 0 (kind j) m t.kinds

-- what an equation adds to its right variable's number, when it has added one to its left one's
abbrev pub added : ℕ → ℕ → ℕ
added left right = cond (eqb left right) 0 1
