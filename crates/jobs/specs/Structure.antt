-- Document 02, #101 and #102: how a job hangs together, as the map shows it.
use Rattle.std.specs.Prelude.{Bool, cond, ◌||◌, ℕ, eqb, length}
use Rattle.lists.specs.Keep.{keep}
use Rattle.lists.specs.Table.{table, up_to}
use Rattle.jobs.specs.Job.{Equation, Job, equation}
use Rattle.jobs.specs.NormalForm.{home, is_binary}
use Rattle.jobs.specs.Component.{lowest_by, component_count, component}

-- the equation names the variable
abbrev pub names : Equation → ℕ → Bool
names e i = eqb e.left i || eqb e.right i

-- "how many equations name the count": of the first m, by the rows as written; "one that names a count twice adds one"
unfoldable pub degree_by : Job → ℕ → ℕ → ℕ
unfolding keep table
degree_by j m i = length (keep (λ k. names (equation j k) i) (up_to m))

abbrev pub degree : Job → ℕ → ℕ
degree j i = degree_by j (length j.equations) i

-- "1 if it joins two sets that earlier rows left separate, else 2", and 3 for those that are not binary: by the lowest variables that the
-- earlier rows join to its own (proofs/Structure.antt: 1 exactly when it `Joins`)
abbrev pub kind_by : Bool → ℕ → ℕ → ℕ
kind_by binary l r = cond binary (cond (eqb l r) 2 1) 3

unfoldable pub kind : Job → ℕ → ℕ
unfolding is_binary lowest_by
kind j k = kind_by (is_binary (equation j k)) (lowest_by j k (equation j k).left) (lowest_by j k (equation j k).right)

-- all that the map shows: how many variables, equations and components there are; of a variable, the number of its component and how
-- many equations name it; of an equation, the number of its component and its kind
pub record Structure : Type 0 where
  pub n : ℕ
  pub m : ℕ
  pub components : ℕ
  pub component : ℕ → ℕ
  pub degree : ℕ → ℕ
  pub equation_component : ℕ → ℕ
  pub kind : ℕ → ℕ

abbrev pub structure : Job → Structure
structure j = record {
  n = length j.variables;
  m = length j.equations;
  components = component_count j;
  component = component j;
  degree = degree j;
  equation_component = λ k. component j (home (equation j k));
  kind = kind j;
}
