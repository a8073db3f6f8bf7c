-- Jobs with the same equations and as many variables hang together alike, whatever their bounds and weights.
use mathlib.Core.Path.{◌≡◌, refl, ◌∙◌, ap, ap₂}
use Prim.Native.Nat.{ℕ, zero, suc}
use lib.Dec.{eqb, ltb}
use lib.ListN.{length, get_or}
use Rattle.lists.specs.Keep.{keep}
use Rattle.lists.specs.Table.{up_to}
use Rattle.lists.proofs.Keep.{keep_same}
use Rattle.jobs.specs.Job.{Job, no_equation, equation}
use Rattle.jobs.specs.NormalForm.{home, is_binary, normal, normal_row}
use Rattle.jobs.specs.Component.{merged, lowest_by, lowest, leads, component_count, component}
use Rattle.jobs.specs.Structure.{names, degree_by, kind_by, kind, structure}
use Rattle.jobs.specs.MapLayout.{map_of}
use Rattle.jobs.proofs.MapFields.{SameStructure, same_map}

module _ (j k : Job) (e : j.equations ≡ k.equations) (l : length j.variables ≡ length k.variables) where
  row : (m : ℕ) → equation j m ≡ equation k m
  row m = ap (λ es. get_or es m no_equation) e

  lowest_by_same : (m i : ℕ) → lowest_by j m i ≡ lowest_by k m i
  unfolding lowest_by
  lowest_by_same zero i = refl
  lowest_by_same (suc m) i =
      ap (λ q. merged (lowest_by j m (normal q).left) (lowest_by j m (normal q).right) (lowest_by j m i)) (row m)
      ∙ (λ t. merged (lowest_by_same m (normal_row k m).left t) (lowest_by_same m (normal_row k m).right t) (lowest_by_same m i t))

  lowest_same : (i : ℕ) → lowest j i ≡ lowest k i
  unfolding lowest
  lowest_same i = lowest_by_same (length j.equations) i ∙ ap (λ es. lowest_by k (length es) i) e

  leads_same : leads j ≡ leads k
  unfolding leads
  leads_same =
      keep_same (λ i. eqb (lowest j i) i) (λ i. eqb (lowest k i) i) (up_to (length j.variables)) (λ i h. ap (λ l. eqb l i) (lowest_same i))
      ∙ ap (λ n. keep (λ i. eqb (lowest k i) i) (up_to n)) l

  pub count_same : component_count j ≡ component_count k
  count_same = ap length leads_same

  component_same : (i : ℕ) → component j i ≡ component k i
  unfolding component
  component_same i = ap₂ (λ l ls. length (keep (λ k. ltb k l) ls)) (lowest_same i) leads_same

  degree_same : (m i : ℕ) → degree_by j m i ≡ degree_by k m i
  unfolding degree_by
  degree_same m i = ap length (keep_same (λ r. names (equation j r) i) (λ r. names (equation k r) i) (up_to m) (λ r h. ap (λ q. names q i) (row r)))

  kind_same : (m : ℕ) → kind j m ≡ kind k m
  unfolding kind
  kind_same m =
      ap (λ q. kind_by (is_binary q) (lowest_by j m q.left) (lowest_by j m q.right)) (row m)
      ∙ ap₂ (kind_by (is_binary (equation k m))) (lowest_by_same m (equation k m).left) (lowest_by_same m (equation k m).right)

  structure_same : SameStructure (structure j) (structure k)
  structure_same = record {
    variables = l;
    equations = ap length e;
    counted = count_same;
    numbers = λ i h. component_same i;
    degrees = λ i h. degree_same (length j.equations) i ∙ ap (λ es. degree_by k (length es) i) e;
    homes = λ m h. ap (λ q. component j (home q)) (row m) ∙ component_same (home (equation k m));
    kinds = λ m h. kind_same m;
  }

  -- so they have one map
  pub map_same : map_of (structure j) ≡ map_of (structure k)
  map_same = same_map structure_same
