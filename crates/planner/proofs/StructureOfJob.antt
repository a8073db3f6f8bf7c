-- What the pass over a job's equations says of the arrays that the map is written from.
use mathlib.Core.Path.{◌≡◌, sym, ◌∙◌, ap, ap₂}
use mathlib.Core.List.{List}
use Prim.Native.Nat.{ℕ, ◌<◌}
use native.Mathlib.Omega.{arith}
use lib.Dec.{ltb}
use lib.ListN.{length}
use Rattle.lists.specs.Keep.{keep}
use Rattle.jobs.specs.Job.{Job, job_of, variable_count, equation_count, equation}
use Rattle.jobs.specs.NormalForm.{home}
use Rattle.jobs.specs.Lawful.{Lawful}
use Rattle.jobs.specs.Component.{lowest, component}
use Rattle.jobs.specs.Structure.{degree_by, structure}
use Rattle.jobs.specs.MapLayout.{map_of}
use Rattle.jobs.proofs.NormalForm.{home_below}
use Rattle.jobs.proofs.Components.{lowest-le, lowest_self}
use Rattle.jobs.proofs.MapFields.{SameStructure, same_map}
use Rattle.families.specs.ModelFindings.{component_by}
use Rattle.solver.specs.StateArrays.{label_in}
use Rattle.solver.specs.Labels.{Lowest}
use Rattle.solver.specs.Structured.{Structured}
use Rattle.solver.specs.declared.structure.Structure.{Structure}
use Rattle.solver.proofs.LabelsOfJob.{vars, ties, label_is, leads_are}
use Rattle.planner.specs.Mapping.{AllBelow, structure_in}

module _ (s : List ℕ) (n m : ℕ) (p : n ≡ variable_count s) (q : m ≡ equation_count s) (lawful : Lawful s) (t : Structure) (f : Structured (job_of s) m n t) where
  abbrev j : Job
  j = job_of s

  is_label : (i : ℕ) → i < n → label_in t.labels i ≡ lowest j i
  is_label = label_is s n m p q t.labels f.labels

  pub labels : Lowest t.labels n
  labels = record {
    low = λ i h. omega (arith, is_label i h, lowest-le j i);
    self = λ i h.
        ap (label_in t.labels) (is_label i h)
        ∙ is_label (lowest j i) (omega (arith, h, lowest-le j i))
        ∙ lowest_self j i
        ∙ sym (is_label i h);
  }

  below : (k : ℕ) → k < m → home (equation j k) < n
  below k h =
      let e = lawful.job.each_equation k (omega (arith, h, ties s n m p q)) in
      omega (arith, home_below (equation j k) (length j.variables) e.left e.right, vars s n m p q)

  pub homes : AllBelow n t.homes m
  homes = record { at = λ k h. omega (arith, f.homes.at k h, below k h) }

  -- the map in the arrays is the definition's
  number : (i : ℕ) → i < n → component_by (label_in t.labels) n i ≡ component j i
  unfolding component_by component
  number i h = ap₂ (λ l ls. length (keep (λ k. ltb k l) ls)) (is_label i h) (leads_are s n m p q t.labels f.labels)

  same : SameStructure (structure_in t n m) (structure j)
  same = record {
    variables = vars s n m p q;
    equations = ties s n m p q;
    counted = ap length (leads_are s n m p q t.labels f.labels);
    numbers = number;
    degrees = λ i h. f.degrees.at i h ∙ ap (λ m. degree_by j m i) (ties s n m p q);
    homes = λ k h. ap (component_by (label_in t.labels) n) (f.homes.at k h) ∙ number (home (equation j k)) (below k h);
    kinds = λ k h. f.kinds.at k h;
  }

  pub map_is : map_of (structure_in t n m) ≡ map_of (structure (job_of s))
  map_is = same_map same
