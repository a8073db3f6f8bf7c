-- What holds of the labels of a job that is read: they are the definition's lowest variables, and so are those that lead.
use mathlib.Core.Path.{◌≡◌, sym, ◌∙◌, ap}
use mathlib.Core.List.{List}
use Prim.Native.Nat.{ℕ, ◌<◌}
use lib.Dec.{eqb}
use lib.ListN.{length}
use Rattle.lists.specs.Keep.{keep}
use Rattle.lists.specs.Table.{up_to}
use Rattle.lists.proofs.Keep.{keep_same}
use Rattle.lists.proofs.Table.{in-up_to}
use Rattle.jobs.specs.Job.{job_of, variable_count, equation_count}
use Rattle.jobs.specs.Component.{lowest, lowest_by, leads, component_count}
use Rattle.jobs.proofs.JobOf.{variables_of, equations_of}
use Rattle.families.specs.ModelFindings.{leads_by}
use Rattle.solver.specs.StateArrays.{label_in}
use Rattle.solver.specs.Labels.{Labels}

-- n and m are the job's numbers of variables and equations
module _ (s : List ℕ) (n m : ℕ) (p : n ≡ variable_count s) (q : m ≡ equation_count s) where
  pub vars : n ≡ length (job_of s).variables
  vars = p ∙ sym (variables_of s)

  pub ties : m ≡ length (job_of s).equations
  ties = q ∙ sym (equations_of s)

  -- the labels are the lowest variables of the definition, and so are those that lead
  module _ (labels : List ℕ) (a : Labels (job_of s) m n labels) where
    pub label_is : (i : ℕ) → i < n → label_in labels i ≡ lowest (job_of s) i
    unfolding lowest
    label_is i h = a.at i h ∙ ap (λ m. lowest_by (job_of s) m i) ties

    pub leads_are : leads_by (label_in labels) n ≡ leads (job_of s)
    unfolding leads leads_by
    leads_are =
        keep_same (λ i. eqb (label_in labels i) i) (λ i. eqb (lowest (job_of s) i) i) (up_to n) (λ i h. ap (λ l. eqb l i) (label_is i ((in-up_to n i).0 h)))
        ∙ ap (λ n. keep (λ i. eqb (lowest (job_of s) i) i) (up_to n)) vars

    pub counted : (g : ℕ) → g ≡ length (leads_by (label_in labels) n) → g ≡ component_count (job_of s)
    counted g e = e ∙ ap length leads_are
