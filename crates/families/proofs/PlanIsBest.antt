-- For a lawful job in which no component is without a solution: the choices of its components, put together, are its best solution.
use mathlib.Core.Path.{◌≡◌, sym, ◌∙◌, ap}
use mathlib.Core.Logic.{◌≢◌}
use Prim.Native.Nat.{ℕ, ◌<◌}
use lib.ListN.{length}
use Rattle.ints.proofs.{pos, ◌+ℤ◌, ◌*ℤ◌, arith}
use Rattle.lists.specs.Members.{◌∈◌}
use Rattle.lists.proofs.Table.{table_at}
use Rattle.jobs.specs.Job.{Job}
use Rattle.jobs.specs.Solution.{number, Optimal, best}
use Rattle.jobs.specs.Component.{lowest, leads}
use Rattle.jobs.specs.Family.{component_job, fits, base, step, chosen, slope}
use Rattle.jobs.specs.Lawful.{LawfulJob}
use Rattle.jobs.proofs.Lawful.{lawful_named}
use Rattle.jobs.proofs.Components.{lead_in}
use Rattle.jobs.proofs.Assembly.{assembled, assembled_at, component_length}
use Rattle.families.specs.Family.{choice}
use Rattle.families.specs.Model.{run_at, state_after_all}
use Rattle.families.proofs.ModelIsExact.{are_families, many_fits}
use Rattle.families.proofs.BestOfComponent.{chosen_is}
use Rattle.families.proofs.BestOfJob.{choice_in, plan_Optimal, plan_best}

module _ (j : Job) (lawful : LawfulJob j) where
  module _ (fit : (l : ℕ) → l ∈ leads j → fits (component_job j l) ≢ 0) where
    -- the chosen k of a component
    pub choice-in : (l : ℕ) → l ∈ leads j → chosen (component_job j l) ≡ choice (slope (component_job j l)) (fits (component_job j l))
    choice-in l m = chosen_is (component_job j l) (are_families j lawful l m).all (omega (arith, fit l m))

    -- "A count's number is its base + step × its group's chosen k."
    pub best_at : (i : ℕ) → i < length j.variables →
        let c = component_job j (lowest j i) in number (best j) i ≡ number (base c) i +ℤ number (step c) i *ℤ pos (chosen c)
    best_at i h =
        let c = component_job j (lowest j i) in
        ap (λ x. number x i) (sym (plan_best j (lawful_named lawful) (are_families j lawful) fit))
        ∙ assembled_at j (choice_in j) i h
        ∙ table_at (λ i. number (base c) i +ℤ number (step c) i *ℤ pos (choice (slope c) (fits c))) (length c.variables) i (pos 0) (omega (arith, component_length j (lowest j i)))
        ∙ ap (λ k. number (base c) i +ℤ number (step c) i *ℤ pos k) (sym (choice-in (lowest j i) (lead_in j i h)))

  -- by what the model ends in
  module _ (some : (l : ℕ) → l ∈ leads j → (run_at (state_after_all j) l).many ≢ 0) where
    fit : (l : ℕ) → l ∈ leads j → fits (component_job j l) ≢ 0
    fit l m e = some l m (sym (many_fits j lawful l m) ∙ e)

    pub lawful_Optimal : Optimal j (assembled j (choice_in j))
    lawful_Optimal = plan_Optimal j (lawful_named lawful) (are_families j lawful) fit

    pub lawful_best : assembled j (choice_in j) ≡ best j
    lawful_best = plan_best j (lawful_named lawful) (are_families j lawful) fit
