-- What no tie-break moves. Whichever of equally good solutions comes first, by document 01 or 02 or any other order, a sheet of the job has
-- the same groups, bases, steps, fits, gains and worth; only the chosen k, and so the numbers, go by it. Of these the worth is what there
-- is to prove: no definition of the others names an order.
use mathlib.Core.Path.{◌≡◌, refl}
use mathlib.Core.Logic.Iff
use mathlib.Core.Logic.{◌↔◌}
use lib.ListN.{length}
use Rattle.ints.proofs.{ℤ, List, []}
use Rattle.lists.specs.Members.{◌∈◌}
use Rattle.lists.specs.Keep.{place}
use Rattle.lists.specs.Best.{best_of}
use Rattle.lists.proofs.Best.{same_value}
use Rattle.jobs.specs.Job.{Job}
use Rattle.jobs.specs.TieBreak.{earliest_first}
use Rattle.jobs.specs.Solution.{number, solutions, objective, best}
use Rattle.jobs.specs.Component.{leads, component}
use Rattle.jobs.specs.Family.{component_job, agree, chosen, slope, family_run}
use Rattle.jobs.specs.Findings.{Findings, findings}
use Rattle.jobs.proofs.TieBreak.{in-earliest_first}

-- two findings that are the same but for the chosen places and the numbers
pub record SameButChosen (f g : Findings) : Type 0 where
  pub n : f.n ≡ g.n
  pub leads : f.leads ≡ g.leads
  pub component : f.component ≡ g.component
  pub run : f.run ≡ g.run
  pub slope : f.slope ≡ g.slope
  pub objective : f.objective ≡ g.objective

-- the definitions `best` and `findings`, where `order` puts the solutions in the order of a tie-break
module _ (order : List (List ℤ) → List (List ℤ)) where
  abbrev pub best_with : Job → List ℤ
  best_with j = best_of (objective j) [] (order (solutions j))

  abbrev pub findings_with : Job → Findings
  findings_with j = record {
    n = length j.variables;
    leads = leads j;
    component = component j;
    run = family_run j;
    assigned = number (best_with j);
    chosen = λ l. let c = component_job j l in place (agree (best_with c)) (solutions c);
    slope = λ l. slope (component_job j l);
    objective = objective j (best_with j);
  }

  -- any order that loses none of them and adds none
  pub any_order : ((xs : List (List ℤ)) (x : List ℤ) → x ∈ order xs ↔ x ∈ xs) → (j : Job) → SameButChosen (findings_with j) (findings j)
  unfolding best
  any_order all j = record {
    n = refl;
    leads = refl;
    component = refl;
    run = refl;
    slope = refl;
    objective = same_value (objective j) [] (λ x. Iff.trans (all (solutions j) x) (Iff.symm (in-earliest_first (solutions j) x)));
  }

-- that of the definitions
pub as_defined : (j : Job) → findings_with earliest_first j ≡ findings j
unfolding best chosen
as_defined j = refl

-- document 01's, where the lower number comes first: the order in which the solutions stand
pub lower_first : (j : Job) → SameButChosen (findings_with (λ xs. xs) j) (findings j)
lower_first = any_order (λ xs. xs) (λ xs x. (λ h. h, λ h. h))
