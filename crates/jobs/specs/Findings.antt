-- What is found of a job: all that a report shows, in one record. The definitions give one value of it, the model a second, and the
-- program's arrays a third; a report is laid out over the record, and so once for the three.
use Rattle.std.specs.Prelude.{List, ℕ, length, ℤ}
use Rattle.runs.specs.declared.Run.{Run}
use Rattle.jobs.specs.Job.{Job}
use Rattle.jobs.specs.Solution.{number, objective, best}
use Rattle.jobs.specs.Component.{leads, component}
use Rattle.jobs.specs.Family.{component_job, chosen, slope, family_run}

-- n: how many variables there are; leads: the lowest variable of each component, in order.
-- Of a variable, component: the number of its component; run: its base and step, and how many fits its component has; assigned: its
-- number. Of a component, by its lowest variable, chosen: 01's k; slope: its gain. And objective: the worth of the numbers.
pub record Findings : Type 0 where
  pub n : ℕ
  pub leads : List ℕ
  pub component : ℕ → ℕ
  pub run : ℕ → Run
  pub assigned : ℕ → ℤ
  pub chosen : ℕ → ℕ
  pub slope : ℕ → ℤ
  pub objective : ℤ

-- by the definitions: what is read off the solutions of each component, and the best solution of the job
abbrev pub findings : Job → Findings
findings j = record {
  n = length j.variables;
  leads = leads j;
  component = component j;
  run = family_run j;
  assigned = number (best j);
  chosen = λ l. chosen (component_job j l);
  slope = λ l. slope (component_job j l);
  objective = objective j (best j);
}
