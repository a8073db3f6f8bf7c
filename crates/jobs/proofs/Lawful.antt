-- A job that no check turns away is lawful.
use mathlib.Core.Path.{◌≡◌, refl}
use mathlib.Core.Logic.{inl, inr}
use mathlib.Core.Option.{none}
use mathlib.Core.List.{List}
use Prim.Native.Nat.{ℕ, ◌≤◌, ◌<◌}
use native.Mathlib.Omega.{arith}
use lib.ListN.{length}
use Rattle.reasons.specs.declared.Reason.{Reason}
use Rattle.reasons.specs.declared.Reason.TheVariants.{TooMany, WrongHeader, VariableRange, EquationVariables, EquationRange}
use Rattle.lists.specs.Members.{◌∈◌, here, there}
use Rattle.lists.proofs.Members.{each_iff}
use Rattle.jobs.specs.Job.{Equation, Job, job_of, RowsInside, variable_count, equation_count, no_equation, variable, equation}
use Rattle.jobs.specs.ReasonTable.{Misnamed, Broken, header_checks}
use Rattle.jobs.specs.Lawful.{LawfulEquation, LawfulJob, Lawful}
use Rattle.jobs.specs.Call.{Call}
use Rattle.jobs.specs.Amendments.{job_in}
use Rattle.jobs.specs.Component.{component_count}
use Rattle.jobs.specs.Decide.{first_where}
use Rattle.jobs.specs.Faults.{header?, in_range?, coefficients?, breaks?, first_broken}
use Rattle.jobs.proofs.JobOf.{variables_of, equations_of}
use Rattle.jobs.proofs.FirstOf.{none_holds, holds_none}
use Rattle.jobs.proofs.Faults.{sound_iff}

-- what can be decided and is not false holds
pub decided : {P : Type 0} → Dec P → ¬ ¬ P → P
decided (yes p) h = p
decided (no n) h = absurd (h n)

module _ (c : Call) where
  abbrev s : List ℕ
  s = c.job

  abbrev g : ℕ
  g = component_count (job_in c)

  pub rows_inside : first_where (breaks? c) header_checks ≡ none → RowsInside c.job
  rows_inside e = record {
    variables = let h : ¬ (256 < variable_count s) = λ l. sound TooMany (there (there (here refl))) (inl l) in omega arith;
    equations = let h : ¬ (1024 < equation_count s) = λ l. sound TooMany (there (there (here refl))) (inr l) in omega arith;
    whole = (decided (header? s) (sound WrongHeader (there (there (there (here refl)))))).real_length;
  }
    where
      sound : (r : Reason) → r ∈ header_checks → ¬ Broken g c r
      sound = none_holds (breaks? c) header_checks e

  pub lawful : first_broken c ≡ none → Lawful c.job
  lawful e = record {
    rows = inside;
    job = record {
      variables = omega (arith, variables_of s, inside.variables);
      equations = omega (arith, equations_of s, inside.equations);
      each_variable = λ i h. decided (in_range? (variable (job_of s) i)) (λ n. sound (VariableRange i) (omega (arith, variables_of s), n));
      each_equation = λ k h. row k (omega (arith, equations_of s));
    };
  }
    where
      sound : (r : Reason) → ¬ Broken g c r
      sound = (sound_iff c).0 e

      inside : RowsInside s
      inside = rows_inside (holds_none (breaks? c) header_checks (λ r m. sound r))

      row : (k : ℕ) → k < equation_count s → LawfulEquation (length (job_of s).variables) (equation (job_of s) k)
      row k h = record {
        left = let l : ¬ (variable_count s ≤ (equation (job_of s) k).left) = λ l. named (inl l) in omega (arith, variables_of s);
        right = let l : ¬ (variable_count s ≤ (equation (job_of s) k).right) = λ l. named (inr l) in omega (arith, variables_of s);
        coefficients = decided (coefficients? (equation (job_of s) k)) (λ n. sound (EquationRange k) (h, n));
      }
        where
          named : ¬ Misnamed (variable_count s) (equation (job_of s) k)
          named m = sound (EquationVariables k) (h, m)

-- ---- of such a job
lawful_member : {j : Job} → LawfulJob j → (e : Equation) → e ∈ j.equations → LawfulEquation (length j.variables) e
lawful_member {j} f = (each_iff (LawfulEquation (length j.variables)) j.equations no_equation).0 f.each_equation

-- every equation names variables of the job
pub lawful_named : {j : Job} → LawfulJob j → (e : Equation) → e ∈ j.equations → (e.left < length j.variables) × (e.right < length j.variables)
lawful_named f e m = let h = lawful_member f e m in (h.left, h.right)
