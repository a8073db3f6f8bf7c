-- Document 01's job M, with narrower bounds, by the sentences on components, which do not compute: its components, the lowest count
-- of each, and the fit-outs of the first, as worked out by hand.
use mathlib.Core.Path.{◌≡◌, refl, sym, ◌∙◌, ap}
use mathlib.Core.Logic.Iff
use mathlib.Core.Logic.{◌↔◌, ◌⊎◌, inl, inr}
use mathlib.Core.List.{List, [], ◌∷◌}
use Prim.Native.Nat.{ℕ}
use lib.ListN.{get_or}
use Rattle.ints.proofs.{ℤ, pos}
use Rattle.lists.specs.Members.{◌∈◌, here, there}
use Rattle.lists.specs.Table.{table}
use Rattle.lists.proofs.Table.{table_at}
use Rattle.little_endian.specs.LittleEndian.{unsigned}
use Rattle.jobs.specs.Job.{job_of}
use Rattle.jobs.specs.Solution.{solutions}
use Rattle.jobs.specs.Component.{IsLead, Numbered, lowest, leads, component}
use Rattle.jobs.specs.Family.{component_job}
use Rattle.jobs.specs.Demands.{SolvesGroup}
use Rattle.jobs.specs.Vectors.{narrow_m}
use Rattle.jobs.proofs.Solutions.{in-solutions}
use Rattle.jobs.proofs.Numbering.{IsLead-iff, Numbered-by}
use Rattle.jobs.proofs.Assembly.{solves_iff}

-- the members of a list of two
in_two : {A : Type 0} {xs : List A} {a b : A} → xs ≡ a ∷ b ∷ [] → (x : A) → x ∈ xs ↔ ((x ≡ a) ⊎ (x ≡ b))
in_two {A} {xs} {a} {b} q x = (λ m. out (rw q at m), λ e. rw q (into e))
  where
    out : x ∈ a ∷ b ∷ [] → (x ≡ a) ⊎ (x ≡ b)
    out (there (there x9)) = elim x9 [ ]
    out (here e) = inl e
    out (there (here e)) = inr e

    into : (x ≡ a) ⊎ (x ≡ b) → x ∈ a ∷ b ∷ []
    into (inl e) = here e
    into (inr e) = there (here e)

computed : (table (component (job_of narrow_m)) 4 ≡ 0 ∷ 0 ∷ 0 ∷ 1 ∷ []) × (leads (job_of narrow_m) ≡ 0 ∷ 3 ∷ [])
unfolding job_of unsigned component leads table
computed = (refl, refl)

-- the ties join c0, c1 and c2, which are component 0; c3 is untied, and component 1
pub groups_of_m : Numbered (job_of narrow_m) 2 (λ i. get_or (0 ∷ 0 ∷ 0 ∷ 1 ∷ []) i 0)
unfolding job_of unsigned leads table
groups_of_m =
    Numbered-by (job_of narrow_m) 2 (λ i. get_or (0 ∷ 0 ∷ 0 ∷ 1 ∷ []) i 0) refl
    (λ i h. ap (λ ks. get_or ks i 0) (sym computed.0) ∙ table_at (component (job_of narrow_m)) 4 i 0 h)

-- their lowest counts
pub leads_of_m : (l : ℕ) → IsLead (job_of narrow_m) l ↔ ((l ≡ 0) ⊎ (l ≡ 3))
leads_of_m l = Iff.trans (IsLead-iff (job_of narrow_m) l) (in_two computed.1 l)

-- the fit-outs of component 0, (2, 32, 0) and (5, 80, 2), with 0 for the count of the other component
abbrev first : List ℤ
first = pos 2 ∷ pos 32 ∷ pos 0 ∷ pos 0 ∷ []

abbrev second : List ℤ
second = pos 5 ∷ pos 80 ∷ pos 2 ∷ pos 0 ∷ []

found : solutions (component_job (job_of narrow_m) 0) ≡ first ∷ second ∷ []
unfolding job_of unsigned component_job solutions table
found = refl

pub fits_of_m : (x : List ℤ) → SolvesGroup (job_of narrow_m) 0 x ↔ ((x ≡ first) ⊎ (x ≡ second))
unfolding job_of unsigned lowest table
fits_of_m x =
    Iff.trans (solves_iff (job_of narrow_m) 0 refl x) (Iff.trans (Iff.symm (in-solutions (component_job (job_of narrow_m) 0) x)) (in_two found x))
