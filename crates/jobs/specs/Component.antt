-- Document 01, "Groups and their families": "A group is a largest set of counts joined by equations; an untied count is a
-- group of its own. Groups are numbered in the order of their lowest count." In the field, a connected component.
use Rattle.std.specs.Prelude.{◌≡◌, ◌↔◌, cond, ◌||◌, List, ℕ, zero, suc, ◌≤◌, ◌<◌, min, eqb, ltb, length}
use Rattle.lists.specs.Keep.{keep}
use Rattle.lists.specs.Table.{table, up_to}
use Rattle.jobs.specs.Job.{Equation, Job, equation}
use Rattle.jobs.specs.NormalForm.{Binary, normal, normal_row}

-- the equation joins p and q
pub data Connects (e : Equation) (p q : ℕ) : Type 0 where
  forth : Binary e → e.left ≡ p → e.right ≡ q → Connects e p q
  back : Binary e → e.left ≡ q → e.right ≡ p → Connects e p q

-- a path from p to q along the first m equations of the job
pub data Chain (j : Job) (m p : ℕ) : ℕ → Type 0 where
  stay : {q : ℕ} → p ≡ q → Chain j m p q
  onward : {q r : ℕ} (k : ℕ) → k < m → Chain j m p q → Connects (equation j k) q r → Chain j m p r

-- p and q are in one group
abbrev pub Joined : Job → ℕ → ℕ → Type 0
Joined j = Chain j (length j.equations)

-- l is the lowest variable of its group
pub record IsLead (j : Job) (l : ℕ) : Type 0 where
  pub is_variable : l < length j.variables
  pub least : (i : ℕ) → Joined j l i → l ≤ i

-- there are g groups, and `group` gives each variable the number of its own: 0 to g − 1, in the order of their lowest variables
-- (proofs/Numbering.antt: just one g is so, with one numbering)
pub record Numbered (j : Job) (g : ℕ) (group : ℕ → ℕ) : Type 0 where
  pub together : (i k : ℕ) → i < length j.variables → k < length j.variables → (group i ≡ group k) ↔ Joined j i k
  pub in_order : (l k : ℕ) → IsLead j l → IsLead j k → l < k → group l < group k
  pub each : (k : ℕ) → (k < g) ↔ ((i : ℕ) × ((i < length j.variables) × (group i ≡ k)))

-- equation k joins two sets that the earlier ones left separate (proofs/Components.antt: exactly when its two variables have
-- different lowest variables then, in normal form)
abbrev pub Joins : Job → ℕ → Type 0
Joins j k = Binary (equation j k) × (¬ Chain j k (equation j k).left (equation j k).right)

-- ---- the same as functions that compute; the demands do without them. A group is named by its lowest variable
-- (proofs/Components.antt: two variables are joined exactly when they have the same lowest variable, and it is joined to them
-- and the lowest that is).

-- if i is one of p and q, which an equation brings together, the lower of these
abbrev pub merged : ℕ → ℕ → ℕ → ℕ
merged p q i = cond (eqb i p || eqb i q) (min p q) i

-- the lowest variable to which the first m equations join i. In normal form one that is not binary has the same variable twice, and so
-- brings nothing together.
unfoldable pub lowest_by : Job → ℕ → ℕ → ℕ
unfolding normal
lowest_by j zero i = i
lowest_by j (suc m) i = merged (lowest_by j m (normal_row j m).left) (lowest_by j m (normal_row j m).right) (lowest_by j m i)

unfoldable pub lowest : Job → ℕ → ℕ
unfolding lowest_by
lowest j i = lowest_by j (length j.equations) i

-- ---- groups by their numbers (proofs/Numbering.antt: `leads` are those that `IsLead`, and `component` numbers the groups)

-- the lowest variable of each group, in order
unfoldable pub leads : Job → List ℕ
unfolding keep table lowest
leads j = keep (λ i. eqb (lowest j i) i) (up_to (length j.variables))

-- 01's g
abbrev pub component_count : Job → ℕ
component_count j = length (leads j)

-- the number of a variable's group: how many groups have a lower lowest variable
unfoldable pub component : Job → ℕ → ℕ
unfolding keep leads lowest
component j i = length (keep (λ l. ltb l (lowest j i)) (leads j))
