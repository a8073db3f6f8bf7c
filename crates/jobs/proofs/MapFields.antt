-- How long a map is, where its fields stand, and that what is written on it reads back; and that structures that agree are laid out
-- alike.
use mathlib.Core.Path.{◌≡◌, refl, sym, ◌∙◌, ap, ap₂, subst}
use mathlib.Core.Logic.{◌↔◌}
use mathlib.Core.List.{List, ◌++◌, flat_map}
use Prim.Native.Nat.{ℕ, ◌+◌, ◌*◌, ◌^◌, ◌≤◌, ◌<◌}
use native.Mathlib.Omega.{arith}
use lib.ListN.{length}
use Rattle.lists.specs.Table.{up_to}
use Rattle.lists.proofs.Maps.{flat_map_same}
use Rattle.lists.proofs.Places.{length-flat_map}
use Rattle.lists.proofs.Table.{in-up_to, table_at, length-up_to}
use Rattle.little_endian.specs.LittleEndian.{unsigned, u16, bytes_of}
use Rattle.little_endian.proofs.LittleEndian.{unsigned-bytes_of}
use Rattle.little_endian.proofs.Report.{length_report, in_header as header-in, in_first, in_second}
use Rattle.jobs.specs.Job.{Job, equation}
use Rattle.jobs.specs.Lawful.{LawfulJob}
use Rattle.jobs.specs.NormalForm.{Binary, home}
use Rattle.jobs.specs.Component.{Joins, component_count, component}
use Rattle.jobs.specs.Structure.{Structure, kind, structure}
use Rattle.jobs.specs.MapLayout.{map_header, map_row, map_rows, map_of}
use Rattle.jobs.specs.Demands.{map_group_on, named_on, kind_on, MapOn}
use Rattle.jobs.proofs.Components.{length_leads, component_below}
use Rattle.jobs.proofs.Numbering.{Numbered-by}
use Rattle.jobs.proofs.NormalForm.{home_below}
use Rattle.jobs.proofs.Structure.{kind-Joins, kind_rings, kind_fixes, kind_small, degree_most}

-- ---- how long each part is
pub length_header : (n m g : ℕ) → length (map_header n m g) ≡ 24
unfolding map_header
length_header n m g = refl

pub length_row : (x y : ℕ) → length (map_row x y) ≡ 4
unfolding map_row
length_row x y = refl

pub length_rows : (x y : ℕ → ℕ) (n : ℕ) → length (map_rows x y n) ≡ 4 * n
unfolding map_rows
length_rows x y n = length-flat_map (λ i. map_row (x i) (y i)) 4 (λ i. length_row (x i) (y i)) (up_to n) ∙ ap (λ n. 4 * n) (length-up_to n)

-- ---- the two fields of a row
first_field : (x y : ℕ) → unsigned 2 (map_row x y) 0 ≡ unsigned 2 (bytes_of 2 x) 0
unfolding map_row unsigned
first_field x y = refl

second_field : (x y : ℕ) → unsigned 2 (map_row x y) 2 ≡ unsigned 2 (bytes_of 2 y) 0
unfolding map_row unsigned
second_field x y = refl

module _ (t : Structure) where
  abbrev header : List ℕ
  header = map_header t.n t.m t.components

  abbrev variable_row : ℕ → List ℕ
  variable_row i = map_row (t.component i) (t.degree i)

  abbrev equation_row : ℕ → List ℕ
  equation_row k = map_row (t.equation_component k) (t.kind k)

  map_is : map_of t ≡ header ++ flat_map variable_row (up_to t.n) ++ flat_map equation_row (up_to t.m)
  unfolding map_of map_rows
  map_is = refl

  wide_header : length header ≡ 24
  wide_header = length_header t.n t.m t.components

  wide_variable : (i : ℕ) → length (variable_row i) ≡ 4
  wide_variable i = length_row (t.component i) (t.degree i)

  wide_equation : (k : ℕ) → length (equation_row k) ≡ 4
  wide_equation k = length_row (t.equation_component k) (t.kind k)

  pub length_map : length (map_of t) ≡ 24 + 4 * t.n + 4 * t.m
  length_map =
      ap length map_is
      ∙ length_report header variable_row (up_to t.n) equation_row (up_to t.m) 4 wide_header wide_variable wide_equation
      ∙ ap₂ (λ n m. 24 + 4 * n + 4 * m) (length-up_to t.n) (length-up_to t.m)

  -- ---- what reads back, with anything behind the map
  module _ (rest : List ℕ) where
    header_back : (k y at : ℕ) → at + k ≤ 24 → unsigned k header at ≡ unsigned k (bytes_of k y) 0 → y < 256 ^ k → unsigned k (map_of t ++ rest) at ≡ y
    header_back k y at h e l =
        ap (λ s. unsigned k (s ++ rest) at) map_is
        ∙ header-in header variable_row (up_to t.n) equation_row (up_to t.m) 4 wide_header wide_variable wide_equation rest k at h
        ∙ e ∙ unsigned-bytes_of k y l

    of_variable : (i at : ℕ) → i < t.n → at ≤ 2 → u16 (map_of t ++ rest) (24 + 4 * i + at) ≡ u16 (variable_row i) at
    of_variable i at h l =
        ap (λ s. u16 (s ++ rest) (24 + 4 * i + at)) map_is
        ∙ in_first header variable_row (up_to t.n) equation_row (up_to t.m) 4 wide_header wide_variable wide_equation rest 2 i at 0 (omega (arith, h, length-up_to t.n)) (omega arith)
        ∙ ap (λ i. u16 (variable_row i) at) (table_at (λ i. i) t.n i 0 h)

    of_equation : (k at : ℕ) → k < t.m → at ≤ 2 → u16 (map_of t ++ rest) (24 + 4 * t.n + 4 * k + at) ≡ u16 (equation_row k) at
    of_equation k at h l =
        ap₂ (λ s n. u16 (s ++ rest) (24 + 4 * n + 4 * k + at)) map_is (sym (length-up_to t.n))
        ∙ in_second header variable_row (up_to t.n) equation_row (up_to t.m) 4 wide_header wide_variable wide_equation rest 2 k at 0 (omega (arith, h, length-up_to t.m)) (omega arith)
        ∙ ap (λ k. u16 (equation_row k) at) (table_at (λ k. k) t.m k 0 h)

    component_back : (i : ℕ) → i < t.n → t.component i < 65536 → map_group_on (map_of t ++ rest) i ≡ t.component i
    component_back i h l =
        let e : 24 + 4 * i ≡ 24 + 4 * i + 0 = omega arith in
        ap (u16 (map_of t ++ rest)) e ∙ of_variable i 0 h (omega arith) ∙ first_field (t.component i) (t.degree i) ∙ unsigned-bytes_of 2 (t.component i) l

    degree_back : (i : ℕ) → i < t.n → t.degree i < 65536 → named_on (map_of t ++ rest) i ≡ t.degree i
    degree_back i h l = of_variable i 2 h (omega arith) ∙ second_field (t.component i) (t.degree i) ∙ unsigned-bytes_of 2 (t.degree i) l

    equation_back : (k : ℕ) → k < t.m → t.equation_component k < 65536 → u16 (map_of t ++ rest) (24 + 4 * t.n + 4 * k) ≡ t.equation_component k
    equation_back k h l =
        let e : 24 + 4 * t.n + 4 * k ≡ 24 + 4 * t.n + 4 * k + 0 = omega arith in
        ap (u16 (map_of t ++ rest)) e ∙ of_equation k 0 h (omega arith) ∙ first_field (t.equation_component k) (t.kind k) ∙ unsigned-bytes_of 2 (t.equation_component k) l

    kind_back : (k : ℕ) → k < t.m → t.kind k < 65536 → u16 (map_of t ++ rest) (24 + 4 * t.n + 4 * k + 2) ≡ t.kind k
    kind_back k h l = of_equation k 2 h (omega arith) ∙ second_field (t.equation_component k) (t.kind k) ∙ unsigned-bytes_of 2 (t.kind k) l

-- ---- the map of a lawful job shows how it hangs together
pub map_on : (j : Job) → LawfulJob j → (rest : List ℕ) → MapOn j (map_of (structure j) ++ rest)
unfolding map_of map_header unsigned
map_on j f rest = record {
  mark = refl;
  variables = header_back t rest 2 (length j.variables) 4 (omega arith) refl (omega (arith, f.variables));
  equations = header_back t rest 2 (length j.equations) 6 (omega arith) refl (omega (arith, f.equations));
  variable_rows = header_back t rest 4 24 8 (omega arith) refl (omega arith);
  equation_rows = header_back t rest 4 (24 + 4 * length j.variables) 12 (omega arith) refl (omega (arith, f.variables));
  groups = Numbered-by j _ _ (header_back t rest 2 (component_count j) 16 (omega arith) refl (omega (arith, length_leads j, f.variables))) own;
  zeros = header_back t rest 6 0 18 (omega arith) refl (omega arith);
  named = λ i h. degree_back t rest i h (omega (arith, degree_most j i (length j.equations), f.equations));
  equation_group = λ k h. let l = home_in k h in equation_back t rest k h (below (home (equation j k)) l) ∙ sym (own (home (equation j k)) l);
  joins = λ k h. subst (λ x. (x ≡ 1) ↔ Joins j k) (sym (of_kind k h)) (kind-Joins j k);
  rings = λ k h. subst (λ x. (x ≡ 2) ↔ (Binary (equation j k) × (¬ Joins j k))) (sym (of_kind k h)) (kind_rings j k);
  fixes = λ k h. subst (λ x. (x ≡ 3) ↔ (¬ Binary (equation j k))) (sym (of_kind k h)) (kind_fixes j k);
}
  where
    t : Structure
    t = structure j

    below : (i : ℕ) → i < length j.variables → component j i < 65536
    below i h = omega (arith, component_below j i h, length_leads j, f.variables)

    own : (i : ℕ) → i < length j.variables → map_group_on (map_of (structure j) ++ rest) i ≡ component j i
    own i h = component_back (structure j) rest i h (below i h)

    home_in : (k : ℕ) → k < length j.equations → home (equation j k) < length j.variables
    home_in k h = let e = f.each_equation k h in home_below (equation j k) (length j.variables) e.left e.right

    of_kind : (k : ℕ) → k < length j.equations → kind_on j (map_of (structure j) ++ rest) k ≡ kind j k
    of_kind k h = kind_back (structure j) rest k h (omega (arith, kind_small j k))

-- ---- structures that agree wherever they are shown are laid out alike
pub record SameStructure (t u : Structure) : Type 0 where
  pub variables : t.n ≡ u.n
  pub equations : t.m ≡ u.m
  pub counted : t.components ≡ u.components
  pub numbers : (i : ℕ) → i < t.n → t.component i ≡ u.component i
  pub degrees : (i : ℕ) → i < t.n → t.degree i ≡ u.degree i
  pub homes : (k : ℕ) → k < t.m → t.equation_component k ≡ u.equation_component k
  pub kinds : (k : ℕ) → k < t.m → t.kind k ≡ u.kind k

pub rows_same : (x y x' y' : ℕ → ℕ) {n n' : ℕ} → n ≡ n' → ((i : ℕ) → i < n → x i ≡ x' i) → ((i : ℕ) → i < n → y i ≡ y' i) → map_rows x y n ≡ map_rows x' y' n'
unfolding map_rows
rows_same x y x' y' {n} e p q =
    flat_map_same (λ i. map_row (x i) (y i)) (λ i. map_row (x' i) (y' i)) (up_to n) (λ i m. let h = (in-up_to n i).0 m in ap₂ map_row (p i h) (q i h))
    ∙ ap (map_rows x' y') e

same_header : {t u : Structure} → SameStructure t u → header t ≡ header u
same_header a = rw (a.variables, a.equations, a.counted) refl

pub same_map : {t u : Structure} → SameStructure t u → map_of t ≡ map_of u
unfolding map_of
same_map {t} {u} a =
    ap₂ ◌++◌ (ap₂ ◌++◌ (same_header a) (rows_same t.component t.degree u.component u.degree a.variables a.numbers a.degrees))
    (rows_same t.equation_component t.kind u.equation_component u.kind a.equations a.homes a.kinds)
