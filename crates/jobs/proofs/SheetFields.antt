-- How long a sheet is, where its fields stand, and that what is written on it reads back where it fits its field; and that two
-- findings that agree are laid out alike.
use mathlib.Core.Path.{◌≡◌, refl, sym, ◌∙◌, ap, ap₂}
use mathlib.Core.List.{List, ◌++◌, flat_map}
use Prim.Native.Nat.{ℕ, ◌+◌, ◌*◌, ◌^◌, ◌≤◌, ◌<◌}
use native.Mathlib.Omega.{arith}
use lib.ListN.{length, get_or}
use Rattle.ints.specs.Within.{Within}
use Rattle.ints.proofs.{ℤ}
use Rattle.runs.specs.declared.Run.{Run}
use Rattle.runs.specs.Run.{bound}
use Rattle.lists.specs.Members.{◌∈◌}
use Rattle.lists.specs.Table.{up_to}
use Rattle.lists.proofs.Maps.{flat_map_same}
use Rattle.lists.proofs.Places.{length-flat_map}
use Rattle.lists.proofs.Table.{in-up_to, table_at, length-up_to}
use Rattle.little_endian.specs.LittleEndian.{unsigned, i64, bytes_of, signed_bytes}
use Rattle.jobs.specs.Job.{Job}
use Rattle.jobs.specs.Component.{component_count, component}
use Rattle.jobs.specs.Findings.{Findings, findings}
use Rattle.jobs.specs.SheetLayout.{sheet_header, sheet_variable, sheet_group, sheet_variables, sheet_groups, sheet_of}
use Rattle.jobs.specs.Demands.{worth_on, number_on, base_on, step_on, LaidOut}
use Rattle.little_endian.proofs.LittleEndian.{unsigned-bytes_of}
use Rattle.little_endian.proofs.Report.{length_report, in_header as header-in, in_first, in_second}
use Rattle.little_endian.proofs.TwosComplement.{FitsBytes, Within-fits, signed_field}
use Rattle.jobs.proofs.Components.{length_leads, component_below}
use Rattle.jobs.proofs.Numbering.{Numbered-by}

-- ---- how long each part is: the widths of its fields are numerals, so this computes
pub length_header : (n g : ℕ) (worth : ℤ) → length (sheet_header n g worth) ≡ 24
unfolding sheet_header
length_header n g worth = refl

length_variable : (x : ℤ) (r : Run) (group : ℕ) → length (sheet_variable x r group) ≡ 16
unfolding sheet_variable
length_variable x r group = refl

length_group : (many k : ℕ) (gain : ℤ) → length (sheet_group many k gain) ≡ 16
unfolding sheet_group
length_group many k gain = refl

pub length_variables : (x : ℕ → ℤ) (r : ℕ → Run) (group : ℕ → ℕ) (n : ℕ) → length (sheet_variables x r group n) ≡ 16 * n
unfolding sheet_variables
length_variables x r group n = length-flat_map (λ i. sheet_variable (x i) (r i) (group i)) 16 (λ i. length_variable (x i) (r i) (group i)) (up_to n) ∙ ap (λ n. 16 * n) (length-up_to n)

pub length_groups : (r : ℕ → Run) (k : ℕ → ℕ) (gain : ℕ → ℤ) (leads : List ℕ) → length (sheet_groups r k gain leads) ≡ 16 * length leads
unfolding sheet_groups
length_groups r k gain leads = length-flat_map (λ l. sheet_group (r l).many (k l) (gain l)) 16 (λ l. length_group (r l).many (k l) (gain l)) leads

module _ (f : Findings) where
  abbrev header : List ℕ
  header = sheet_header f.n (length f.leads) f.objective

  abbrev variable_row : ℕ → List ℕ
  variable_row i = sheet_variable (f.assigned i) (f.run i) (f.component i)

  abbrev group_row : ℕ → List ℕ
  group_row l = sheet_group (f.run l).many (f.chosen l) (f.slope l)

  abbrev rows_of_variables : List ℕ
  rows_of_variables = sheet_variables f.assigned f.run f.component f.n

  abbrev rows_of_groups : List ℕ
  rows_of_groups = sheet_groups f.run f.chosen f.slope f.leads

  sheet_of_is : sheet_of f ≡ header ++ rows_of_variables ++ rows_of_groups
  unfolding sheet_of
  sheet_of_is = refl

  wide_header : length header ≡ 24
  wide_header = length_header f.n (length f.leads) f.objective

  wide_variable : (i : ℕ) → length (variable_row i) ≡ 16
  wide_variable i = length_variable (f.assigned i) (f.run i) (f.component i)

  wide_group : (l : ℕ) → length (group_row l) ≡ 16
  wide_group l = length_group (f.run l).many (f.chosen l) (f.slope l)

  pub length-sheet_of : length (sheet_of f) ≡ 24 + 16 * f.n + 16 * length f.leads
  unfolding sheet_variables sheet_groups
  length-sheet_of =
      ap length sheet_of_is
      ∙ length_report header variable_row (up_to f.n) group_row f.leads 16 wide_header wide_variable wide_group
      ∙ ap (λ n. 24 + 16 * n + 16 * length f.leads) (length-up_to f.n)

  -- ---- where each part is read, on a sheet with anything behind it
  module _ (rest : List ℕ) (k : ℕ) where
    in_header : (at : ℕ) → at + k ≤ 24 → unsigned k (sheet_of f ++ rest) at ≡ unsigned k header at
    unfolding sheet_variables sheet_groups
    in_header at h =
        ap (λ s. unsigned k (s ++ rest) at) sheet_of_is
        ∙ header-in header variable_row (up_to f.n) group_row f.leads 16 wide_header wide_variable wide_group rest k at h

    in_variable : (i at : ℕ) → i < f.n → at + k ≤ 16 → unsigned k (sheet_of f ++ rest) (24 + 16 * i + at) ≡ unsigned k (variable_row i) at
    unfolding sheet_variables sheet_groups
    in_variable i at h l =
        ap (λ s. unsigned k (s ++ rest) (24 + 16 * i + at)) sheet_of_is
        ∙ in_first header variable_row (up_to f.n) group_row f.leads 16 wide_header wide_variable wide_group rest k i at 0 (omega (arith, h, length-up_to f.n)) l
        ∙ ap (λ i. unsigned k (variable_row i) at) (table_at (λ i. i) f.n i 0 h)

    in_group : (g at : ℕ) → g < length f.leads → at + k ≤ 16 → unsigned k (sheet_of f ++ rest) (24 + 16 * f.n + 16 * g + at) ≡ unsigned k (group_row (get_or f.leads g 0)) at
    unfolding sheet_variables sheet_groups
    in_group g at h l =
        ap₂ (λ s n. unsigned k (s ++ rest) (24 + 16 * n + 16 * g + at)) sheet_of_is (sym (length-up_to f.n))
        ∙ in_second header variable_row (up_to f.n) group_row f.leads 16 wide_header wide_variable wide_group rest k g at 0 h l

  -- ---- what reads back
  worth_field : unsigned 8 header 16 ≡ unsigned 8 (signed_bytes 8 f.objective) 0
  unfolding sheet_header unsigned
  worth_field = refl

  module _ (rest : List ℕ) where
    pub worth_back : FitsBytes 8 f.objective → worth_on (sheet_of f ++ rest) ≡ f.objective
    worth_back h = signed_field 8 f.objective (in_header rest 8 16 (omega arith) ∙ worth_field) h

    -- of the row of variable i
    module _ (i : ℕ) (h : i < f.n) where
      number_field : unsigned 4 (variable_row i) 0 ≡ unsigned 4 (signed_bytes 4 (f.assigned i)) 0
      unfolding sheet_variable unsigned
      number_field = refl

      base_field : unsigned 4 (variable_row i) 4 ≡ unsigned 4 (signed_bytes 4 (f.run i).first) 0
      unfolding sheet_variable unsigned
      base_field = refl

      step_field : unsigned 4 (variable_row i) 8 ≡ unsigned 4 (signed_bytes 4 (f.run i).step) 0
      unfolding sheet_variable unsigned
      step_field = refl

      pub number_back : Within bound (f.assigned i) → number_on (sheet_of f ++ rest) i ≡ f.assigned i
      number_back b =
          let e : 24 + 16 * i ≡ 24 + 16 * i + 0 = omega arith in
          signed_field 4 (f.assigned i) (ap (unsigned 4 (sheet_of f ++ rest)) e ∙ in_variable rest 4 i 0 h (omega arith) ∙ number_field) (Within-fits 4 bound (f.assigned i) (omega arith) b)

      pub base_back : Within bound (f.run i).first → base_on (sheet_of f ++ rest) i ≡ (f.run i).first
      base_back b = signed_field 4 (f.run i).first (in_variable rest 4 i 4 h (omega arith) ∙ base_field) (Within-fits 4 bound (f.run i).first (omega arith) b)

      pub step_back : Within (2 * bound) (f.run i).step → step_on (sheet_of f ++ rest) i ≡ (f.run i).step
      step_back b = signed_field 4 (f.run i).step (in_variable rest 4 i 8 h (omega arith) ∙ step_field) (Within-fits 4 (2 * bound) (f.run i).step (omega arith) b)

    -- of the row of component g, whose lowest variable is l
    module _ (g l : ℕ) (h : g < length f.leads) (lead : get_or f.leads g 0 ≡ l) where
      of_row : (k at : ℕ) → at + k ≤ 16 → unsigned k (sheet_of f ++ rest) (24 + 16 * f.n + 16 * g + at) ≡ unsigned k (group_row l) at
      of_row k at b = in_group rest k g at h b ∙ ap (λ l. unsigned k (group_row l) at) lead

      fits_field : unsigned 4 (group_row l) 0 ≡ unsigned 4 (bytes_of 4 (f.run l).many) 0
      unfolding sheet_group unsigned
      fits_field = refl

      chosen_field : unsigned 4 (group_row l) 4 ≡ unsigned 4 (bytes_of 4 (f.chosen l)) 0
      unfolding sheet_group unsigned
      chosen_field = refl

      gain_field : unsigned 8 (group_row l) 8 ≡ unsigned 8 (signed_bytes 8 (f.slope l)) 0
      unfolding sheet_group unsigned
      gain_field = refl

      pub fits_back : (f.run l).many < 4294967296 → unsigned 4 (sheet_of f ++ rest) (24 + 16 * f.n + 16 * g) ≡ (f.run l).many
      fits_back b =
          let e : 24 + 16 * f.n + 16 * g ≡ 24 + 16 * f.n + 16 * g + 0 = omega arith in
          ap (unsigned 4 (sheet_of f ++ rest)) e ∙ of_row 4 0 (omega arith) ∙ fits_field ∙ unsigned-bytes_of 4 (f.run l).many b

      pub chosen_back : f.chosen l < 4294967296 → unsigned 4 (sheet_of f ++ rest) (24 + 16 * f.n + 16 * g + 4) ≡ f.chosen l
      chosen_back b = of_row 4 4 (omega arith) ∙ chosen_field ∙ unsigned-bytes_of 4 (f.chosen l) b

      pub gain_back : FitsBytes 8 (f.slope l) → i64 (sheet_of f ++ rest) (24 + 16 * f.n + 16 * g + 8) ≡ f.slope l
      gain_back b = signed_field 8 (f.slope l) (of_row 8 8 (omega arith) ∙ gain_field) b

    -- an unsigned field of the header, and of a variable's row
    header_back : (k y at : ℕ) → at + k ≤ 24 → unsigned k header at ≡ unsigned k (bytes_of k y) 0 → y < 256 ^ k → unsigned k (sheet_of f ++ rest) at ≡ y
    header_back k y at h e l = in_header rest k at h ∙ e ∙ unsigned-bytes_of k y l

    variable_back : (k y i at : ℕ) → i < f.n → at + k ≤ 16 → unsigned k (variable_row i) at ≡ unsigned k (bytes_of k y) 0 → y < 256 ^ k →
        unsigned k (sheet_of f ++ rest) (24 + 16 * i + at) ≡ y
    variable_back k y i at m h e l = in_variable rest k i at m h ∙ e ∙ unsigned-bytes_of k y l

-- the counts, the offsets and the numbers of components fit their fields where n fits its own
pub sheet_of_back : (j : Job) (rest : List ℕ) → length j.variables < 65536 → LaidOut j (sheet_of (findings j) ++ rest)
unfolding sheet_of sheet_header sheet_variable unsigned
sheet_of_back j rest h = record {
  mark = refl;
  variables = header_back (findings j) rest 2 (length j.variables) 4 (omega arith) refl (omega arith);
  variable_rows = header_back (findings j) rest 4 24 8 (omega arith) refl (omega arith);
  group_rows = header_back (findings j) rest 4 (24 + 16 * length j.variables) 12 (omega arith) refl (omega arith);
  groups =
      Numbered-by j _ _ (header_back (findings j) rest 2 (component_count j) 6 (omega arith) refl (omega (arith, length_leads j))) (
      λ i m. variable_back (findings j) rest 2 (component j i) i 12 m (omega arith) refl (omega (arith, component_below j i m, length_leads j))
      );
  zero = λ i m. variable_back (findings j) rest 2 0 i 14 m (omega arith) refl (omega arith);
}

-- ---- findings that agree wherever they are shown are laid out alike
pub record Agree (f g : Findings) : Type 0 where
  pub variables : f.n ≡ g.n
  pub leading : f.leads ≡ g.leads
  pub numbers : (i : ℕ) → i < f.n → f.component i ≡ g.component i
  pub runs : (i : ℕ) → i < f.n → f.run i ≡ g.run i
  pub values : (i : ℕ) → i < f.n → f.assigned i ≡ g.assigned i
  pub many : (l : ℕ) → l ∈ f.leads → (f.run l).many ≡ (g.run l).many
  pub choices : (l : ℕ) → l ∈ f.leads → f.chosen l ≡ g.chosen l
  pub slopes : (l : ℕ) → l ∈ f.leads → f.slope l ≡ g.slope l
  pub total : f.objective ≡ g.objective

module _ {f g : Findings} (a : Agree f g) where
  same_header : header f ≡ header g
  same_header = rw (a.variables, a.leading, a.total) refl

  same_variable : (i : ℕ) → i < f.n → variable_row f i ≡ variable_row g i
  same_variable i h = rw (a.numbers i h, a.runs i h, a.values i h) refl

  same_group : (l : ℕ) → l ∈ f.leads → group_row f l ≡ group_row g l
  same_group l m = rw (a.many l m, a.choices l m, a.slopes l m) refl

  same_variables : rows_of_variables f ≡ rows_of_variables g
  unfolding sheet_variables
  same_variables =
      flat_map_same (variable_row f) (variable_row g) (up_to f.n) (λ i m. same_variable i ((in-up_to f.n i).0 m))
      ∙ ap (λ n. flat_map (variable_row g) (up_to n)) a.variables

  same_groups : rows_of_groups f ≡ rows_of_groups g
  unfolding sheet_groups
  same_groups = flat_map_same (group_row f) (group_row g) f.leads same_group ∙ ap (flat_map (group_row g)) a.leading

  pub same_layout : sheet_of f ≡ sheet_of g
  same_layout = sheet_of_is f ∙ ap₂ ◌++◌ (ap₂ ◌++◌ same_header same_variables) same_groups ∙ sym (sheet_of_is g)
