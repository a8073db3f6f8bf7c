-- `write` meets its contract: the header, the variables' rows and the equations' rows.
use mathlib.Core.Path.{◌≡◌, refl, ◌∙◌, ap}
use mathlib.Core.List.{List}
use Prim.Native.Nat.{ℕ, ◌+◌, ◌*◌, ◌≤◌, ◌<◌}
use native.Mathlib.Omega.{arith}
use lib.ListN.{length, get_or}
use Rattle.lists.specs.Table.{Tabulates}
use Rattle.little_endian.specs.Over.{over}
use Rattle.little_endian.proofs.Over.{over_same, Written, behind_it}
use Rattle.jobs.specs.MapLayout.{map_header, map_row, map_rows, map_of}
use Rattle.jobs.proofs.MapFields.{length_header, length_rows}
use Rattle.families.specs.ModelFindings.{leads_by, component_by}
use Rattle.solver.specs.declared.structure.Structure.{Structure}
use Rattle.solver.specs.StateArrays.{label_in}
use Rattle.solver.specs.Labels.{Lowest}
use Rattle.solver.proofs.LowestVariables.{leads_length, component_same}
use Rattle.planner.specs.Mapping.{structure_in}
use Rattle.planner.proofs.MapRows.{none, more}
use Rattle.planner.proofs.map.write.Goals as goal
use Rattle.planner.proofs.map.write.Invariants.{of_variable, of_equation, with_variables, with_equations}

-- a number in an array
abbrev at : List ℕ → ℕ → ℕ
at xs i = get_or xs i 0

module _ (t : Structure) (n : ℕ) where
  -- a variable is in its label's component
  own : Lowest t.labels n → (numbers : List ℕ) → Tabulates 0 (component_by (label_in t.labels) n) n numbers → (i : ℕ) → i < n → at numbers (at t.labels i) ≡ of_variable t n i
  own low numbers v i h = v.at (label_in t.labels i) (omega (arith, low.low i h)) ∙ component_same (label_in t.labels) n (label_in t.labels i) i (low.self i h)

  -- l₁, l₂ and l₃ are the area after the header, after the variables' rows and after the equations' rows
  whole : (m g : ℕ) → g ≡ length (leads_by (label_in t.labels) n) → (a l₁ l₂ l₃ : List ℕ) → 24 + 4 * n + 4 * m ≤ length a → l₁ ≡ over 0 (map_header n m g) a → l₂ ≡ with_variables t n n l₁ → l₃ ≡ with_equations t n m l₂ →
      l₃ ≡ over 0 (map_of (structure_in t n m)) a
  unfolding map_of
  whole m g q a l₁ l₂ l₃ room e₁ e₂ e₃ =
      let head = map_header n m (length (leads_by (label_in t.labels) n)) in
      let w₁ : Written 0 24 a head l₁ = record { is = over_same 0 a l₁ (ap (map_header n m) q) e₁; wide = length_header n m (length (leads_by (label_in t.labels) n)) } in
      let w₂ = behind_it w₁ (omega arith) (map_rows (of_variable t n) (at t.degrees) n) e₂ refl (length_rows (of_variable t n) (at t.degrees) n) in
      (behind_it w₂ (omega arith) (map_rows (of_equation t n) (at t.kinds) m) e₃ (omega arith) (length_rows (of_equation t n) (at t.kinds) m)).is

pub header-requires-clause-few_components : goal.header-requires-clause-few_components
header-requires-clause-few_components c = let x = c.args in omega (arith, c.requires.counted, leads_length (label_in x.structure.now.labels) x.shape.variables, x.shape.few_variables)

pub loop-i-init : goal.loop-i-init
loop-i-init c = let t = c.args.structure.now in
    none (of_variable t c.args.shape.variables) (at t.degrees) 24 c.header.new.map (omega (arith, c.requires.room))

pub loop-i-preserved : goal.loop-i-preserved
loop-i-preserved c = let t = c.args.structure.now in
    let n = c.args.shape.variables in
    let i = c.loop-i.i in
    more (of_variable t n) (at t.degrees) 24 c.header.new.map i _ _ (omega (arith, c.requires.room)) c.loop-i.invariant
    (over_same (24 + 4 * i) c.loop-i.map _ (ap (λ g. map_row g (at t.degrees i)) (own t n c.requires.lowest c.numbers-numbers.result c.numbers-numbers.ensures i (omega arith))) c.row.ensures)

pub loop-k-init : goal.loop-k-init
loop-k-init c = let t = c.args.structure.now in
    let n = c.args.shape.variables in
    none (of_equation t n) (at t.kinds) (24 + 4 * n) c.loop-i.map (omega (arith, c.requires.room))

pub loop-k-preserved : goal.loop-k-preserved
loop-k-preserved c = let t = c.args.structure.now in
    let n = c.args.shape.variables in
    let k = c.loop-k.k in
    more (of_equation t n) (at t.kinds) (24 + 4 * n) c.loop-i.map k _ _ (omega (arith, c.requires.room)) c.loop-k.invariant
    (over_same (24 + 4 * n + 4 * k) c.loop-k.map _ (ap (λ g. map_row g (at t.kinds k)) (c.numbers-numbers.ensures.at (at t.homes k) (c.requires.all_below.at k (omega arith)))) c.row-in-loop-k.ensures)

pub returns : goal.returns
returns c = let x = c.args in
    let t = x.structure.now in
    let n = x.shape.variables in
    let m = x.shape.equations in
    let all_variables : c.loop-i.i ≡ n = omega arith in
    let all_equations : c.loop-k.k ≡ m = omega arith in
    whole t n m x.g c.requires.counted x.map.now _ _ _ c.requires.room c.header.ensures
    (c.loop-i.invariant ∙ ap (λ i. with_variables t n i c.header.new.map) all_variables)
    (c.loop-k.invariant ∙ ap (λ k. with_equations t n k c.loop-i.map) all_equations)
