-- The areas of a planning call in the program: their bytes, and by the flags which of them are lent.
use Rattle.std.specs.Prelude.{◌≡◌, List, ℕ, length}
use Rattle.jobs.specs.Call.{Areas as AreasLent, lent_as, areas_of}
use Rattle.planner.specs.declared.Lent.{Lent}
use Rattle.planner.specs.declared.Areas.{Areas}

abbrev pub areas_in : Lent → List ℕ → List ℕ → AreasLent
areas_in lent area map = areas_of area (lent_as lent.map map)

-- the same of the struct
abbrev pub lent_in : Areas → AreasLent
lent_in a = areas_in a.lent a.sheet.now a.map.now

-- the struct borrows what it borrowed, each area as long as it was, and lends the same
pub record SameBorrows (old new : Areas) : Type 0 where
  pub sheet : new.sheet.ghost_name ≡ old.sheet.ghost_name
  pub map : new.map.ghost_name ≡ old.map.ghost_name
  pub sheet_length : length new.sheet.now ≡ length old.sheet.now
  pub map_length : length new.map.now ≡ length old.map.now
  pub lent : new.lent ≡ old.lent
