-- Every area after the call: document 01, "The sheet", and document 02, #101.
use Rattle.std.specs.Prelude.{List, ◌++◌, ℕ, length, drop}
use Rattle.jobs.specs.Call.{Areas, Call, on_lent}
use Rattle.jobs.specs.Amendments.{amended, job_in}
use Rattle.jobs.specs.Solution.{best}
use Rattle.jobs.specs.Component.{leads, component}
use Rattle.jobs.specs.Family.{component_job, chosen, slope, family_run}
use Rattle.jobs.specs.Findings.{Findings, findings}
use Rattle.jobs.specs.Verdict.{Verdict, planned, no_fit, refused, verdict}
use Rattle.jobs.specs.SheetLayout.{sheet_of}
use Rattle.jobs.specs.Structure.{Structure, degree_by, kind, structure}
use Rattle.jobs.specs.MapLayout.{map_of}

-- a report at the front of an area; what lies past it stays
abbrev pub at_front : List ℕ → List ℕ → List ℕ
at_front report area = report ++ drop (length report) area

-- the answer area. "Bytes past 24 + 16n + 16g keep their contents." "On no fit and on refusal the whole answer area keeps its
-- contents."
unfoldable pub sheet_after : Findings → Verdict → List ℕ → List ℕ
unfolding sheet_of
sheet_after f (planned worth) area = at_front (sheet_of f) area
sheet_after f (no_fit l) area = area
sheet_after f (refused reason row) area = area

-- the map area. "The map is written on "planned" and on "no fit"; a refusal leaves it untouched, as are bytes past its end."
unfoldable pub map_after : Structure → Verdict → List ℕ → List ℕ
unfolding map_of
map_after t (planned worth) area = at_front (map_of t) area
map_after t (no_fit l) area = at_front (map_of t) area
map_after t (refused reason row) area = area

-- by what is found, how the job hangs together and the verdict, on the areas as lent
abbrev pub areas_by : Findings → Structure → Verdict → Areas → Areas
areas_by f t v lent = record { sheet = on_lent (sheet_after f v) lent.sheet; map = on_lent (map_after t v) lent.map }

unfoldable pub areas_after : Call → Areas
unfolding verdict sheet_after map_after amended leads component family_run best component_job chosen slope degree_by kind
areas_after c = let j = job_in c in areas_by (findings j) (structure j) (verdict c) c.lent
