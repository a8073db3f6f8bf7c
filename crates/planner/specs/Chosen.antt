-- What is found, of a choice in the program.
use Rattle.jobs.specs.Findings.{Findings}
use Rattle.planner.specs.Choice.{findings_in}
use Rattle.planner.specs.declared.choose.Chosen.{Chosen}

abbrev pub findings_of : Chosen → Findings
findings_of c = findings_in c.families.state.now.labels c.families.state.now.runs c.slopes.now c.numbers.now c.families.variables c.worth
