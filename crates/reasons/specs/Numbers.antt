-- Document 01, the table of reasons, with document 02's: the number of each case, and the row that is reported with it.
use Rattle.std.specs.Prelude.{ℕ}
use Rattle.reasons.specs.declared.Reason.{Reason}
use Rattle.reasons.specs.declared.Reason.TheVariants.{ShortJob, WrongMark, TooMany, WrongHeader, VariableRange, EquationVariables, EquationRange, ShortArea, WrongArgument, ShortMap, AmendmentsLength, AmendmentZero, AmendmentReference, AmendmentTwice, AmendmentRange}

abbrev pub number_of : Reason → ℕ
number_of ShortJob = 1
number_of WrongMark = 2
number_of TooMany = 3
number_of WrongHeader = 4
number_of (VariableRange row) = 5
number_of (EquationVariables row) = 6
number_of (EquationRange row) = 7
number_of ShortArea = 8
number_of WrongArgument = 9
number_of ShortMap = 10
number_of AmendmentsLength = 11
number_of (AmendmentZero row) = 11
number_of (AmendmentReference row) = 12
number_of (AmendmentTwice row) = 13
-- "bounds out of range, in force or not, give reason 5"
number_of (AmendmentRange row) = 5

-- "For the other reasons the row is 0."
abbrev pub row_of : Reason → ℕ
row_of ShortJob = 0
row_of WrongMark = 0
row_of TooMany = 0
row_of WrongHeader = 0
row_of (VariableRange row) = row
row_of (EquationVariables row) = row
row_of (EquationRange row) = row
row_of ShortArea = 0
row_of WrongArgument = 0
row_of ShortMap = 0
-- "The row is the first such amendment, 0 for a wrong length or too many sheets"
row_of AmendmentsLength = 0
row_of (AmendmentZero row) = row
row_of (AmendmentReference row) = row
row_of (AmendmentTwice row) = row
row_of (AmendmentRange row) = row
