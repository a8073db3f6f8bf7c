-- Document 01, "The job": what the bytes of a job say. Every list of bytes says something; whether it is a job that may be
-- planned is a matter of the table (ReasonTable.antt).
use Rattle.std.specs.Prelude.{◌≡◌, List, ℕ, ◌+◌, ◌*◌, ◌≤◌, length, get_or, pos}
use Rattle.lists.specs.Table.{table}
use Rattle.runs.specs.declared.Equation.{Equation as Form}
use Rattle.little_endian.specs.LittleEndian.{u16, i32, i64}
-- the program's structs: whole numbers in ℤ, numbers of variables in ℕ
pub use Rattle.jobs.specs.declared.Variable.{Variable}
pub use Rattle.jobs.specs.declared.Equation.{Equation}

-- variables (01's counts) and equations (01's ties), each numbered from 0
pub record Job : Type 0 where
  pub variables : List Variable
  pub equations : List Equation

-- 01's n and m
abbrev pub variable_count : List ℕ → ℕ
variable_count s = u16 s 4

abbrev pub equation_count : List ℕ → ℕ
equation_count s = u16 s 6

-- where the rows begin, and where the last of them ends
abbrev pub variable_row_at : ℕ → ℕ
variable_row_at i = 24 + 12 * i

abbrev pub equation_row_at : ℕ → ℕ → ℕ
equation_row_at n k = 24 + 12 * n + 20 * k

-- the numbers of rows within their limits, and the bytes just as many as the rows take: then every row can be read
pub record RowsInside (s : List ℕ) : Type 0 where
  pub variables : variable_count s ≤ 256
  pub equations : equation_count s ≤ 1024
  pub whole : length s ≡ equation_row_at (variable_count s) (equation_count s)

-- "Count row, 12 bytes: low i32, high i32, weight i32."
abbrev pub variable_at : List ℕ → ℕ → Variable
variable_at s i = record { low = i32 s (variable_row_at i); high = i32 s (variable_row_at i + 4); weight = i32 s (variable_row_at i + 8) }

-- "Equation row, 20 bytes: left count u16, right count u16, a i32, b i32, c i64."
abbrev pub equation_from : List ℕ → ℕ → Equation
equation_from s at = record { left = u16 s at; right = u16 s (at + 2); a = i32 s (at + 4); b = i32 s (at + 8); c = i64 s (at + 12) }

abbrev pub equation_at : List ℕ → ℕ → Equation
equation_at s k = equation_from s (equation_row_at (variable_count s) k)

-- a, b and c alone, as the carrying working takes them
abbrev pub form : Equation → Form
form e = record { a = e.a; b = e.b; c = e.c }

unfoldable pub job_of : List ℕ → Job
job_of s = record { variables = table (variable_at s) (variable_count s); equations = table (equation_at s) (equation_count s) }

-- the row with a number; past the last row all is 0
abbrev pub no_variable : Variable
no_variable = record { low = pos 0; high = pos 0; weight = pos 0 }

abbrev pub no_equation : Equation
no_equation = record { left = 0; right = 0; a = pos 0; b = pos 0; c = pos 0 }

abbrev pub variable : Job → ℕ → Variable
variable j i = get_or j.variables i no_variable

abbrev pub equation : Job → ℕ → Equation
equation j k = get_or j.equations k no_equation
