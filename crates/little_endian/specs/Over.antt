-- Bytes written over others.
use Rattle.std.specs.Prelude.{List, ◌++◌, ℕ, ◌+◌, length, take, drop}

-- the area with these bytes from a place on, and otherwise as it was
unfoldable pub over : ℕ → List ℕ → List ℕ → List ℕ
over at bytes area = take at area ++ (bytes ++ drop (at + length bytes) area)
