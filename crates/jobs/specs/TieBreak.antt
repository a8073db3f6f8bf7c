-- The tie-break: of two fit-outs of equal worth, which comes first. Document 02, #104: "Among fit-outs of equal worth the one with the
-- higher number at count 0 comes first, then at count 1, and so on." In a family it decides where a step gains nothing: `choice` in
-- families/specs/Family.
use Rattle.std.specs.Prelude.{List, reverse, ℤ}
use Rattle.lists.specs.Lexicographic.{Lower}

-- x comes before y: where they first differ it has the higher number
abbrev pub Earlier : List ℤ → List ℤ → Type 0
Earlier x y = Lower y x

-- what stands in lexicographic order, in this one
abbrev pub earliest_first : List (List ℤ) → List (List ℤ)
earliest_first xs = reverse xs
