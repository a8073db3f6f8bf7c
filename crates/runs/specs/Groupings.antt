-- A list of runs met two at a time, in any grouping.
use Rattle.std.specs.Prelude.{List, [], ◌∷◌, ◌++◌}
use Rattle.reasons.specs.Answer.{WorkingAnswer, gives, refused}
use Rattle.runs.specs.Run.{Run}
use Rattle.runs.specs.Search.{meet}
use Rattle.runs.specs.Workings.{meeting}

-- a binary tree, with a run at each leaf
pub data Grouping : Type 0 where
  alone : Run → Grouping
  pair : Grouping → Grouping → Grouping

-- the list that is grouped
unfoldable pub leaves : Grouping → List Run
leaves (alone r) = r ∷ []
leaves (pair g h) = leaves g ++ leaves h

-- what it comes to by the definition
unfoldable pub met : Grouping → Run
met (alone r) = r
met (pair g h) = meet (met g) (met h)

-- the working after two others, on their answers: where one of them refuses, the whole is refused
abbrev pub meet_answers : WorkingAnswer Run → WorkingAnswer Run → WorkingAnswer Run
meet_answers (gives a) (gives b) = meeting a b
meet_answers (gives a) (refused m n) = refused 9 0
meet_answers (refused m n) x = refused 9 0

-- what it comes to by a sequence of workings
unfoldable pub worked : Grouping → WorkingAnswer Run
worked (alone r) = gives r
worked (pair g h) = meet_answers (worked g) (worked h)
