-- Request #110: what is promised of meeting in whatever order and grouping the runs come (proofs/MeetLaws.antt and
-- proofs/MeetingLaws.antt prove it).
use Rattle.std.specs.Prelude.{◌≡◌, List, []}
use Rattle.reasons.specs.Answer.{gives, answer_if}
use Rattle.lists.specs.Members.{◌∈◌}
use Rattle.lists.specs.Keep.{every}
use Rattle.lists.specs.Permutation.{Permutation}
use Rattle.runs.specs.Run.{Run, OneForm, is_one_form, empty, full}
use Rattle.runs.specs.Search.{meet, meet_all}
use Rattle.runs.specs.Workings.{meeting}
use Rattle.runs.specs.Groupings.{Grouping, pair, leaves, met, meet_answers, worked}

-- of the definition, for all runs in their one form
pub record MeetLaws : Type 0 where
  pub commutative : (a b : Run) → OneForm a → OneForm b → meet a b ≡ meet b a
  pub associative : (a b c : Run) → OneForm a → OneForm b → OneForm c → meet (meet a b) c ≡ meet a (meet b c)
  pub idempotent : (a : Run) → OneForm a → meet a a ≡ a
  pub full_neutral : (a : Run) → OneForm a → (meet full a ≡ a) × (meet a full ≡ a)
  pub empty_absorbs : (a : Run) → OneForm a → (meet empty a ≡ empty) × (meet a empty ≡ empty)
  -- a list comes to one run, in whatever order it is taken and however it is grouped: to the numbers that are in all of them; no
  -- runs come to the full range
  pub none : meet_all [] ≡ full
  pub any_way : (g : Grouping) (rs : List Run) → Permutation (leaves g) rs → ((r : Run) → r ∈ rs → OneForm r) → met g ≡ meet_all rs

-- of the working, for all arguments: where a run is not in its one form, each of these is reason 9
pub record MeetingLaws : Type 0 where
  pub commutative : (a b : Run) → meeting a b ≡ meeting b a
  pub associative : (a b c : Run) → meet_answers (meeting a b) (gives c) ≡ meet_answers (gives a) (meeting b c)
  pub idempotent : (a : Run) → meeting a a ≡ answer_if (is_one_form a) a
  pub full_neutral : (a : Run) → (meeting full a ≡ answer_if (is_one_form a) a) × (meeting a full ≡ answer_if (is_one_form a) a)
  pub empty_absorbs : (a : Run) → (meeting empty a ≡ answer_if (is_one_form a) empty) × (meeting a empty ≡ answer_if (is_one_form a) empty)
  -- the same for a list of two runs or more
  pub any_way : (g h : Grouping) (rs : List Run) → Permutation (leaves (pair g h)) rs →
      worked (pair g h) ≡ answer_if (every is_one_form rs) (meet_all rs)
