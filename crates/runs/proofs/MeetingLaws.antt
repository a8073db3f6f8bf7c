-- The laws of the meeting working, on any arguments: from those of `meet` where all runs are in their one form, and reason 9 elsewhere.
use mathlib.Core.Path.{◌≡◌, refl, sym, ◌∙◌, ap}
use mathlib.Core.Bool.{Bool, true, false, ◌&&◌, and-eq-true_iff, and_self, and_comm}
use Rattle.reasons.specs.Answer.{WorkingAnswer, gives, refused, answer_if}
use Rattle.lists.specs.Keep.{every}
use Rattle.lists.proofs.Keep.{every-append}
use Rattle.lists.proofs.Permutation.{every_permuted}
use Rattle.runs.specs.Run.{Run, OneForm, is_one_form, empty, full}
use Rattle.runs.specs.Search.{meet, meet_all}
use Rattle.runs.specs.Workings.{meeting}
use Rattle.runs.specs.Groupings.{Grouping, alone, pair, leaves, met, meet_answers, worked}
use Rattle.runs.specs.MeetLaws.{MeetingLaws}
use Rattle.runs.proofs.Members.{empty_form}
use Rattle.runs.proofs.ClassInInterval.{full_form}
use Rattle.runs.proofs.Refusals.{OneForm-iff, meeting_gives}
use Rattle.runs.proofs.MeetLaws.{meet_laws, AllFormed-iff, met_form, is_meet_all, meet_all_permuted}

-- answers on tests that agree, with runs that agree where the tests pass
same_answer : {t u : Bool} {r s : Run} → t ≡ u → (t ≡ true → r ≡ s) → answer_if t r ≡ answer_if u s
same_answer {t} {u} {r} {s} e f = go t refl ∙ ap (λ b. answer_if b s) e
  where
    go : (b : Bool) → t ≡ b → answer_if b r ≡ answer_if b s
    go true h = ap gives (f h)
    go false h = refl

-- ---- a grouping, by workings
-- would the next working take the answer?
abbrev is_taken : WorkingAnswer Run → Bool
is_taken (gives r) = is_one_form r
is_taken (refused m n) = false

refused_left : (x y : WorkingAnswer Run) → is_taken x ≡ false → meet_answers x y ≡ refused 9 0
refused_left (gives a) (gives b) e = ap (λ t. answer_if (t && is_one_form b) (meet a b)) e
refused_left (gives a) (refused m n) e = refl
refused_left (refused m n) y e = refl

refused_right : (x y : WorkingAnswer Run) → is_taken y ≡ false → meet_answers x y ≡ refused 9 0
refused_right (gives a) (gives b) e = ap (λ t. answer_if t (meet a b)) (ap (λ t. is_one_form a && t) e ∙ and_comm (is_one_form a) false)
refused_right (gives a) (refused m n) e = refl
refused_right (refused m n) y e = refl

abbrev all_formed : Grouping → Bool
all_formed g = every is_one_form (leaves g)

-- the run that the definition gives where all are in their one form; elsewhere what no working takes
record Stands (g : Grouping) : Type 0 where
  gives : all_formed g ≡ true → worked g ≡ gives (met g)
  not_taken : all_formed g ≡ false → is_taken (worked g) ≡ false

of_pair : (g h : Grouping) → Stands g → Stands h → worked (pair g h) ≡ answer_if (all_formed (pair g h)) (met (pair g h))
unfolding leaves met worked
of_pair g h s t = go (all_formed g) (all_formed h) refl refl ∙ ap (λ b. answer_if b (met (pair g h))) (sym (every-append is_one_form (leaves g) (leaves h)))
  where
    go : (b c : Bool) → all_formed g ≡ b → all_formed h ≡ c → meet_answers (worked g) (worked h) ≡ answer_if (all_formed g && all_formed h) (meet (met g) (met h))
    go true true e f =
        (λ i. meet_answers (s.gives e i) (t.gives f i)) ∙ meeting_gives (met_form g ((AllFormed-iff (leaves g)).0 e)) (met_form h ((AllFormed-iff (leaves h)).0 f)) ∙
        (λ i. answer_if (sym e i && sym f i) (meet (met g) (met h)))
    go false c e f = refused_left (worked g) (worked h) (s.not_taken e) ∙ (λ i. answer_if (sym e i && all_formed h) (meet (met g) (met h)))
    go true false e f = refused_right (worked g) (worked h) (t.not_taken f) ∙ (λ i. answer_if (sym e i && sym f i) (meet (met g) (met h)))

stands : (g : Grouping) → Stands g
unfolding leaves met worked every
stands (alone r) = record { gives = λ e. refl; not_taken = λ e. sym (and_comm (is_one_form r) true) ∙ e }
stands (pair g h) =
    let is : worked (pair g h) ≡ answer_if (all_formed (pair g h)) (met (pair g h)) = of_pair g h (stands g) (stands h) in
    record {
      gives = λ e. is ∙ ap (λ b. answer_if b (met (pair g h))) e;
      not_taken = λ e. ap is_taken (is ∙ ap (λ b. answer_if b (met (pair g h))) e);
    }

of_list : (g h : Grouping) → worked (pair g h) ≡ answer_if (all_formed (pair g h)) (meet_all (leaves (pair g h)))
of_list g h = of_pair g h (stands g) (stands h) ∙ same_answer refl (λ t. is_meet_all (pair g h) ((AllFormed-iff (leaves (pair g h))).0 t))

-- ---- the laws
-- by the law of `meet`, and by what the two tests come to
by_law : (a b : Run) {r : Run} {t : Bool} → is_one_form a && is_one_form b ≡ t → (OneForm a → OneForm b → meet a b ≡ r) → meeting a b ≡ answer_if t r
by_law a b e law = same_answer e (λ t. let (p, q) = (and-eq-true_iff (is_one_form a) (is_one_form b)).0 t in law ((OneForm-iff a).0 p) ((OneForm-iff b).0 q))

-- beside a run in its one form the other decides
beside : {r : Run} (a : Run) → OneForm r → (is_one_form r && is_one_form a ≡ is_one_form a) × (is_one_form a && is_one_form r ≡ is_one_form a)
beside {r} a o =
    let left : is_one_form r && is_one_form a ≡ is_one_form a = ap (λ t. t && is_one_form a) ((OneForm-iff r).1 o) in
    (left, and_comm (is_one_form a) (is_one_form r) ∙ left)

pub meeting_laws : MeetingLaws
unfolding leaves worked
meeting_laws = record {
  commutative = λ a b. by_law a b (and_comm (is_one_form a) (is_one_form b)) (meet_laws.commutative a b);
  associative = λ a b c. of_list (pair (alone a) (alone b)) (alone c) ∙ sym (of_list (alone a) (pair (alone b) (alone c)));
  idempotent = λ a. by_law a a (and_self (is_one_form a)) (λ o p. meet_laws.idempotent a o);
  full_neutral = λ a. (
    by_law full a (beside a full_form).0 (λ o p. (meet_laws.full_neutral a p).0),
    by_law a full (beside a full_form).1 (λ o p. (meet_laws.full_neutral a o).1),
  );
  empty_absorbs = λ a. (
    by_law empty a (beside a empty_form).0 (λ o p. (meet_laws.empty_absorbs a p).0),
    by_law a empty (beside a empty_form).1 (λ o p. (meet_laws.empty_absorbs a o).1),
  );
  any_way = λ g h rs p. of_list g h ∙ same_answer (every_permuted is_one_form p) (λ t. meet_all_permuted p);
}
