-- The laws of meeting, by members: a run in its one form is determined by them (`by_members`), and x is in a meet exactly when it is in
-- both (`in_meet`).
use mathlib.Core.Path.{◌≡◌, refl, sym, ◌∙◌}
use mathlib.Core.Logic.Iff
use mathlib.Core.Logic.{◌↔◌}
use mathlib.Core.Bool.{true}
use mathlib.Core.List.{List, [], ◌∷◌}
use Rattle.ints.proofs.{ℤ}
use Rattle.lists.specs.Members.{◌∈◌, here, there}
use Rattle.lists.specs.Keep.{every}
use Rattle.lists.specs.Permutation.{Permutation}
use Rattle.lists.proofs.Members.{each_append}
use Rattle.lists.proofs.Keep.{every_iff}
use Rattle.lists.proofs.Permutation.{every_permuted}
use Rattle.runs.specs.Run.{Run, InRun, OneForm, is_one_form}
use Rattle.runs.specs.Search.{is_in, meet, passing, meet_all}
use Rattle.runs.specs.Groupings.{Grouping, alone, pair, leaves, met}
use Rattle.runs.specs.MeetLaws.{MeetLaws}
use Rattle.runs.proofs.Members.{by_members, empty_form, not_in_empty}
use Rattle.runs.proofs.ClassInInterval.{full_form}
use Rattle.runs.proofs.MeetMethod.{is_in_iff}
use Rattle.runs.proofs.Passing.{is_passing}
use Rattle.runs.proofs.MeetAndCarry.{meet_form, in_meet, in_full}
use Rattle.runs.proofs.Refusals.{OneForm-iff}

-- ---- two runs the other way round, and three in the other grouping
turned : {a b : Run} → OneForm a → OneForm b → (x : ℤ) → InRun (meet a b) x → InRun (meet b a) x
turned o p x k = let (h, i) = (in_meet o p x).0 k in (in_meet p o x).1 (i, h)

module _ {a b c : Run} (o : OneForm a) (p : OneForm b) (q : OneForm c) (x : ℤ) where
  to_the_right : InRun (meet (meet a b) c) x → InRun (meet a (meet b c)) x
  to_the_right k =
      let (hi, j) = (in_meet (meet_form o p) q x).0 k in
      let (h, i) = (in_meet o p x).0 hi in
      (in_meet o (meet_form p q) x).1 (h, (in_meet p q x).1 (i, j))

  to_the_left : InRun (meet a (meet b c)) x → InRun (meet (meet a b) c) x
  to_the_left k =
      let (h, ij) = (in_meet o (meet_form p q) x).0 k in
      let (i, j) = (in_meet p q x).0 ij in
      (in_meet (meet_form o p) q x).1 ((in_meet o p x).1 (h, i), j)

-- ---- a list
abbrev pub AllFormed : List Run → Type 0
AllFormed rs = (r : Run) → r ∈ rs → OneForm r

pub AllFormed-iff : (rs : List Run) → (every is_one_form rs ≡ true) ↔ AllFormed rs
AllFormed-iff rs = Iff.trans (every_iff is_one_form rs) (λ f r m. (OneForm-iff r).0 (f r m), λ f r m. (OneForm-iff r).1 (f r m))

abbrev InAll : List Run → ℤ → Type 0
InAll rs x = (r : Run) → r ∈ rs → InRun r x

-- a grouping has one run, of the numbers that are in all its leaves
pub met_form : (g : Grouping) → AllFormed (leaves g) → OneForm (met g)
unfolding leaves met
met_form (alone r) f = f r (here refl)
met_form (pair g h) f = let (f₀, f₁) = (each_append OneForm (leaves g) (leaves h)).0 f in meet_form (met_form g f₀) (met_form h f₁)

in_met : (g : Grouping) → AllFormed (leaves g) → (x : ℤ) → InRun (met g) x ↔ InAll (leaves g) x
unfolding leaves met
in_met (alone r) f x = (only, λ k. k r (here refl))
  where
    only : InRun r x → InAll (r ∷ []) x
    only k s (here e) = rw e k
    only k s (there h) = elim h [ ]
in_met (pair g h) f x =
    let (f₀, f₁) = (each_append OneForm (leaves g) (leaves h)).0 f in
    let in-each = each_append (λ r. InRun r x) (leaves g) (leaves h) in
    Iff.trans (in_meet (met_form g f₀) (met_form h f₁) x) (
      λ (k, l). in-each.1 ((in_met g f₀ x).0 k, (in_met h f₁ x).0 l),
      λ k. let (k₀, k₁) = in-each.0 k in ((in_met g f₀ x).1 k₀, (in_met h f₁ x).1 k₁),
    )

pub is_meet_all : (g : Grouping) → AllFormed (leaves g) → met g ≡ meet_all (leaves g)
unfolding meet_all
is_meet_all g f = is_passing (λ x. every (λ r. is_in r x) (leaves g)) (met_form g f) (λ x. (
  λ k. ((met_form g f).inside x k, (every_iff (λ r. is_in r x) (leaves g)).1 (λ r m. (is_in_iff r x).1 ((in_met g f x).0 k r m))),
  λ (w, t). (in_met g f x).1 (λ r m. (is_in_iff r x).0 ((every_iff (λ r. is_in r x) (leaves g)).0 t r m)),
))

pub meet_all_permuted : {rs ss : List Run} → Permutation rs ss → meet_all rs ≡ meet_all ss
unfolding meet_all
meet_all_permuted h = λ i. passing (λ x. every_permuted (λ r. is_in r x) h i)

-- ---- the laws
pub meet_laws : MeetLaws
unfolding meet_all every
meet_laws = record {
  commutative = λ a b o p. by_members (meet_form o p) (meet_form p o) (λ x. (turned o p x, turned p o x));
  associative = λ a b c o p q. by_members (meet_form (meet_form o p) q) (meet_form o (meet_form p q)) (λ x. (to_the_right o p q x, to_the_left o p q x));
  idempotent = λ a o. by_members (meet_form o o) o (λ x. (λ k. ((in_meet o o x).0 k).0, λ h. (in_meet o o x).1 (h, h)));
  full_neutral = λ a o. (
    by_members (meet_form full_form o) o (λ x. (λ k. ((in_meet full_form o x).0 k).1, λ h. (in_meet full_form o x).1 ((in_full x).1 (o.inside x h), h))),
    by_members (meet_form o full_form) o (λ x. (λ k. ((in_meet o full_form x).0 k).0, λ h. (in_meet o full_form x).1 (h, (in_full x).1 (o.inside x h)))),
  );
  empty_absorbs = λ a o. (
    by_members (meet_form empty_form o) empty_form (λ x. (λ k. ((in_meet empty_form o x).0 k).0, not_in_empty)),
    by_members (meet_form o empty_form) empty_form (λ x. (λ k. ((in_meet o empty_form x).0 k).1, not_in_empty)),
  );
  none = sym (is_passing (λ x. true) full_form (λ x. (λ k. ((in_full x).0 k, refl), λ k. (in_full x).1 k.0)));
  any_way = λ g rs h f. is_meet_all g ((AllFormed-iff (leaves g)).0 (every_permuted is_one_form h ∙ (AllFormed-iff rs).1 f)) ∙ meet_all_permuted h;
}
