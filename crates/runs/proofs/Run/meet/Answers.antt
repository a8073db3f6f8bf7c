-- `Run::meet` meets its contract: it is the method of MeetMethod.antt, call by call.
use mathlib.Core.Path.{◌≡◌, ◌∙◌, ap₂, subst}
use mathlib.Core.Logic.{◌≢◌}
use Prim.Native.Nat.{◌≤◌}
use native.Mathlib.Omega.{arith}
use Rattle.std.specs.Prelude.{Option, Some, None}
use Rattle.runs.specs.Run.{Run}
use Rattle.runs.specs.Search.{meet}
use Rattle.runs.specs.Method.{Class, Solves, common, clip, places_in, meet_by}
use Rattle.runs.proofs.MeetMethod.{is_meet, met, meet_fair, meet_places, empty_left, empty_right}
use Rattle.runs.proofs.Run.meet.Goals.{Else-other-eq0, After-solve, In-Some, then-self-eq0-via-then-self-eq0, then-self-eq0-via-else-self-eq0+then-other-eq0}
use Rattle.runs.proofs.Run.meet.Goals as goal

-- neither run is empty
module _ (p : Else-other-eq0) where
  some : 1 ≤ p.args.self.many
  some = let z : p.args.self.many ≢ 0 = p.if-self-eq0.false in omega arith

  some' : 1 ≤ p.args.other.many
  some' = let z : p.args.other.many ≢ 0 = p.if-other-eq0.false in omega arith

-- what the congruence gave
module _ (c : After-solve) where
  abbrev a : Run
  a = c.args.self

  abbrev b : Run
  b = c.args.other

  abbrev p : Else-other-eq0
  p = (goal.at.After-solve c).Else-other-eq0

  solves : (sol : Option Class) → c.solve.result ≡ sol → Solves (places_in a b) sol
  solves sol e = subst (Solves (places_in a b)) e (subst (λ s. Solves s c.solve.result) c.places_in.ensures c.solve.ensures)

  meets : (r : Run) (sol : Option Class) → c.solve.result ≡ sol → r ≡ meet_by sol a b → r ≡ meet a b
  meets r sol e is = is ∙ is_meet c.requires.one_form (met c.requires.one_form c.requires.other_one_form (some p) (some' p) sol (solves sol e))

pub returns-then-self-eq0 : goal.returns-then-self-eq0
returns-then-self-eq0 c = c.empty.ensures ∙ is_meet c.requires.one_form (elim c.then-self-eq0.branch [ then-self-eq0-via-then-self-eq0 w ↦ empty_left c.args.other w.if-self-eq0.true | then-self-eq0-via-else-self-eq0+then-other-eq0 w ↦ empty_right c.args.self w.if-other-eq0.true ])

pub numbers_at-requires-clause-places : goal.numbers_at-requires-clause-places
numbers_at-requires-clause-places c = let s = (goal.at.numbers_at-requires-clause-places c).After-solve in
    meet_places c.requires.one_form c.requires.other_one_form (some (p s)) (some' (p s)) c.in-Some.i (solves s (Some c.in-Some.i) c.in-Some.is)

pub clip-requires : goal.clip-requires
clip-requires c = let s = (goal.at.clip-requires c).After-solve in
    rw (c.numbers_at.ensures, c.common.ensures, c.span.ensures, c.span-in-Some.ensures)
    (meet_fair c.requires.one_form c.requires.other_one_form (some (p s)) (some' (p s)) c.in-Some.i (solves s (Some c.in-Some.i) c.in-Some.is))

pub returns-in-None : goal.returns-in-None
returns-in-None c = meets (goal.at.returns-in-None c).After-solve c.empty-in-None.result None c.in-None.is c.empty-in-None.ensures

pub returns-in-Some : goal.returns-in-Some
returns-in-Some c = meets (goal.at.returns-in-Some c).After-solve c.clip.result (Some c.in-Some.i) c.in-Some.is
    (c.clip.ensures ∙ ap₂ clip c.numbers_at.ensures (c.common.ensures ∙ ap₂ common c.span.ensures c.span-in-Some.ensures))
