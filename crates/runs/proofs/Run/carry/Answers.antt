-- `Run::carry` meets its contract: it is the method of CarryMethod.antt, call by call.
use mathlib.Core.Path.{◌≡◌, sym, ◌∙◌, subst}
use mathlib.Core.Logic.{◌≢◌}
use native.Mathlib.Omega.{arith}
use Rattle.std.specs.Prelude.{Option, Some, None}
use Rattle.runs.specs.Run.{Run}
use Rattle.runs.specs.Search.{carry}
use Rattle.runs.specs.Workings.{Equation}
use Rattle.runs.specs.Method.{Class, Carriable, Solves, places_with_partner, carry_by}
use Rattle.runs.proofs.CarryMembers.{IsCarry, is_carry, empty_carried}
use Rattle.runs.proofs.CarryMethod.{carried, upright-Carriable, upright-IsCarry}
use Rattle.runs.proofs.Run.carry.Goals.{After-upright-up, After-solve}
use Rattle.runs.proofs.Run.carry.Goals as goal

-- the run is not empty, and a is above 0
module _ (c : After-upright-up) where
  abbrev q : Run
  q = c.args.self

  abbrev up : Equation
  up = c.upright-up.result

  carriable : Carriable up q
  carriable = let some : q.many ≢ 0 = c.if-self-eq0.false in subst (λ e. Carriable e q) (sym c.upright-up.ensures) (upright-Carriable c.requires.carry_limits c.requires.one_form (omega arith))

-- what the congruence gave
module _ (c : After-solve) where
  abbrev u : After-upright-up
  u = (goal.at.After-solve c).After-upright-up

  carries : (r : Run) (sol : Option Class) → c.solve.result ≡ sol → r ≡ carry_by sol (up u) (q u) → r ≡ carry c.args.e.a c.args.e.b c.args.e.c (q u)
  carries r sol eq is =
      let solves : Solves (places_with_partner (up u) (q u)) sol = subst (Solves (places_with_partner (up u) (q u))) eq (subst (λ s. Solves s c.solve.result) c.places.ensures c.solve.ensures) in
      let k : IsCarry (up u).a (up u).b (up u).c (q u) r = subst (IsCarry (up u).a (up u).b (up u).c (q u)) (sym is) (carried (carriable u) sol solves) in
      is_carry (upright-IsCarry c.args.e (subst (λ x. IsCarry x.a x.b x.c (q u) r) c.upright-up.ensures k))

pub returns-then-self-eq0 : goal.returns-then-self-eq0
returns-then-self-eq0 c = c.empty.ensures ∙ is_carry (empty_carried c.args.e.a c.args.e.b c.args.e.c c.if-self-eq0.true)

pub returns-in-None : goal.returns-in-None
returns-in-None c = carries (goal.at.returns-in-None c).After-solve c.empty-in-None.result None c.in-None.is c.empty-in-None.ensures

pub returns-in-Some : goal.returns-in-Some
returns-in-Some c = carries (goal.at.returns-in-Some c).After-solve c.run.result (Some c.in-Some.j) c.in-Some.is c.run.ensures
