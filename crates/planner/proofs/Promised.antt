-- All that is promised of a plan, where verdict and areas are those of the definitions: these keep the demands.
use mathlib.Core.Path.{◌≡◌, sym, subst}
use Rattle.jobs.specs.Call.{Areas, Call}
use Rattle.jobs.specs.Verdict.{Verdict, verdict}
use Rattle.jobs.specs.AreasAfter.{areas_after}
use Rattle.jobs.specs.Demands.{TurnsAway, GivesFits, CannotBeBettered, ShowsMap, Plans}
use Rattle.jobs.proofs.DemandsHold.{turns_away, cannot_be_bettered, shows_map}
use Rattle.families.proofs.SheetFamilies.{definitions_give_fits}

pub promised : (c : Call) {v : Verdict} {x : Areas} → v ≡ verdict c → x ≡ areas_after c → Plans c v x
promised c {v} {x} p q = record {
  outcome = p;
  areas = q;
  refusals = of (TurnsAway c) (turns_away c);
  fits = of (GivesFits c) (definitions_give_fits c);
  best = of (CannotBeBettered c) (cannot_be_bettered c);
  map = of (ShowsMap c) (shows_map c);
}
  where
    of : (P : Verdict → Areas → Type 0) → P (verdict c) (areas_after c) → P v x
    of P h = subst (λ v. P v x) (sym p) (subst (P (verdict c)) (sym q) h)
