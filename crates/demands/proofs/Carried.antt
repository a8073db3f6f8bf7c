-- A job without a whole header is turned away by the definitions too, by reason 1, and so a demand is kept that they keep.
use mathlib.Core.Path.{subst}
use mathlib.Core.List.{List}
use Prim.Native.Nat.{ℕ, ◌<◌}
use lib.ListN.{length}
use Rattle.jobs.specs.Call.{Areas, Call, call_of}
use Rattle.jobs.specs.Verdict.{Verdict, refused, verdict}
use Rattle.jobs.specs.AreasAfter.{areas_after}
use Rattle.jobs.specs.Demands.{TurnsAway, GivesFits}
use Rattle.jobs.proofs.Outcomes.{no_header}
use Rattle.jobs.proofs.DemandsHold.{turns_away}
use Rattle.families.proofs.SheetFamilies.{definitions_give_fits}

pub turned_early : (P : Verdict → Areas → Type 0) (c : Call) → length c.job < 24 → P (verdict c) (areas_after c) → P (refused 1 0) c.lent
turned_early P c h p = let (v, a) = no_header c h in subst (λ v. P v c.lent) v (subst (P (verdict c)) a p)

-- s are the job's bytes, a those of its amendments
module _ (s a : List ℕ) (lent : Areas) (h : length s < 24) where
  pub early_turns_away : TurnsAway (call_of s a lent) (refused 1 0) lent
  early_turns_away = turned_early (TurnsAway (call_of s a lent)) (call_of s a lent) h (turns_away (call_of s a lent))

  pub early_gives_fits : GivesFits (call_of s a lent) (refused 1 0) lent
  early_gives_fits = turned_early (GivesFits (call_of s a lent)) (call_of s a lent) h (definitions_give_fits (call_of s a lent))
