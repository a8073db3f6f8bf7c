-- `place` meets its contract: the numbers before `low` are smaller, and those from `high` on are not.
use Rattle.std.proofs.Common.{ℕ, ◌-◌, ◌≤◌, ◌<◌}
use Rattle.jobs.specs.Amendments.{amendments_of, amendment}
use Rattle.jobs.proofs.amendments.Rising.place.Given as goal

abbrev pub invariant-loop-low : goal.invariant-loop-low
invariant-loop-low l = let xs = amendments_of l.self.amendments.bytes.now in
    (l.low ≤ l.high) × ((l.high ≤ l.self.count) × (((u : ℕ) → u < l.low → (amendment xs u).serial < l.serial) × ((u : ℕ) → l.high ≤ u → u < l.self.count → l.serial ≤ (amendment xs u).serial)))

abbrev pub decreases-loop-low : goal.decreases-loop-low
decreases-loop-low l = l.high - l.low
