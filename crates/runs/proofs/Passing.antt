-- The numbers of the range that pass a test, by members.
use mathlib.Core.Path.{◌≡◌}
use mathlib.Core.Logic.Iff
use mathlib.Core.Logic.{◌↔◌}
use mathlib.Core.Bool.{Bool, true}
use Rattle.ints.specs.Within.{Within}
use Rattle.ints.proofs.{ℤ, pos, neg_ℤ}
use Rattle.lists.specs.Members.{◌∈◌}
use Rattle.lists.specs.Keep.{keep}
use Rattle.lists.specs.Range.{range}
use Rattle.lists.proofs.Keep.{in-keep, Rising-keep}
use Rattle.lists.proofs.Range.{in-range, Rising-range}
use Rattle.runs.specs.Run.{Run, InRun, OneForm, full, bound}
use Rattle.runs.specs.Search.{passing}
use Rattle.runs.specs.Method.{InInterval, span}
use Rattle.runs.proofs.Members.{is_run_of}
use Rattle.runs.proofs.Intervals.{in_whole}

abbrev low : ℤ
low = neg_ℤ (pos bound)

abbrev high : ℤ
high = pos bound

-- a run of just the numbers within ±1,000,000,000 that pass is the one that the search finds
pub is_passing : (test : ℤ → Bool) {r : Run} → OneForm r → ((x : ℤ) → InRun r x ↔ (Within bound x × (test x ≡ true))) → r ≡ passing test
unfolding passing
is_passing test o m = is_run_of o (Rising-keep test (Rising-range low high)) (λ x. Iff.trans (m x) (to x, from x))
  where
    to : (x : ℤ) → Within bound x × (test x ≡ true) → x ∈ keep test (range low high)
    to x (w, t) =
        let i : InInterval (span full) x = (in_whole x).0 w in
        (in-keep test (range low high) x).1 ((in-range low high x).1 (i.low, i.high), t)

    from : (x : ℤ) → x ∈ keep test (range low high) → Within bound x × (test x ≡ true)
    from x k =
        let (h, t) = (in-keep test (range low high) x).0 k in
        let (l, u) = (in-range low high x).0 h in
        ((in_whole x).1 record { low = l; high = u }, t)
