-- What a run is carried to, by its members: just the p within ±1,000,000,000 that have a partner.
use mathlib.Core.Path.{◌≡◌}
use mathlib.Core.Logic.Iff
use mathlib.Core.Logic.{◌↔◌}
use mathlib.Core.Bool.{true}
use Rattle.ints.specs.Within.{Within}
use Rattle.ints.specs.Equal.{is_equal}
use Rattle.ints.proofs.{ℤ, ◌+ℤ◌, ◌*ℤ◌}
use Rattle.ints.proofs.Equal.{equal_true}
use Rattle.lists.specs.Members.{◌∈◌}
use Rattle.lists.proofs.Keep.{any_iff}
use Rattle.runs.specs.Run.{Run, numbers, InRun, OneForm, empty, bound}
use Rattle.runs.specs.Search.{has_partner, Partner, carry}
use Rattle.runs.proofs.Members.{in-numbers, empty_form, not_in_empty, no_place}
use Rattle.runs.proofs.Passing.{is_passing}

has_partner_iff : (a b c : ℤ) (r : Run) (p : ℤ) → (has_partner a b c r p ≡ true) ↔ Partner a b c r p
unfolding has_partner
has_partner_iff a b c r p = Iff.trans (any_iff (λ q. is_equal (a *ℤ p +ℤ b *ℤ q) c) (numbers r)) (to, from)
  where
    to : (q : ℤ) × (q ∈ numbers r) × (is_equal (a *ℤ p +ℤ b *ℤ q) c ≡ true) → Partner a b c r p
    to (q, h, e) = record { q = q; member = (in-numbers r q).0 h; holds = (equal_true (a *ℤ p +ℤ b *ℤ q) c).0 e }

    from : Partner a b c r p → (q : ℤ) × (q ∈ numbers r) × (is_equal (a *ℤ p +ℤ b *ℤ q) c ≡ true)
    from h = (h.q, (in-numbers r h.q).1 h.member, (equal_true (a *ℤ p +ℤ b *ℤ h.q) c).1 h.holds)

-- r is a run of just the p within ±1,000,000,000 that have a partner
pub record IsCarry (a b c : ℤ) (q r : Run) : Type 0 where
  pub form : OneForm r
  pub all : (p : ℤ) → InRun r p ↔ (Within bound p × Partner a b c q p)

-- and so it is what the run is carried to
pub is_carry : {a b c : ℤ} {q r : Run} → IsCarry a b c q r → r ≡ carry a b c q
unfolding carry
is_carry {a} {b} {c} {q} m = is_passing (has_partner a b c q) m.form (λ p. Iff.trans (m.all p) (
  λ (w, h). (w, (has_partner_iff a b c q p).1 h),
  λ (w, t). (w, (has_partner_iff a b c q p).0 t),
))

-- an empty run is carried to none
pub empty_carried : {q : Run} (a b c : ℤ) → q.many ≡ 0 → IsCarry a b c q empty
empty_carried a b c z = record { form = empty_form; all = λ p. (λ k. not_in_empty k, λ k. absurd (no_place z k.1.member)) }
