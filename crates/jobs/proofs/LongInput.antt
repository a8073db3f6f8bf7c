-- The longest lawful job has 24 + 12·256 + 20·1,024 bytes. A job of more bytes is refused for what its header says, and what
-- follows the first 23,577 bytes changes neither verdict nor areas: a program need read no more than those. Nor what follows the first
-- 10,241 of the amendments.
use mathlib.Core.Path.{◌≡◌, refl, sym, ◌∙◌, ap, subst}
use mathlib.Core.Logic.{◌⊎◌, inl, inr, ◌≢◌}
use mathlib.Core.List.{List, [], ◌∷◌, ◌++◌}
use mathlib.Core.Option.{Option, none, some}
use Prim.Native.Nat.{ℕ, ◌+◌, ◌*◌, ◌≤◌, ◌<◌}
use native.Mathlib.Omega.{arith}
use lib.ListN.{length, take, drop, take-append-drop, length-append}
use lib.Seq.{take_all, length-take-le, take-append-le}
use Rattle.reasons.specs.declared.Reason.{Reason}
use Rattle.reasons.specs.declared.Reason.TheVariants.{ShortJob, WrongMark, TooMany, WrongHeader, AmendmentsLength}
use Rattle.little_endian.specs.LittleEndian.{unsigned}
use Rattle.jobs.specs.Call.{Areas, Call, lending_nothing, call_of}
use Rattle.jobs.specs.Job.{variable_count, equation_count}
use Rattle.jobs.specs.Amendments.{amendment_count}
use Rattle.jobs.specs.ReasonTable.{mark, Header, MisSized, header_checks, row_checks, amendment_checks, area_checks, checks}
use Rattle.jobs.specs.Decide.{at_most?, below?, equal?, either, list?, first_where}
use Rattle.jobs.specs.Faults.{breaks?, first_broken}
use Rattle.jobs.specs.Verdict.{verdict}
use Rattle.jobs.specs.AreasAfter.{areas_after}
use Rattle.jobs.proofs.FirstOf.{first_here, first_later, first_stays}
use Rattle.little_endian.proofs.LittleEndian.{unsigned_first}
use Rattle.jobs.proofs.Faults.{fault_of_job, fault_length}
use Rattle.jobs.proofs.Outcomes.{as_broken}

-- ---- the reason, where there are too many bytes: by the mark and the counts alone
abbrev TooHigh : ℕ → ℕ → Type 0
TooHigh n m = (256 < n) ⊎ (1024 < m)

data Reasoned (front : List ℕ) (n m : ℕ) : Reason → Type 0 where
  by_mark : front ≢ mark → Reasoned front n m WrongMark
  by_counts : front ≡ mark → TooHigh n m → Reasoned front n m TooMany
  by_length : front ≡ mark → ¬ TooHigh n m → Reasoned front n m WrongHeader

reasoned : (front : List ℕ) (n m : ℕ) → (r : Reason) × Reasoned front n m r
reasoned front n m = go (list? front mark) (either (below? 256 n) (below? 1024 m))
  where
    go : Dec (front ≡ mark) → Dec (TooHigh n m) → (r : Reason) × Reasoned front n m r
    go (no h) d = (WrongMark, by_mark h)
    go (yes e) (yes h) = (TooMany, by_counts e h)
    go (yes e) (no h) = (WrongHeader, by_length e h)

abbrev ReasonOf : List ℕ → Reason → Type 0
ReasonOf s r = Reasoned (take 4 s) (variable_count s) (equation_count s) r

module _ (c : Call) (long : 23576 < length c.job) where
  abbrev s : List ℕ
  s = c.job

  no_header : ¬ TooHigh (variable_count s) (equation_count s) → ¬ Header s
  no_header h k =
      let a : ¬ (256 < variable_count s) = λ l. h (inl l) in
      let b : ¬ (1024 < equation_count s) = λ l. h (inr l) in
      omega (arith, k.real_length)

  in_header : (r : Reason) → ReasonOf s r → first_where (breaks? c) header_checks ≡ some r
  in_header r h = first_later (breaks? c) ShortJob _ (λ l. omega (arith, l, long)) ∙ go r h
    where
      go : (r : Reason) → ReasonOf s r → first_where (breaks? c) (WrongMark ∷ TooMany ∷ WrongHeader ∷ []) ≡ some r
      go _ (by_mark h) = first_here (breaks? c) WrongMark _ h
      go _ (by_counts e h) = first_later (breaks? c) WrongMark _ (λ n. n e) ∙ first_here (breaks? c) TooMany _ h
      go _ (by_length e h) = first_later (breaks? c) WrongMark _ (λ n. n e) ∙ first_later (breaks? c) TooMany _ h ∙ first_here (breaks? c) WrongHeader _ (no_header h)

  fault_long : (r : Reason) → ReasonOf s r → first_broken c ≡ some r
  unfolding first_broken checks
  fault_long r h = first_stays (breaks? c) header_checks ((row_checks s ++ amendment_checks c.amendments) ++ area_checks) (in_header r h)

-- ---- so a longer list is answered as its first part
abbrev Same : Call → Call → Type 0
Same c d = (verdict c ≡ verdict d) × (areas_after c ≡ areas_after d)

Same-broken : (c d : Call) → c.lent ≡ d.lent → (r : Reason) → first_broken c ≡ some r → first_broken d ≡ some r → Same c d
Same-broken c d l r p q = let (v, x) = as_broken c r p in let (w, y) = as_broken d r q in (v ∙ sym w, x ∙ l ∙ sym y)

Same-call : {c d : Call} → c ≡ d → Same c d
Same-call e = (ap verdict e, ap areas_after e)

module _ (xs ys a : List ℕ) (lent : Areas) (long : 23576 < length xs) where
  field : (k at : ℕ) → at + k ≤ 24 → unsigned k (xs ++ ys) at ≡ unsigned k xs at
  field k at h = unsigned_first k xs ys at (omega (arith, h, long))

  followed : Same (call_of xs a lent) (call_of (xs ++ ys) a lent)
  followed =
      let (r, h) = reasoned (take 4 xs) (variable_count xs) (equation_count xs) in
      Same-broken (call_of xs a lent) (call_of (xs ++ ys) a lent) refl r (fault_long (call_of xs a lent) long r h)
      (fault_long (call_of (xs ++ ys) a lent) (omega (arith, long, length-append xs ys)) r (carried r h))
    where
      carried : (r : Reason) → ReasonOf xs r → ReasonOf (xs ++ ys) r
      carried r h = rw (take-append-le 4 xs ys (omega (arith, long)), field 2 4 (omega arith), field 2 6 (omega arith)) h

-- however much more than that is taken
taken_Same : (n : ℕ) → 23576 < n → (s a : List ℕ) (lent : Areas) → Same (call_of (take n s) a lent) (call_of s a lent)
taken_Same n h s a lent = go (at_most? (length s) n)
  where
    go : Dec (length s ≤ n) → Same (call_of (take n s) a lent) (call_of s a lent)
    go (yes l) = Same-call (ap (λ t. call_of t a lent) (take_all n s l))
    go (no l) =
        subst (λ t. Same (call_of (take n s) a lent) (call_of t a lent)) (take-append-drop n s)
        (followed (take n s) (drop n s) a lent (omega (arith, h, l, length-take-le n s (omega (arith, l)))))

-- ---- 512 amendments have 10,240 bytes; more of them are refused for their length alone, where the job is not
missized : (a : List ℕ) → 10240 < length a → MisSized a
missized a long = go (equal? (length a) (20 * amendment_count a))
  where
    go : Dec (length a ≡ 20 * amendment_count a) → MisSized a
    go (yes e) = inr (omega (arith, e, long))
    go (no n) = inl n

both_long : (s a b : List ℕ) (lent : Areas) → 10240 < length a → 10240 < length b → Same (call_of s a lent) (call_of s b lent)
both_long s a b lent h l = go (first_broken (lending_nothing s [])) refl
  where
    go : (o : Option Reason) → first_broken (lending_nothing s []) ≡ o → Same (call_of s a lent) (call_of s b lent)
    go (some r) e = Same-broken (call_of s a lent) (call_of s b lent) refl r (fault_of_job (call_of s a lent) r e) (fault_of_job (call_of s b lent) r e)
    go none e =
        Same-broken (call_of s a lent) (call_of s b lent) refl AmendmentsLength
        (fault_length (call_of s a lent) e (missized a h)) (fault_length (call_of s b lent) e (missized b l))

taken_amendments : (n : ℕ) → 10240 < n → (s a : List ℕ) (lent : Areas) → Same (call_of s (take n a) lent) (call_of s a lent)
taken_amendments n h s a lent = go (at_most? (length a) n)
  where
    go : Dec (length a ≤ n) → Same (call_of s (take n a) lent) (call_of s a lent)
    go (yes l) = Same-call (ap (λ t. call_of s t lent) (take_all n a l))
    go (no l) = both_long s (take n a) a lent (omega (arith, h, l, length-take-le n a (omega (arith, l)))) (omega (arith, h, l))

-- as the print program takes them
pub longer_same : (s a : List ℕ) (lent : Areas) →
    (verdict (call_of (take 23577 s) (take 10241 a) lent) ≡ verdict (call_of s a lent)) × (areas_after (call_of (take 23577 s) (take 10241 a) lent) ≡ areas_after (call_of s a lent))
longer_same s a lent =
    let (p, q) = taken_Same 23577 (omega arith) s (take 10241 a) lent in
    let (v, w) = taken_amendments 10241 (omega arith) s a lent in
    (p ∙ v, q ∙ w)
