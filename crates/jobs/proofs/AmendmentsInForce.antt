-- Amendment sheets that keep their rules: their numbers rise, what supersedes a sheet comes after it and is for the same variable, and
-- so the last sheet for a variable is in force, and no other is.
use mathlib.Core.Path.{◌≡◌, refl, sym, ◌∙◌, ap, subst}
use mathlib.Core.Logic.{◌↔◌, ◌⊎◌, inl, inr, ◌≢◌}
use mathlib.Core.Bool.{Bool, true, not, ◌&&◌, false≢true, and-eq-true_iff}
use mathlib.Core.List.Memᴰ
use mathlib.Core.List.{List, [], ◌∷◌}
use Prim.Native.Nat.{ℕ, zero, suc, ◌+◌, ◌≤◌, ◌<◌}
use native.Mathlib.Omega.{arith}
use native.Mathlib.Decide.{ℕ_discrete, dec_lt}
use lib.Dec.{eqb}
use lib.ListN.{length}
use borrow.Author.Tests.{eqb-true, eq-eqb, ne_eqb, not-true}
use Rattle.lists.specs.Keep.{keep}
use Rattle.lists.specs.Members.{◌∈◌, here}
use Rattle.lists.specs.Table.{up_to}
use Rattle.lists.proofs.Keep.{in-keep, every_at}
use Rattle.lists.proofs.Table.{length-table, table_at, in-up_to}
use Rattle.jobs.specs.Amendments.{Amendment, amendment_count, amendment_at, amendments_of, no_amendment, amendment, is_in_force, governing}
use Rattle.jobs.specs.ReasonTable.{serial_before, SupersedesEarlier, Twice}
use Rattle.jobs.specs.Faults.{supersedes_earlier?}
use Rattle.jobs.specs.AmendmentPasses.{Referenced, PlaceOf, Superseded}

-- ---- the rows that bytes say
module _ (a : List ℕ) where
  pub length-amendments_of : length (amendments_of a) ≡ amendment_count a
  unfolding amendments_of
  length-amendments_of = length-table (amendment_at a) (amendment_count a)

  pub amendment_of : (t : ℕ) → t < amendment_count a → amendment (amendments_of a) t ≡ amendment_at a t
  unfolding amendments_of
  amendment_of t h = table_at (amendment_at a) (amendment_count a) t no_amendment h

-- ---- in force is what nobody supersedes
module _ (xs : List Amendment) (t : ℕ) where
  abbrev named : ℕ → Bool
  named u = eqb (amendment xs u).supersedes (amendment xs t).serial

  pub in_force_iff : (is_in_force xs t ≡ true) ↔ (¬ Superseded xs t)
  unfolding is_in_force
  in_force_iff =
      let at = every_at (λ x. not (eqb x.supersedes (amendment xs t).serial)) xs no_amendment in (
        λ e (u, (h, q)). false≢true (sym (not-true (named u) (at.0 e u h)) ∙ eq-eqb (amendment xs u).supersedes (amendment xs t).serial q),
        λ n. at.1 (λ u h. ap not (ne_eqb (amendment xs u).supersedes (amendment xs t).serial (λ q. n (u, (h, q))))),
      )

-- the sheet in row t is in force for variable i
abbrev pub Governs : List Amendment → ℕ → ℕ → Type 0
Governs xs i t = ((amendment xs t).variable ≡ i) × (is_in_force xs t ≡ true)

-- ---- the first k sheets keep reason 12's rule
module _ {n : ℕ} {xs : List Amendment} {k : ℕ} (r : Referenced n xs k) where
  pub serial_above : (t : ℕ) → t < k → serial_before xs t < (amendment xs t).serial
  serial_above t h = let l : ¬ ((amendment xs t).serial ≤ serial_before xs t) = λ l. r.at t h (inl l) in omega (arith, l)

  pub variable_below : (t : ℕ) → t < k → (amendment xs t).variable < n
  variable_below t h = let l : ¬ (n ≤ (amendment xs t).variable) = λ l. r.at t h (inr (inl l)) in omega (arith, l)

  pub has_earlier : (t : ℕ) → t < k → (amendment xs t).supersedes ≢ 0 → SupersedesEarlier xs t
  has_earlier t h z = go (supersedes_earlier? xs t)
    where
      go : Dec (SupersedesEarlier xs t) → SupersedesEarlier xs t
      go (yes e) = e
      go (no e) = absurd (r.at t h (inr (inr (z, e))))

  pub serials_rise : (u v : ℕ) → u < v → v < k → (amendment xs u).serial < (amendment xs v).serial
  serials_rise u zero h l = absurd (omega (arith, h))
  serials_rise u (suc v) h l = go (ℕ_discrete u v) (λ b. serials_rise u v b (omega (arith, l)))
    where
      next : (amendment xs v).serial < (amendment xs (suc v)).serial
      next = serial_above (suc v) l

      go : Dec (u ≡ v) → (u < v → (amendment xs u).serial < (amendment xs v).serial) → (amendment xs u).serial < (amendment xs (suc v)).serial
      go (yes e) f = rw e next
      go (no e) f = omega (arith, next, f (omega (arith, e, h)))

  -- all before a smaller one are smaller, and all from a greater one on are not
  pub behind_next : (serial m : ℕ) → m < k → (amendment xs m).serial < serial → (u : ℕ) → u < m + 1 → (amendment xs u).serial < serial
  behind_next serial m h l u b = go (ℕ_discrete u m)
    where
      go : Dec (u ≡ m) → (amendment xs u).serial < serial
      go (yes e) = rw e l
      go (no e) = omega (arith, l, serials_rise u m (omega (arith, e, b)) h)

  pub ahead_next : (serial m : ℕ) → serial ≤ (amendment xs m).serial → (u : ℕ) → m ≤ u → u < k → serial ≤ (amendment xs u).serial
  ahead_next serial m l u b c = go (ℕ_discrete u m)
    where
      go : Dec (u ≡ m) → serial ≤ (amendment xs u).serial
      go (yes e) = rw e l
      go (no e) = omega (arith, l, serials_rise m u (omega (arith, e, b)) c)

  pub one_serial : (u v : ℕ) → u < k → v < k → (amendment xs u).serial ≡ (amendment xs v).serial → u ≡ v
  one_serial u v h l e = go (dec_lt u v) (dec_lt v u)
    where
      go : Dec (u < v) → Dec (v < u) → u ≡ v
      go (yes b) d = absurd (omega (arith, e, serials_rise u v b l))
      go (no b) (yes d) = absurd (omega (arith, e, serials_rise v u d h))
      go (no b) (no d) = omega (arith, b, d)

  pub serial_positive : (t : ℕ) → t < k → 1 ≤ (amendment xs t).serial
  serial_positive t h = omega (arith, serial_above t h)

  -- a number that one of them has stands at its place
  pub place_is : {serial p : ℕ} → PlaceOf xs serial k p → (u : ℕ) → u < k → (amendment xs u).serial ≡ serial → p ≡ u
  place_is {serial} {p} f u h e = go (dec_lt u p) (dec_lt p u)
    where
      go : Dec (u < p) → Dec (p < u) → p ≡ u
      go (yes b) d = absurd (omega (arith, e, f.behind u b))
      go (no b) (yes d) = absurd (omega (arith, e, f.ahead p (omega arith) (omega (arith, d, h)), serials_rise p u d h))
      go (no b) (no d) = omega (arith, b, d)

-- ---- all of them do
module _ {n : ℕ} {xs : List Amendment} (r : Referenced n xs (length xs)) where
  -- one that is superseded has a later one for its variable
  pub superseded_later : (t u : ℕ) → t < length xs → u < length xs → (amendment xs u).supersedes ≡ (amendment xs t).serial → (t < u) × ((amendment xs u).variable ≡ (amendment xs t).variable)
  superseded_later t u h l e =
      let (w, b) = has_earlier r u l (λ z. omega (arith, z, e, serial_positive r t h)) in
      let same : w ≡ t = one_serial r w t (omega (arith, b.0, l)) h (b.1.0 ∙ e) in
      (subst (λ w. w < u) same b.0, sym b.1.1 ∙ ap (λ w. (amendment xs w).variable) same)

  -- so the last for a variable is in force
  pub last_in_force : (t : ℕ) → t < length xs → ((u : ℕ) → t < u → u < length xs → ¬ ((amendment xs u).variable ≡ (amendment xs t).variable)) → is_in_force xs t ≡ true
  last_in_force t h f = (in_force_iff xs t).1 (λ (u, l). let (b, e) = superseded_later t u h l.0 l.1 in f u b l.0 e)

-- ---- there is a last sheet for a variable, or none
pub record LastFor (xs : List Amendment) (i k t : ℕ) : Type 0 where
  pub below : t < k
  pub own : (amendment xs t).variable ≡ i
  pub later : (u : ℕ) → t < u → u < k → ¬ ((amendment xs u).variable ≡ i)

pub last_or_none : (xs : List Amendment) (i k : ℕ) → ((t : ℕ) × LastFor xs i k t) ⊎ ((t : ℕ) → t < k → ¬ ((amendment xs t).variable ≡ i))
last_or_none xs i zero = inr (λ t h. absurd (omega (arith, h)))
last_or_none xs i (suc k) = go (ℕ_discrete (amendment xs k).variable i) (last_or_none xs i k)
  where
    other : (u : ℕ) → u < suc k → ¬ ((amendment xs k).variable ≡ i) → (u < k → ¬ ((amendment xs u).variable ≡ i)) → ¬ ((amendment xs u).variable ≡ i)
    other u l z f e = at (ℕ_discrete u k)
      where
        at : Dec (u ≡ k) → ⊥
        at (yes q) = z (subst (λ u. (amendment xs u).variable ≡ i) q e)
        at (no q) = f (omega (arith, q, l)) e

    go : Dec ((amendment xs k).variable ≡ i) → ((t : ℕ) × LastFor xs i k t) ⊎ ((t : ℕ) → t < k → ¬ ((amendment xs t).variable ≡ i)) → ((t : ℕ) × LastFor xs i (suc k) t) ⊎ ((t : ℕ) → t < suc k → ¬ ((amendment xs t).variable ≡ i))
    go (yes e) d = inl (k, record { below = omega arith; own = e; later = λ u h l. absurd (omega (arith, h, l)) })
    go (no z) (inl (t, f)) = inl (t, record { below = omega (arith, f.below); own = f.own; later = λ u h l. other u l z (f.later u h) })
    go (no z) (inr f) = inr (λ t h. other t h z (f t))

-- ---- the rows whose bounds are taken are those in force
pub in-governing : (xs : List Amendment) (i t : ℕ) → t ∈ governing xs i ↔ ((t < length xs) × Governs xs i t)
unfolding governing
in-governing xs i t = (
  λ m. let (l, e) = kept.0 m in let (v, f) = (and-eq-true_iff (eqb (amendment xs t).variable i) (is_in_force xs t)).0 e in ((in-up_to (length xs) t).0 l, (eqb-true (amendment xs t).variable i v, f)),
  λ (h, (v, f)). kept.1 ((in-up_to (length xs) t).1 h, (and-eq-true_iff (eqb (amendment xs t).variable i) (is_in_force xs t)).1 (eq-eqb (amendment xs t).variable i v, f)),
)
  where
    kept : t ∈ keep (λ t. eqb (amendment xs t).variable i && is_in_force xs t) (up_to (length xs)) ↔ ((t ∈ up_to (length xs)) × (eqb (amendment xs t).variable i && is_in_force xs t ≡ true))
    kept = in-keep (λ t. eqb (amendment xs t).variable i && is_in_force xs t) (up_to (length xs)) t

-- ---- and none is in force after another for its variable
module _ (xs : List Amendment) (once : (t : ℕ) → t < length xs → ¬ Twice xs t) where
  -- so a variable has one sheet in force at most
  pub one_in_force : (i t u : ℕ) → t < length xs → u < length xs → Governs xs i t → Governs xs i u → t ≡ u
  one_in_force i t u h l p q = go (dec_lt t u) (dec_lt u t)
    where
      go : Dec (t < u) → Dec (u < t) → t ≡ u
      go (yes b) d = absurd (once u l (q.1, (t, (b, (p.0 ∙ sym q.0, p.1)))))
      go (no b) (yes d) = absurd (once t h (p.1, (u, (d, (q.0 ∙ sym p.0, q.1)))))
      go (no b) (no d) = omega (arith, b, d)

  -- and that is the one whose bounds are taken
  pub governing_is : (i t : ℕ) → t < length xs → Governs xs i t → (ts : List ℕ) × (governing xs i ≡ t ∷ ts)
  governing_is i t h g = go (governing xs i) ((in-governing xs i t).1 (h, g)) (λ u m. let (l, p) = (in-governing xs i u).0 m in one_in_force i u t l h p g)
    where
      go : (us : List ℕ) → t ∈ us → ((u : ℕ) → u ∈ us → u ≡ t) → (ts : List ℕ) × (us ≡ t ∷ ts)
      go [] m f = absurd (Memᴰ.not-nil m)
      go (u ∷ us) m f = (us, ap (λ u. u ∷ us) (f u (here refl)))

pub governing_none : (xs : List Amendment) (i : ℕ) → ((t : ℕ) → t < length xs → ¬ Governs xs i t) → governing xs i ≡ []
governing_none xs i f = go (governing xs i) (λ t m. let (h, g) = (in-governing xs i t).0 m in f t h g)
  where
    go : (us : List ℕ) → ((u : ℕ) → ¬ (u ∈ us)) → us ≡ []
    go [] f = refl
    go (u ∷ us) f = absurd (f u (here refl))
