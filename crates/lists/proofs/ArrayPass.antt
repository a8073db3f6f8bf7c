-- A pass over an array, place by place: what has been done, and what is still to come.
use mathlib.Core.Path.{◌≡◌, refl, ◌∙◌}
use mathlib.Core.List.{List}
use Prim.Native.Nat.{ℕ, zero, suc, ◌+◌, ◌≤◌, ◌<◌}
use native.Mathlib.Omega.{arith}
use native.Mathlib.Decide.{ℕ_discrete, dec_lt}
use lib.ListN.{length, get_or, set, replicate, length-set}
use lib.Seq.{get_or-set_same, get_or-set_other}

-- ---- an array that has the same everywhere
pub all_same : {A : Type 0} (n i : ℕ) (x : A) → get_or (replicate n x) i x ≡ x
all_same zero i x = refl
all_same (suc n) zero x = refl
all_same (suc n) (suc i) x = all_same n i x

-- ---- of an array of this size the places before i have f
pub record Filled {A : Type 0} (size : ℕ) (d : A) (f : ℕ → A) (i : ℕ) (xs : List A) : Type 0 where
  pub long : length xs ≡ size
  pub done : (k : ℕ) → k < i → get_or xs k d ≡ f k

module _ {A : Type 0} (d : A) (f : ℕ → A) where
  -- one place more
  next : (i : ℕ) (xs : List A) → get_or xs i d ≡ f i → ((k : ℕ) → k < i → get_or xs k d ≡ f k) → (k : ℕ) → k < i + 1 → get_or xs k d ≡ f k
  next i xs e g k h = go (ℕ_discrete k i)
    where
      go : Dec (k ≡ i) → get_or xs k d ≡ f k
      go (yes z) = rw z e
      go (no z) = g k (omega arith)

module _ {A : Type 0} {size : ℕ} (d : A) (f : ℕ → A) where
  pub unfilled : (xs : List A) → length xs ≡ size → Filled size d f 0 xs
  unfilled xs l = record { long = l; done = λ k h. absurd (omega (arith, h)) }

  pub filled : (i : ℕ) (xs : List A) → Filled size d f i xs → (v : A) → i < size → v ≡ f i → Filled size d f (i + 1) (set xs i v)
  filled i xs p v l e = record {
    long = simp length-set p.long;
    done = next d f i (set xs i v) (get_or-set_same xs i v d (omega (arith, p.long)) ∙ e) (λ k h. get_or-set_other xs i k v d (λ z. omega (arith, z, h)) ∙ p.done k h);
  }

-- ---- and the others have what they had
pub record Passed {A : Type 0} (size : ℕ) (d : A) (f : ℕ → A) (old : List A) (i : ℕ) (xs : List A) : Type 0 where
  pub behind : Filled size d f i xs
  pub ahead : (k : ℕ) → i ≤ k → get_or xs k d ≡ get_or old k d

module _ {A : Type 0} {size : ℕ} (d : A) (f : ℕ → A) (old : List A) where
  pub begin : (i : ℕ) → length old ≡ size → ((k : ℕ) → k < i → get_or old k d ≡ f k) → Passed size d f old i old
  begin i l h = record { behind = record { long = l; done = h }; ahead = λ k _. refl }

  module _ (i : ℕ) (xs : List A) (p : Passed size d f old i xs) where
    pub write : (v : A) → i < size → v ≡ f i → Passed size d f old (i + 1) (set xs i v)
    write v l e = record {
      behind = filled d f i xs p.behind v l e;
      ahead = λ k h. get_or-set_other xs i k v d (λ z. omega (arith, z, h)) ∙ p.ahead k (omega arith);
    }

    pub skip : get_or old i d ≡ f i → Passed size d f old (i + 1) xs
    skip e = record {
      behind = record { long = p.behind.long; done = next d f i xs (p.ahead i (omega arith) ∙ e) p.behind.done };
      ahead = λ k h. p.ahead k (omega arith);
    }

    -- places that have what is wanted already
    pub leap : (j : ℕ) → i ≤ j → ((k : ℕ) → i ≤ k → k < j → get_or old k d ≡ f k) → Passed size d f old j xs
    leap j l e = record { behind = record { long = p.behind.long; done = λ k h. go k h (dec_lt k i) }; ahead = λ k h. p.ahead k (omega arith) }
      where
        go : (k : ℕ) → k < j → Dec (k < i) → get_or xs k d ≡ f k
        go k h (yes b) = p.behind.done k b
        go k h (no a) = p.ahead k (omega (arith, a)) ∙ e k (omega (arith, a)) h
