-- Laws of sums, and the same sum taken label by label.
use mathlib.Core.Path.{◌≡◌, refl, sym, ◌∙◌, ap, ap₂}
use mathlib.Core.Logic.{◌≢◌}
use mathlib.Core.Bool.{Bool, true, false}
use Prim.Native.Nat.{ℕ, zero, suc, ◌+◌, ◌*◌, ◌<◌}
use native.Mathlib.Numerals.{add-one}
use native.Mathlib.Decide.{ℕ_discrete}
use lib.Dec.{T, eqb, eqb→eq, eqb_refl}
use Rattle.ints.specs.Within.{Within}
use Rattle.ints.proofs.{ℤ, pos, ◌+ℤ◌, ◌-ℤ◌, ◌*ℤ◌, ◌≤ℤ◌, [], ◌∷◌, arith, facts, lin, lin₀, ◌&◌}
use Rattle.lists.specs.Sums.{sum, pick, sum_of}

-- ---- laws of a sum
pub sum_ext : (n : ℕ) (f h : ℕ → ℤ) → ((i : ℕ) → i < n → f i ≡ h i) → sum n f ≡ sum n h
unfolding sum
sum_ext zero f h e = refl
sum_ext (suc n) f h e = ap₂ ◌+ℤ◌ (sum_ext n f h (λ i k. e i (omega arith))) (e n (omega arith))

-- one number more
pub sum_next : (n : ℕ) (f : ℕ → ℤ) → sum (n + 1) f ≡ sum n f +ℤ f n
unfolding sum
sum_next n f = ap (λ m. sum m f) (add-one n)

pub sum-add : (n : ℕ) (f h : ℕ → ℤ) → sum n (λ i. f i +ℤ h i) ≡ sum n f +ℤ sum n h
unfolding sum
sum-add zero f h = refl
sum-add (suc n) f h = lin (sum n (λ i. f i +ℤ h i) ∷ sum n f ∷ sum n h ∷ f n ∷ h n ∷ []) (sum-add n f h) (search facts depth 20) (omega arith)

pub sum_scale : (n : ℕ) (f : ℕ → ℤ) (c : ℤ) → sum n (λ i. f i *ℤ c) ≡ sum n f *ℤ c
unfolding sum
sum_scale zero f c = lin₀ (c ∷ []) (search facts depth 20) (omega arith)
sum_scale (suc n) f c = lin (sum n (λ i. f i *ℤ c) ∷ sum n f ∷ f n ∷ c ∷ []) (sum_scale n f c) (search facts depth 20) (omega arith)

pub sum-sub : (n : ℕ) (f h : ℕ → ℤ) → sum n (λ i. f i -ℤ h i) ≡ sum n f -ℤ sum n h
unfolding sum
sum-sub zero f h = refl
sum-sub (suc n) f h = lin (sum n (λ i. f i -ℤ h i) ∷ sum n f ∷ sum n h ∷ f n ∷ h n ∷ []) (sum-sub n f h) (search facts depth 20) (omega arith)

pub sum_zero : (n : ℕ) (f : ℕ → ℤ) → ((i : ℕ) → i < n → f i ≡ pos 0) → sum n f ≡ pos 0
unfolding sum
sum_zero zero f e = refl
sum_zero (suc n) f e = lin (sum n f ∷ f n ∷ []) (sum_zero n f (λ i k. e i (omega arith)) & e n (omega arith)) (search facts depth 20) (omega arith)

-- parts that are at most 0 add up to at most 0; where they add up to 0, each is 0
pub sum_nonpos : (n : ℕ) (f : ℕ → ℤ) → ((i : ℕ) → i < n → f i ≤ℤ pos 0) → sum n f ≤ℤ pos 0
unfolding sum
sum_nonpos zero f h = lin₀ [] (search facts depth 20) (omega arith)
sum_nonpos (suc n) f h = lin (sum n f ∷ f n ∷ []) (sum_nonpos n f (λ i k. h i (omega arith)) & h n (omega arith)) (search facts depth 20) (omega arith)

pub sum_nonpos_zero : (n : ℕ) (f : ℕ → ℤ) → ((i : ℕ) → i < n → f i ≤ℤ pos 0) → sum n f ≡ pos 0 → (i : ℕ) → i < n → f i ≡ pos 0
unfolding sum
sum_nonpos_zero zero f h e i k = absurd (omega arith)
sum_nonpos_zero (suc n) f h e i k = go (sum_nonpos_zero n f (λ j l. h j (omega arith))) (ℕ_discrete i n)
  where
    both : (sum n f ≡ pos 0) × (f n ≡ pos 0)
    both = lin (sum n f ∷ f n ∷ []) (sum_nonpos n f (λ j l. h j (omega arith)) & h n (omega arith) & e) (search facts depth 20) (omega arith)

    go : (sum n f ≡ pos 0 → (j : ℕ) → j < n → f j ≡ pos 0) → Dec (i ≡ n) → f i ≡ pos 0
    go below (yes p) = rw p both.1
    go below (no p) = below both.0 i (omega arith)

-- n parts within ±b add up to within ±(n·b)
pub sum-Within : (n b : ℕ) (f : ℕ → ℤ) → ((i : ℕ) → i < n → Within b (f i)) → Within (n * b) (sum n f)
unfolding sum
sum-Within zero b f h = lin₀ [] (search facts depth 20) (omega arith)
sum-Within (suc n) b f h = lin (sum n f ∷ f n ∷ []) (sum-Within n b f (λ i k. h i (omega arith)) & h n (omega arith)) (search facts depth 20) (omega arith)

-- ---- by labels
pub pick_no : (i g : ℕ) (v : ℤ) → i ≢ g → pick (eqb i g) v ≡ pos 0
pick_no i g v h = go (eqb i g) (eqb→eq i g)
  where
    go : (b : Bool) → (T b → i ≡ g) → pick b v ≡ pos 0
    go true f = absurd (h (f tt))
    go false f = refl

pub pick_yes : (i : ℕ) (v : ℤ) → pick (eqb i i) v ≡ v
pick_yes i v = go (eqb i i) (eqb_refl i)
  where
    go : (b : Bool) → T b → pick b v ≡ v
    go true t = refl
    go false t = absurd t

-- one label l among 0 .. m − 1 takes the number once
sum_once : (m l : ℕ) (v : ℤ) → l < m → sum m (λ g. pick (eqb l g) v) ≡ v
unfolding sum
sum_once zero l v h = absurd (omega arith)
sum_once (suc m) l v h = go (sum_once m l v) (ℕ_discrete l m)
  where
    go : (l < m → sum m (λ g. pick (eqb l g) v) ≡ v) → Dec (l ≡ m) → sum m (λ g. pick (eqb l g) v) +ℤ pick (eqb l m) v ≡ v
    go below (yes p) =
        let none : sum m (λ g. pick (eqb l g) v) ≡ pos 0 = sum_zero m (λ g. pick (eqb l g) v) (λ g k. pick_no l g v (λ q. absurd (omega arith))) in
        let once : pick (eqb l m) v ≡ v = rw p (pick_yes m v) in
        lin (sum m (λ g. pick (eqb l g) v) ∷ pick (eqb l m) v ∷ v ∷ []) (none & once) (search facts depth 20) (omega arith)
    go below (no p) = lin (sum m (λ g. pick (eqb l g) v) ∷ pick (eqb l m) v ∷ v ∷ []) (below (omega arith) & pick_no l m v p) (search facts depth 20) (omega arith)

-- a sum is the sum of its labels' sums, where every label is below m
pub regroup : (label : ℕ → ℕ) (m n : ℕ) (f : ℕ → ℤ) → ((i : ℕ) → i < n → label i < m) → sum n f ≡ sum m (λ g. sum_of label g n f)
unfolding sum
regroup label m zero f h = sym (sum_zero m (λ g. sum_of label g 0 f) (λ g k. refl))
regroup label m (suc n) f h =
    ap₂ ◌+ℤ◌ (regroup label m n f (λ i k. h i (omega arith))) (sym (sum_once m (label n) (f n) (h n (omega arith))))
    ∙ sym (sum-add m (λ g. sum_of label g n f) (λ g. pick (eqb (label n) g) (f n)))
