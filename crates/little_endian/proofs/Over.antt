-- Bytes written over others, piece behind piece.
use mathlib.Core.Path.{◌≡◌, refl, sym, ◌∙◌, ap}
use mathlib.Core.List.{List, [], ◌∷◌, ◌++◌, append-nil}
use Prim.Native.Nat.{ℕ, zero, suc, ◌+◌, ◌-◌, ◌≤◌, ◌<◌}
use native.Mathlib.Nat.{zero-add, suc-add}
use native.Mathlib.Omega.{arith}
use lib.ListN.{length, take, drop, set, length-drop, drop_of_length-le}
use lib.Seq.{take_all}
use borrow.Rule.Slice.PartMut.{mid_of, post_of, put_mid}
use Rattle.lists.proofs.Places.{length_both}
use Rattle.little_endian.specs.Over.{over}

-- the first byte of the area stays where the place is not the first
over-cons : (at : ℕ) (b : List ℕ) (x : ℕ) (a : List ℕ) → over (suc at) b (x ∷ a) ≡ x ∷ over at b a
unfolding over
over-cons at b x a = ap (λ n. x ∷ take at a ++ (b ++ drop n (x ∷ a))) (suc-add at (length b))

over_zero : (b a : List ℕ) → over 0 b a ≡ b ++ drop (length b) a
unfolding over
over_zero b a = ap (λ n. b ++ drop n a) (zero-add (length b))

-- nothing
pub over_none : (at : ℕ) (a : List ℕ) → at ≤ length a → over at [] a ≡ a
over_none zero a h = over_zero [] a
over_none (suc at) [] h = absurd (omega arith)
over_none (suc at) (x ∷ a) h = over-cons at [] x a ∙ ap (λ r. x ∷ r) (over_none at a (omega arith))

-- one byte
pub over_set : (a : List ℕ) (at x : ℕ) → at < length a → set a at x ≡ over at (x ∷ []) a
over_set [] at x h = absurd (omega arith)
over_set (y ∷ a) zero x h = sym (over_zero (x ∷ []) (y ∷ a))
over_set (y ∷ a) (suc at) x h = ap (λ r. y ∷ r) (over_set a at x (omega arith)) ∙ sym (over-cons at (x ∷ []) y a)

-- two pieces, one behind the other
behind : (b c a : List ℕ) → length b ≤ length a → over (length b) c (b ++ drop (length b) a) ≡ (b ++ c) ++ drop (length (b ++ c)) a
behind [] c a h = over_zero c a
behind (y ∷ b) c [] h = absurd (omega arith)
behind (y ∷ b) c (x ∷ a) h = over-cons (length b) c y (b ++ drop (length b) a) ∙ ap (λ r. y ∷ r) (behind b c a (omega arith))

pub over-over : (at : ℕ) (b c a : List ℕ) {next : ℕ} → next ≡ at + length b → at + length b ≤ length a → over next c (over at b a) ≡ over at (b ++ c) a
over-over zero b c a {next} e h =
    let q : next ≡ length b = omega (arith, e) in
    ap (λ n. over n c (over 0 b a)) q ∙ ap (over (length b) c) (over_zero b a) ∙ behind b c a (omega arith) ∙ sym (over_zero (b ++ c) a)
over-over (suc at) b c [] e h = absurd (omega arith)
over-over (suc at) b c (x ∷ a) {next} e h =
    let q : next ≡ suc (at + length b) = omega (arith, e) in
    ap (λ n. over n c (over (suc at) b (x ∷ a))) q
    ∙ ap (over (suc (at + length b)) c) (over-cons at b x a)
    ∙ over-cons (at + length b) c x (over at b a)
    ∙ ap (λ r. x ∷ r) (over-over at b c a refl (omega arith))
    ∙ sym (over-cons at (b ++ c) x a)

-- the same bytes
pub over_same : (at : ℕ) (a x : List ℕ) {b c : List ℕ} → b ≡ c → x ≡ over at b a → x ≡ over at c a
over_same at a x e h = h ∙ ap (λ b. over at b a) e

-- x is the area a with the w bytes b from a place on
pub record Written (at w : ℕ) (a b x : List ℕ) : Type 0 where
  pub is : x ≡ over at b a
  pub wide : length b ≡ w

-- and y has v bytes more behind them
pub behind_it : {at w : ℕ} {a b x : List ℕ} → Written at w a b x → at + w ≤ length a → {next v : ℕ} (c : List ℕ) {y : List ℕ} →
    y ≡ over next c x → next ≡ at + w → length c ≡ v → Written at (w + v) a (b ++ c) y
behind_it {at} {w} {a} {b} {x} h l {next} {v} c {y} e n k = record {
  is = e ∙ ap (over next c) h.is ∙ over-over at b c a (omega (arith, n, h.wide)) (omega (arith, l, h.wide));
  wide = length_both b c h.wide k;
}

-- a part that begins at a place
over_part : (at : ℕ) (b a : List ℕ) → at ≤ length a → take at a ++ over 0 b (drop at a) ≡ over at b a
over_part zero b a h = refl
over_part (suc at) b [] h = absurd (omega arith)
over_part (suc at) b (x ∷ a) h = ap (λ r. x ∷ r) (over_part at b a (omega arith)) ∙ sym (over-cons at b x a)

-- such a part lent and handed back
pub over_lent : (at : ℕ) (b a part : List ℕ) → at ≤ length a → part ≡ over 0 b (mid_of at (length a - at) a) → put_mid at (length a - at) a part ≡ over at b a
over_lent at b a part h e =
    ap (λ p. take at a ++ (p ++ post_of at (length a - at) a)) (e ∙ ap (over 0 b) (take_all (length a - at) (drop at a) (omega (arith, length-drop at a))))
    ∙ ap (λ r. take at a ++ (over 0 b (drop at a) ++ r)) none
    ∙ ap (λ p. take at a ++ p) (append-nil (over 0 b (drop at a)))
    ∙ over_part at b a h
  where
    none : post_of at (length a - at) a ≡ []
    none = drop_of_length-le (drop at a) {i = length a - at} (omega (arith, length-drop at a))

-- the area stays as long as it is
append-length : (b a : List ℕ) → length b ≤ length a → length (b ++ drop (length b) a) ≡ length a
append-length [] a h = refl
append-length (y ∷ b) [] h = absurd (omega arith)
append-length (y ∷ b) (x ∷ a) h = ap suc (append-length b a (omega arith))

pub length-over : (at : ℕ) (b a : List ℕ) → at + length b ≤ length a → length (over at b a) ≡ length a
length-over zero b a h = ap length (over_zero b a) ∙ append-length b a (omega arith)
length-over (suc at) b [] h = absurd (omega arith)
length-over (suc at) b (x ∷ a) h = ap length (over-cons at b x a) ∙ ap suc (length-over at b a (omega arith))

-- from the start, what is written and the rest
pub over_all : (b a : List ℕ) → over 0 b a ≡ b ++ drop (length b) a
over_all = over_zero
