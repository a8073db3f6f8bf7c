-- Lexicographic order: the first place where two lists of one length differ decides.
use Rattle.std.specs.Prelude.{◌≡◌, List, ◌∷◌, ℤ, ◌<ℤ◌}

pub data Lower : List ℤ → List ℤ → Type 0 where
  now : {x y : ℤ} {xs ys : List ℤ} → x <ℤ y → Lower (x ∷ xs) (y ∷ ys)
  later : {x y : ℤ} {xs ys : List ℤ} → x ≡ y → Lower xs ys → Lower (x ∷ xs) (y ∷ ys)
