-- A line w + g·x that rises, one that falls, and a level one.
use mathlib.Core.Path.{◌≡◌}
use Rattle.ints.proofs.{ℤ, pos, ◌+ℤ◌, ◌*ℤ◌, ◌≤ℤ◌, ◌<ℤ◌, [], ◌∷◌, arith, lin, lin₀, ◌&◌, facts, prod}

next : {x y : ℤ} → x <ℤ y → (x +ℤ pos 1) ≤ℤ y
next {x} {y} h = lin (x ∷ y ∷ []) h (search facts depth 20) (omega arith)

pub line_up : (w g x y : ℤ) → pos 0 <ℤ g → x <ℤ y → (w +ℤ g *ℤ x) <ℤ (w +ℤ g *ℤ y)
line_up w g x y h l = lin (w ∷ g ∷ x ∷ y ∷ []) (prod (next h) (next l) & h & l) (search facts depth 20) (omega arith)

pub line_down : (w g x y : ℤ) → g <ℤ pos 0 → x <ℤ y → (w +ℤ g *ℤ y) <ℤ (w +ℤ g *ℤ x)
line_down w g x y h l = lin (w ∷ g ∷ x ∷ y ∷ []) (prod (next h) (next l) & h & l) (search facts depth 20) (omega arith)

pub line_level : (w g x y : ℤ) → g ≡ pos 0 → w +ℤ g *ℤ x ≡ w +ℤ g *ℤ y
line_level w g x y e = rw e (lin₀ (w ∷ x ∷ y ∷ []) (search facts depth 20) (omega arith))
