-- x is a member of a list. It is the kit's membership under the usual sign; a proof is a place where x stands,
-- `here` with an equation or `there` further on.
use mathlib.Core.List.{List, Memᴰ}
pub use mathlib.Core.List.Memᴰ.{head as here}
pub use mathlib.Core.List.Memᴰ.{tail as there}

infix 50 ◌∈◌
abbrev pub ◌∈◌ : {A : Type 0} → A → List A → Type 0
x ∈ xs = Memᴰ x xs
