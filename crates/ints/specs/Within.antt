-- "Within ±n": how document 01 bounds a number.
use Rattle.std.specs.Prelude.{Bool, ℕ, ◌≤◌, leb, ℤ, nat_abs}

-- a record, so that n and x are inferred from a proof
pub record Within (n : ℕ) (x : ℤ) : Type 0 where
  pub size : nat_abs x ≤ n

-- the same as a test
abbrev pub is_within : ℕ → ℤ → Bool
is_within n x = leb (nat_abs x) n
