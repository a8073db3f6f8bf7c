-- Document 02, #103: the remainders of two sizes, the factor that they find, and how many divisions that takes.
use Rattle.std.specs.Prelude.{List, [], ◌∷◌, ℕ, zero, suc, ◌%◌, length}

-- what a by b leaves, then what b by that remainder leaves, and so on, each remainder the next divisor, until one is 0; n at most
unfoldable pub first_remainders : ℕ → ℕ → ℕ → List ℕ
first_remainders zero a b = []
first_remainders (suc n) a zero = []
first_remainders (suc n) a (suc b) = a % suc b ∷ first_remainders n (suc b) (a % suc b)

-- all of them: each is less than its divisor, so that there are no more than b
unfoldable pub remainders : ℕ → ℕ → List ℕ
unfolding first_remainders
remainders a b = first_remainders b a b

-- as far as the first that is 0 or 1
unfoldable pub early : List ℕ → List ℕ
early [] = []
early (zero ∷ rs) = 0 ∷ []
early (suc zero ∷ rs) = 1 ∷ []
early (suc (suc r) ∷ rs) = suc (suc r) ∷ early rs

-- what they find after the divisor b: the divisor that leaves 0; where they end before that, their last
unfoldable pub found : ℕ → List ℕ → ℕ
found b [] = b
found b (zero ∷ rs) = b
found b (suc r ∷ rs) = found (suc r) rs

-- where they end; the divisor b where there is none
unfoldable pub end_of : ℕ → List ℕ → ℕ
end_of b [] = b
end_of b (r ∷ rs) = end_of r rs

-- ---- going on to 0
abbrev pub factor : ℕ → ℕ → ℕ
factor a b = found b (remainders a b)

abbrev pub divisions : ℕ → ℕ → ℕ
divisions a b = length (remainders a b)

-- ---- ending at the first remainder that is 0 or 1
abbrev pub early_factor : ℕ → ℕ → ℕ
early_factor a b = found b (early (remainders a b))

abbrev pub early_divisions : ℕ → ℕ → ℕ
early_divisions a b = length (early (remainders a b))

abbrev pub early_end : ℕ → ℕ → ℕ
early_end a b = end_of b (early (remainders a b))
