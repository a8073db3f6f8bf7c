-- Document 02, #103: what the entry for two numbers answers.
use Rattle.std.specs.Prelude.{◌&&◌, ℕ, ℤ, pos, nat_abs}
use Rattle.reasons.specs.Answer.{WorkingAnswer, answer_if}
use Rattle.euclid.specs.Remainders.{early_factor, early_divisions}
use Rattle.euclid.specs.Coefficient.{is_coefficient}

-- the factor with the number of divisions, by remainders of their sizes, ending at the first that is 0 or 1; or reason 9
abbrev pub common_divisor : ℤ → ℤ → WorkingAnswer (ℤ × ℕ)
common_divisor a b =
    answer_if (is_coefficient a && is_coefficient b) (pos (early_factor (nat_abs a) (nat_abs b)), early_divisions (nat_abs a) (nat_abs b))
