-- The decimal digits of a mantissa, which stand among `_` and a period.
-- Assumes nothing.
use Rattle.std.specs.Prelude.{Bool, cond, not, ◌&&◌, List, [], ◌∷◌, ℕ, suc, eqb, leb}
use Rattle.parse.specs.Sets.{dec_digit}

-- `1` (49) to `9` (57)
unfoldable pub significant : ℕ → Bool
significant b = leb 49 b && leb b 57

-- any byte but those
unfoldable pub insignificant : ℕ → Bool
insignificant b = not (significant b)

-- the digits alone
abbrev pub digits_of : List ℕ → List ℕ
digits_of [] = []
digits_of (b ∷ s) = cond (dec_digit b) (b ∷ digits_of s) (digits_of s)

-- where the last significant digit ends; 0 where there is none
abbrev pub last_end : List ℕ → ℕ
last_end [] = 0
last_end (b ∷ s) = cond (eqb (last_end s) 0) (cond (significant b) 1 0) (suc (last_end s))
