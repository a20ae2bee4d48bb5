-- A number in decimal digits, and a byte in two hex digits, as ASCII bytes.
-- Assumes nothing.
use Rattle.std.specs.Prelude.{ℕ, zero, suc, ◌+◌, ◌/◌, ◌%◌, cond, List, [], ◌∷◌, ◌++◌, ltb}

-- the digits of n, the most significant first, where n is below `most`
abbrev pub decimal_below : ℕ → ℕ → List ℕ
decimal_below zero n = []
decimal_below (suc most) n = cond (ltb n 10) ((48 + n) ∷ []) (decimal_below most (n / 10) ++ ((48 + n % 10) ∷ []))

-- 01, The settled form: "decimal without leading zero"; zero is `0`
unfoldable pub decimal : ℕ → List ℕ
decimal n = decimal_below (suc n) n

-- a digit below 16: `0` to `9`, then `a` to `f`
unfoldable pub hex_digit : ℕ → ℕ
hex_digit d = cond (ltb d 10) (48 + d) (87 + d)

-- 01, The settled form: "two lower-case hex digits" of a byte
unfoldable pub hex_digits : ℕ → List ℕ
hex_digits b = hex_digit (b / 16) ∷ hex_digit (b % 16) ∷ []
