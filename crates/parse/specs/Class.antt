-- The class of a byte, as document 01 has it (From bytes to a meaning, Bytes).
-- Assumes nothing.
use Rattle.std.specs.Prelude.{ℕ, ◌-◌, Bool, cond, ◌&&◌, ◌||◌, leb, ltb, eqb}

-- from a to e, both included
abbrev pub within : ℕ → ℕ → ℕ → Bool
within a e b = leb a b && leb b e

-- 01: "hex digit value 0 to 15; 16 `_`; 17 other ASCII letter; 18 space, tab, LF; 19 other ASCII; 20 above 127"
-- 48 to 57 are `0` to `9`, 97 to 102 `a` to `f`, 65 to 70 `A` to `F`, 97 to 122 and 65 to 90 the letters; 95 is `_`, 32 is space, 9 is tab, 10 is LF
unfoldable pub class_of : ℕ → ℕ
class_of b =
    cond (within 48 57 b) (b - 48)
    (cond (within 97 102 b) (b - 87)
    (cond (within 65 70 b) (b - 55)
    (cond (eqb b 95) 16
    (cond (within 97 122 b || within 65 90 b) 17
    (cond (eqb b 32 || (eqb b 9 || eqb b 10)) 18
    (cond (ltb b 128) 19 20))))))
