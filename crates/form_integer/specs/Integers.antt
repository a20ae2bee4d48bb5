-- When a zero is written twice (01, The settled form: "`00` before a suffix starting with b, o or x").
-- Assumes nothing.
use Rattle.std.specs.Prelude.{Bool, ◌&&◌, List, ℕ, eqb}
use Rattle.grammar.specs.Notation.{begins, byte, ◌∪◌}

-- "`00` before a suffix starting with b, o or x": whether a number is zero and such a suffix follows
-- 98 is `b`, 111 is `o`, 120 is `x`
unfoldable pub doubled : ℕ → List ℕ → Bool
doubled n x = eqb n 0 && begins (byte 98 ∪ byte 111 ∪ byte 120) x
