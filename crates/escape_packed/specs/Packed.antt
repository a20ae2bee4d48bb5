-- A piece of a body as one number: a loop gets it in one go, and 0 where there is none. For contracts between functions, no sentence of a
-- document: laws `code_len` and `code_value` say that the number tells the piece.
-- Assumes nothing.
use Rattle.std.specs.Prelude.{ℕ, ◌+◌, ◌-◌, ◌*◌, ◌/◌, ◌%◌, cond, eqb, ltb}
use Rattle.escape.specs.Escape.{Escaped, value, bad}
use Rattle.escape.specs.declared.Unescaped.{Unescaped}
use Rattle.escape.specs.declared.Unescaped.TheVariants.{Nothing, Byte, Unicode}

-- what a piece stands for: 0 for nothing, then the bytes, then the characters
abbrev pub packed_unescaped : Unescaped → ℕ
packed_unescaped Nothing = 0
packed_unescaped (Byte b) = 1 + b
packed_unescaped (Unicode c) = 257 + c

-- a piece of n bytes: n times 2^32, and what it stands for
unfoldable pub packed_piece : ℕ → Unescaped → ℕ
packed_piece n u = n * 4294967296 + packed_unescaped u

-- an escape; 0 where it is refused
abbrev pub packed_escape : Escaped → ℕ
packed_escape (value u n) = packed_piece n u
packed_escape (bad num p) = 0

-- how many bytes a packed piece has
unfoldable pub packed_len : ℕ → ℕ
packed_len c = c / 4294967296

-- what a number below 2^32 stands for
unfoldable pub unescaped_by : ℕ → Unescaped
unescaped_by v = cond (eqb v 0) Nothing (cond (ltb v 257) (Byte (v - 1)) (Unicode (v - 257)))

-- what a packed piece stands for
unfoldable pub packed_value : ℕ → Unescaped
packed_value c = unescaped_by (c % 4294967296)
