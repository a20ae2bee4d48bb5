-- Sets of bytes: all but one, one, and the ASCII bytes.
-- Assumes nothing.
use Rattle.std.specs.Prelude.{ℕ, Bool, not, eqb, ltb}
use Rattle.scan.specs.declared.Except.{Except}
use Rattle.scan.specs.declared.Only.{Only}
use Rattle.scan.specs.declared.Ascii.{Ascii}

-- any byte but x
unfoldable pub except : ℕ → ℕ → Bool
except x b = not (eqb b x)

-- the byte x alone
unfoldable pub only : ℕ → ℕ → Bool
only x b = eqb b x

-- the sets as the code has them
abbrev pub in_except : Except → ℕ → Bool
in_except e = except e.0

abbrev pub in_only : Only → ℕ → Bool
in_only e = only e.0

-- RFC 3629, section 3: a byte 0xxxxxxx is a character of its own, an ASCII one
unfoldable pub ascii : ℕ → Bool
ascii b = ltb b 128

abbrev pub in_ascii : Ascii → ℕ → Bool
in_ascii e = ascii
