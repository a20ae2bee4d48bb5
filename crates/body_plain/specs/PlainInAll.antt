-- A test of eight bytes that is made faster than the one of the bytes that stand for themselves, and tells that they do. For contracts between
-- functions, no sentence of a document.
-- Assumes nothing.
use Rattle.std.specs.Prelude.{Bool, cond, not, ◌&&◌, List, ℕ, eqb}
use Rattle.scan.specs.Sets.{ascii}
use Rattle.scan.specs.Windows.{all_in}
use Rattle.escape.specs.Allows.{unicode}
use Rattle.escape.specs.declared.Allowed.{Allowed}
use Rattle.body_plain.specs.declared.PlainInAll.{PlainInAll}

-- a byte that stands for itself in every kind of body, unless it is above 127: no backslash, quote, CR or NUL
-- 92 is `\`, 34 is `"`, 13 is CR
unfoldable pub plain_in_all : ℕ → Bool
plain_in_all b = not (eqb b 92) && not (eqb b 34) && (not (eqb b 13) && not (eqb b 0))

-- the set as the code has it
abbrev pub in_plain_in_all : PlainInAll → ℕ → Bool
in_plain_in_all set = plain_in_all

-- the eight bytes at an offset are such bytes, and ASCII where the kind has no other characters
unfoldable pub eight_plain : Allowed → ℕ → List ℕ → Bool
eight_plain k at s = cond (unicode k) (all_in plain_in_all at 8 s) (all_in ascii at 8 s && all_in plain_in_all at 8 s)
