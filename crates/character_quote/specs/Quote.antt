-- In what litrs's `CharLit::parse` and `ByteLit::parse` differ (01, Quoted kinds): in how they open and where the character starts, in
-- which escapes may stand there, and in their refusals.
-- Assumes nothing.
use Rattle.std.specs.Prelude.{ℕ, ◌<◌, Bool, ◌&&◌, List, eqb, get_or}
use Rattle.err.specs.Outcome.{Outcome, refused, none, between}
use Rattle.escape.specs.declared.Allowed.{Allowed}
use Rattle.escape.specs.declared.Allowed.TheVariants as allowed
use Rattle.character_quote.specs.declared.Quote.{Quote}
use Rattle.character_quote.specs.declared.Quote.TheVariants.{Char, Byte}

-- 01: char is kind 4, byte kind 6
abbrev pub quote_kind : Quote → ℕ
quote_kind Char = 4
quote_kind Byte = 6

-- where the character starts: after `'`, after `b'`
abbrev pub offset_of : Quote → ℕ
offset_of Char = 1
offset_of Byte = 2

-- the arguments that litrs gives `unescape`
abbrev pub allowed_in : Quote → Allowed
allowed_in Char = allowed.Text
allowed_in Byte = allowed.Bytes

-- UnterminatedCharLiteral, UnterminatedByteLiteral
abbrev pub unterminated : Quote → ℕ
unterminated Char = 19
unterminated Byte = 22

-- OverlongCharLiteral, OverlongByteLiteral
abbrev pub overlong : Quote → ℕ
overlong Char = 20
overlong Byte = 23

-- EmptyCharLiteral, EmptyByteLiteral
abbrev pub empty : Quote → ℕ
empty Char = 21
empty Byte = 24

-- whether a text starts with `'` or `b'`
-- 39 is `'`, 98 is `b`
abbrev pub opens_by : Quote → List ℕ → Bool
opens_by Char s = eqb (get_or s 0 0) 39
opens_by Byte s = eqb (get_or s 0 0) 98 && eqb (get_or s 1 0) 39

-- another start: DoesNotStartWithQuote, InvalidByteLiteralStart
abbrev pub start_fault : Quote → Outcome
start_fault Char = refused 28 (between 0 1)
start_fault Byte = refused 32 none

-- a byte literal's value is a byte
abbrev pub ValueFits : Quote → ℕ → Type 0
ValueFits Char v = Unit {0}
ValueFits Byte v = v < 256
