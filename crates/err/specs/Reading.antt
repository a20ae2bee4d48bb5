-- Document 01's numbers and values for each case of a reading.
-- Assumes nothing.
use Rattle.std.specs.Prelude.{ℕ, List, [], ◌∷◌, Option, Some, None, Result, Ok, Err}
use Rattle.err.specs.Outcome.{Place, none, between, Rawness, not_raw, raw, Values, truth, digits, ends, value, decoded, Outcome, refused, accepted}
use Rattle.err.specs.Numbers.{number_of}
use Rattle.err.specs.declared.Span.{Span}
use Rattle.err.specs.declared.ParseError.{ParseError}
use Rattle.err.specs.declared.IntegerBase.{IntegerBase}
use Rattle.err.specs.declared.IntegerBase.TheVariants.{Binary, Octal, Decimal, Hexadecimal}
use Rattle.err.specs.declared.IntegerLit.{IntegerLit}
use Rattle.err.specs.declared.BoolLit.{BoolLit}
use Rattle.err.specs.declared.FloatLit.{FloatLit}
use Rattle.err.specs.declared.CharLit.{CharLit}
use Rattle.err.specs.declared.ByteLit.{ByteLit}
use Rattle.err.specs.declared.StringLit.{StringLit}
use Rattle.err.specs.declared.Literal.{Literal}
use Rattle.err.specs.declared.Literal.TheVariants as literal

-- a reading as the code has it, since the logic has no name for an alias
abbrev pub Reading : Type 0
Reading = Result Literal ParseError

abbrev pub place_of : Option Span → Place
place_of None = none
place_of (Some span) = between span.start span.end

abbrev pub base_of : IntegerBase → ℕ
base_of Binary = 2
base_of Octal = 8
base_of Decimal = 10
base_of Hexadecimal = 16

-- 01, Integers: "Prefixes are `0b`, `0o`, `0x`, lower case only"
-- 48 is `0`, 98 is `b`, 111 is `o`, 120 is `x`
abbrev pub prefix_of : IntegerBase → List ℕ
prefix_of Binary = 48 ∷ 98 ∷ []
prefix_of Octal = 48 ∷ 111 ∷ []
prefix_of Decimal = []
prefix_of Hexadecimal = 48 ∷ 120 ∷ []

abbrev pub hashes_of : Option ℕ → Rawness
hashes_of None = not_raw
hashes_of (Some n) = raw n

-- the values that a literal holds, by its kind
abbrev pub values_of_integer : IntegerLit → Values
values_of_integer i = digits (record { base = base_of i.base; start = i.start_main_part; end = i.end_main_part })

abbrev pub values_of_float : FloatLit → Values
values_of_float f = ends (record { whole = f.end_integer_part; fraction = f.end_fractional_part; end = f.end_number_part })

abbrev pub values_of_string : StringLit → Values
values_of_string l = decoded (record { hashes = hashes_of l.hashes; len = l.value_len })

-- "A refusal returns number and span"
abbrev pub refusal_of : ParseError → Outcome
refusal_of e = refused (number_of e.kind) (place_of e.span)

-- 01: "Codes 1 to 8 are also the kinds": 1 bool, 2 integer, 3 float, 4 char, 5 string, 6 byte, 7 byte string, 8 C string.
-- After the kind stands the start of the suffix.
abbrev pub outcome_of : Reading → Outcome
outcome_of (Err e) = refusal_of e
outcome_of (Ok (literal.Bool b)) = accepted 1 b.end (truth b.value)
outcome_of (Ok (literal.Integer i)) = accepted 2 i.end_main_part (values_of_integer i)
outcome_of (Ok (literal.Float f)) = accepted 3 f.end_number_part (values_of_float f)
outcome_of (Ok (literal.Char l)) = accepted 4 l.start_suffix (value l.value)
outcome_of (Ok (literal.String l)) = accepted 5 l.start_suffix (values_of_string l)
outcome_of (Ok (literal.Byte l)) = accepted 6 l.start_suffix (value l.value)
outcome_of (Ok (literal.ByteString l)) = accepted 7 l.start_suffix (values_of_string l)
outcome_of (Ok (literal.CString l)) = accepted 8 l.start_suffix (values_of_string l)

-- 01: "A reading holds kind, start of suffix": the kind of an accepted one, else 0; serves contracts between functions
abbrev pub kind_in : Outcome → ℕ
kind_in (refused n p) = 0
kind_in (accepted k e vs) = k

-- the start of a reading's suffix; 0 of a refused one
abbrev pub suffix_in : Outcome → ℕ
suffix_in (refused n p) = 0
suffix_in (accepted k e vs) = e
