-- What reading by entry code returns: litrs's `parse` (src/parse.rs) for entry 0, each kind's own `parse` for entries 1 to 8.
-- Assumes nothing.
use Rattle.std.specs.Prelude.{ℕ, cond, ◌||◌, List, [], ◌∷◌, eqb, leb, get_or}
use Rattle.err.specs.Outcome.{Outcome, refused, none}
use Rattle.parse.specs.Sets.{dec_digit}
use Rattle.boolean.specs.Bool.{bool_read}
use Rattle.escape.specs.declared.Allowed.{Allowed}
use Rattle.escape.specs.declared.Allowed.TheVariants.{Text, Bytes, C}
use Rattle.err.specs.declared.Kind.{Kind}
use Rattle.err.specs.declared.Kind.TheVariants as kind
use Rattle.character_quote.specs.declared.Quote.{Quote}
use Rattle.character_quote.specs.declared.Quote.TheVariants.{Char, Byte}
use Rattle.integer.specs.Integer.{integer_read}
use Rattle.float.specs.Float.{float_read}
use Rattle.character.specs.Single.{char_read, byte_read}
use Rattle.string.specs.String.{string_read}
use Rattle.dispatch.specs.Entries.{starts_float}
use Rattle.text_check.specs.Checks.{text_fault}

-- a number: float or integer, by what stands after its leading digits
unfoldable pub number_read : List ℕ → Outcome
number_read s = cond (starts_float s) (float_read s) (integer_read s)

-- after `b`: a quote makes it a byte, `r` or a double quote a byte string; anything else is refused with 3
-- 39 is `'`, 114 is `r`, 34 is `"`
unfoldable pub byte_or_string_read : List ℕ → Outcome
byte_or_string_read s =
    cond (eqb (get_or s 1 0) 39) (byte_read s)
    (cond (eqb (get_or s 1 0) 114 || eqb (get_or s 1 0) 34) (string_read Bytes s)
    (refused 3 none))

-- by the first byte. `f` and `t` start a bool or nothing (refused with 3, as `BoolLit::parse` has it); `c` always goes to the C string; any
-- other byte is refused with 3
-- 102 is `f`, 116 is `t`, 39 is `'`, 34 is `"`, 114 is `r`, 98 is `b`, 99 is `c`
unfoldable pub any_by : ℕ → List ℕ → Outcome
any_by b s =
    cond (dec_digit b) (number_read s)
    (cond (eqb b 102 || eqb b 116) (bool_read s)
    (cond (eqb b 39) (char_read s)
    (cond (eqb b 34 || eqb b 114) (string_read Text s)
    (cond (eqb b 98) (byte_or_string_read s)
    (cond (eqb b 99) (string_read C s)
    (refused 3 none))))))

-- entry 0: the empty text is refused with 1
unfoldable pub any_read : List ℕ → Outcome
any_read [] = refused 1 none
any_read (b ∷ s) = any_by b (b ∷ s)

-- 01: "Entry codes: 0 `parse`, 1 bool, 2 integer, 3 float, 4 char, 5 string, 6 byte, 7 byte string, 8 C string."
unfoldable pub entry_read : ℕ → List ℕ → Outcome
entry_read code s =
    cond (eqb code 0) (any_read s)
    (cond (eqb code 1) (bool_read s)
    (cond (eqb code 2) (integer_read s)
    (cond (eqb code 3) (float_read s)
    (cond (eqb code 4) (char_read s)
    (cond (eqb code 5) (string_read Text s)
    (cond (eqb code 6) (byte_read s)
    (cond (eqb code 7) (string_read Bytes s)
    (string_read C s))))))))

-- 01, "Order: 42, 43, 44, then litrs's own": refused for the code with 42, for the text's length with 43, for not being UTF-8 with 44
unfoldable pub read_at : ℕ → List ℕ → Outcome
read_at code s =
    cond (leb code 8)
    (cond (eqb (text_fault s) 0) (entry_read code s) (refused (text_fault s) none))
    (refused 42 none)

-- ---- for contracts between functions, no sentence of a document; the proof of `literal::entry` joins them to the above

-- what differs between a char and a byte, by the kind
abbrev pub quote_in : Kind → Quote
quote_in kind.Bool = Char
quote_in kind.Integer = Char
quote_in kind.Float = Char
quote_in kind.Char = Char
quote_in kind.String = Char
quote_in kind.Byte = Byte
quote_in kind.ByteString = Char
quote_in kind.CString = Char

-- what the escapes of a string, byte string or C string allow, by the kind
abbrev pub allowed_in : Kind → Allowed
allowed_in kind.Bool = Text
allowed_in kind.Integer = Text
allowed_in kind.Float = Text
allowed_in kind.Char = Text
allowed_in kind.String = Text
allowed_in kind.Byte = Text
allowed_in kind.ByteString = Bytes
allowed_in kind.CString = C
