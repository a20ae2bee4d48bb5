-- Chapter Tokens, "Suffixes", and chapter Identifiers, which it names.
-- Assumes nothing.
use Rattle.std.specs.Prelude.{not, T, leb}
use Rattle.grammar.specs.Notation.{Lang, Class, range, byte, ◌∪◌, begins, one, many, ◌·◌, ◌or◌}

-- DEC_DIGIT : [0-9]
-- 48 is `0`, 57 is `9`
unfoldable pub DEC_DIGIT : Class
DEC_DIGIT = range 48 57

-- `_`
-- 95 is `_`
unfoldable pub LOW : Class
LOW = byte 95

-- `e|E`
-- 101 is `e`, 69 is `E`
unfoldable pub E : Class
E = byte 101 ∪ byte 69

-- XID_Start and XID_Continue within ASCII. 01, Suffix and digits: "Non-ASCII always passes: the one departure from the Reference, which wants XID"
-- 97 is `a`, 122 is `z`, 65 is `A`, 90 is `Z`
unfoldable pub XID_START : Class
XID_START = range 97 122 ∪ range 65 90 ∪ leb 128

unfoldable pub XID_CONTINUE : Class
XID_CONTINUE = XID_START ∪ DEC_DIGIT ∪ LOW

-- IDENTIFIER_OR_KEYWORD : XID_Start XID_Continue^* | _ XID_Continue^+
abbrev pub IDENTIFIER_OR_KEYWORD : Lang
IDENTIFIER_OR_KEYWORD = one XID_START · many XID_CONTINUE or one LOW · one XID_CONTINUE · many XID_CONTINUE

-- SUFFIX : IDENTIFIER_OR_KEYWORD
abbrev pub SUFFIX : Lang
SUFFIX = IDENTIFIER_OR_KEYWORD

-- SUFFIX_NO_E : SUFFIX not beginning with e or E
abbrev pub SUFFIX_NO_E : Lang
SUFFIX_NO_E s = SUFFIX s × T (not (begins E s))
