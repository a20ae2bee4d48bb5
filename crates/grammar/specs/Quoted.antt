-- Chapter Tokens, "Character and string literals", "Byte and byte string literals", "C string and raw C string literals", each production with
-- what it represents in chapter Literal expressions. A text is UTF-8, so on bytes "any character except .." is any byte except ..
-- Assumes nothing.
use Rattle.std.specs.Prelude.{◌≡◌, not, ◌&&◌, List, [], ◌∷◌, ◌++◌, ℕ, ◌≤◌, ◌<◌, T, ltb, length}
use Rattle.utf8.specs.Utf8.{Scalar, encode}
use Rattle.grammar.specs.Notation.{Class, byte, ◌∪◌, all, opt, times}
use Rattle.grammar.specs.Suffixes.{SUFFIX}
use Rattle.grammar.specs.Escapes.{QUOTE_ESCAPE, ASCII_ESCAPE, BYTE_ESCAPE, UNICODE_ESCAPE, STRING_CONTINUE}

-- any byte but those of a set: `~[ .. ]`
abbrev pub except : Class → Class
except f c = not (f c)

-- any ASCII byte (0x00 to 0x7F) but those of a set
abbrev pub ascii_except : Class → Class
ascii_except f c = ltb c 128 && not (f c)

-- ---- one character

-- ~[' \ \n \r \t] | QUOTE_ESCAPE | ASCII_ESCAPE | UNICODE_ESCAPE
-- "the represented character is the escape sequence's escaped value", or "the single character that makes up the literal content"
-- 39 is `'`, 92 is `\`, 10 is LF, 13 is CR, 9 is tab
pub data CHAR_CONTENT (t : List ℕ) (v : ℕ) : Type 0 where
  char : Scalar v → t ≡ encode v → T (except (byte 39 ∪ byte 92 ∪ byte 10 ∪ byte 13 ∪ byte 9) v) → CHAR_CONTENT t v
  quote : QUOTE_ESCAPE t v → CHAR_CONTENT t v
  ascii : ASCII_ESCAPE t v → CHAR_CONTENT t v
  unicode : UNICODE_ESCAPE t v → CHAR_CONTENT t v

-- CHAR_LITERAL : ' ( .. ) ' SUFFIX^?
-- 39 is `'`
pub record CHAR_LITERAL (s : List ℕ) (v : ℕ) (suffix : List ℕ) : Type 0 where
  pub content : List ℕ
  pub is : s ≡ 39 ∷ (content ++ (39 ∷ suffix))
  pub inner : CHAR_CONTENT content v
  pub ending : opt SUFFIX suffix

-- ASCII_FOR_CHAR | BYTE_ESCAPE
-- ASCII_FOR_CHAR : any ASCII (i.e. 0x00 to 0x7F), except ', \, \n, \r or \t
-- 39 is `'`, 92 is `\`, 10 is LF, 13 is CR, 9 is tab
pub data BYTE_CONTENT (t : List ℕ) (v : ℕ) : Type 0 where
  ascii : t ≡ v ∷ [] → T (ascii_except (byte 39 ∪ byte 92 ∪ byte 10 ∪ byte 13 ∪ byte 9) v) → BYTE_CONTENT t v
  escape : BYTE_ESCAPE t v → BYTE_CONTENT t v

-- BYTE_LITERAL : b' ( ASCII_FOR_CHAR | BYTE_ESCAPE ) ' SUFFIX^?
-- 98 is `b`, 39 is `'`
pub record BYTE_LITERAL (s : List ℕ) (v : ℕ) (suffix : List ℕ) : Type 0 where
  pub content : List ℕ
  pub is : s ≡ 98 ∷ 39 ∷ (content ++ (39 ∷ suffix))
  pub inner : BYTE_CONTENT content v
  pub ending : opt SUFFIX suffix

-- ---- strings with escapes

-- ( .. )^*: pieces one after the other, with the bytes that they stand for ("These replacements take place in left-to-right order").
-- `Piece t w r`: the bytes t, with r after them in the string, stand for w.
pub data Pieces (Piece : List ℕ → List ℕ → List ℕ → Type 0) : List ℕ → List ℕ → Type 0 where
  none : Pieces Piece [] []
  some : {s v : List ℕ} (t w r u : List ℕ) → Piece t w r → Pieces Piece r u → s ≡ t ++ r → v ≡ w ++ u → Pieces Piece s v

-- opening, ( .. )^*, ", SUFFIX^?
-- 34 is `"`
pub record Quoted (Piece : List ℕ → List ℕ → List ℕ → Type 0) (opening s v suffix : List ℕ) : Type 0 where
  pub content : List ℕ
  pub is : s ≡ opening ++ (content ++ (34 ∷ suffix))
  pub inner : Pieces Piece content v
  pub ending : opt SUFFIX suffix

-- ~[" \ IsolatedCR] | QUOTE_ESCAPE | ASCII_ESCAPE | UNICODE_ESCAPE | STRING_CONTINUE
-- "The expression's value is .. the UTF-8 encoding of the represented string"
-- 34 is `"`, 92 is `\`, 13 is CR
pub data STRING_PIECE (t w r : List ℕ) : Type 0 where
  char : (c : ℕ) → t ≡ c ∷ [] → T (except (byte 34 ∪ byte 92 ∪ byte 13) c) → w ≡ c ∷ [] → STRING_PIECE t w r
  quote : (v : ℕ) → QUOTE_ESCAPE t v → w ≡ encode v → STRING_PIECE t w r
  ascii : (v : ℕ) → ASCII_ESCAPE t v → w ≡ encode v → STRING_PIECE t w r
  unicode : (v : ℕ) → UNICODE_ESCAPE t v → w ≡ encode v → STRING_PIECE t w r
  continue : STRING_CONTINUE t r → w ≡ [] → STRING_PIECE t w r

-- STRING_LITERAL : " ( .. )^* " SUFFIX^?
-- 34 is `"`
abbrev pub STRING_LITERAL : List ℕ → List ℕ → List ℕ → Type 0
STRING_LITERAL = Quoted STRING_PIECE (34 ∷ [])

-- ASCII_FOR_STRING | BYTE_ESCAPE | STRING_CONTINUE
-- ASCII_FOR_STRING : any ASCII (i.e 0x00 to 0x7F), except ", \ and IsolatedCR
-- "an array containing the Unicode scalar values of the characters in the represented string"
-- 34 is `"`, 92 is `\`, 13 is CR
pub data BYTE_STRING_PIECE (t w r : List ℕ) : Type 0 where
  ascii : (c : ℕ) → t ≡ c ∷ [] → T (ascii_except (byte 34 ∪ byte 92 ∪ byte 13) c) → w ≡ c ∷ [] → BYTE_STRING_PIECE t w r
  escape : (v : ℕ) → BYTE_ESCAPE t v → w ≡ v ∷ [] → BYTE_STRING_PIECE t w r
  continue : STRING_CONTINUE t r → w ≡ [] → BYTE_STRING_PIECE t w r

-- BYTE_STRING_LITERAL : b" ( .. )^* " SUFFIX^?
-- 98 is `b`, 34 is `"`
abbrev pub BYTE_STRING_LITERAL : List ℕ → List ℕ → List ℕ → Type 0
BYTE_STRING_LITERAL = Quoted BYTE_STRING_PIECE (98 ∷ 34 ∷ [])

-- ~[" \ IsolatedCR NUL] | BYTE_ESCAPE except \0 or \x00 | UNICODE_ESCAPE except \u{0}, \u{00}, .., \u{000000} | STRING_CONTINUE
-- "Each single Unicode character contributes its UTF-8 representation", "each 8-bit escape contributes a single byte", "each unicode escape
-- contributes the UTF-8 representation of its escaped value"; "byte 0x00 is not permitted within a C string", however it is written. The null byte
-- that the chapter puts after the represented bytes is no part of the worth (01: "A C value has no closing zero byte").
-- 34 is `"`, 92 is `\`, 13 is CR, 0 is NUL
pub data C_STRING_PIECE (t w r : List ℕ) : Type 0 where
  char : (c : ℕ) → t ≡ c ∷ [] → T (except (byte 34 ∪ byte 92 ∪ byte 13 ∪ byte 0) c) → w ≡ c ∷ [] → C_STRING_PIECE t w r
  escape : (v : ℕ) → BYTE_ESCAPE t v → 1 ≤ v → w ≡ v ∷ [] → C_STRING_PIECE t w r
  unicode : (v : ℕ) → UNICODE_ESCAPE t v → 1 ≤ v → w ≡ encode v → C_STRING_PIECE t w r
  continue : STRING_CONTINUE t r → w ≡ [] → C_STRING_PIECE t w r

-- C_STRING_LITERAL : c" ( .. )^* " SUFFIX^?
-- 99 is `c`, 34 is `"`
abbrev pub C_STRING_LITERAL : List ℕ → List ℕ → List ℕ → Type 0
C_STRING_LITERAL = Quoted C_STRING_PIECE (99 ∷ 34 ∷ [])

-- ---- raw strings

-- `"` at the front with n hashes after it, and w after those
-- 34 is `"`, 35 is `#`
abbrev pub closing : ℕ → List ℕ → List ℕ
closing n w = 34 ∷ (times n 35 ++ w)

-- RAW_STRING_CONTENT : " ( .. )^* (non-greedy) " | # RAW_STRING_CONTENT #, after an opening letter or two, with bytes v of a set between the
-- quotes, and SUFFIX^?. "fewer than 256 of the character U+0023 (#)"; "terminated only by another U+0022 (double-quote) character, followed by
-- the same number of U+0023 (#) characters": the first such (non-greedy). "the represented string is identical to the literal content"
-- 35 is `#`, 34 is `"`
pub record Raw (f : Class) (opening s v suffix : List ℕ) : Type 0 where
  pub hashes : ℕ
  pub few : hashes < 256
  pub is : s ≡ opening ++ (times hashes 35 ++ (34 ∷ (v ++ closing hashes suffix)))
  pub chars : T (all f v)
  pub first : (u w : List ℕ) → v ++ closing hashes suffix ≡ u ++ closing hashes w → length v ≤ length u
  pub ending : opt SUFFIX suffix

-- RAW_STRING_LITERAL : r RAW_STRING_CONTENT SUFFIX^?, with ( ~ IsolatedCR )^*
-- 13 is CR, 114 is `r`
abbrev pub RAW_STRING_LITERAL : List ℕ → List ℕ → List ℕ → Type 0
RAW_STRING_LITERAL = Raw (except (byte 13)) (114 ∷ [])

-- RAW_BYTE_STRING_LITERAL : br RAW_BYTE_STRING_CONTENT SUFFIX^?, with ASCII_FOR_RAW^*
-- ASCII_FOR_RAW : any ASCII (i.e. 0x00 to 0x7F) except IsolatedCR
-- 13 is CR, 98 is `b`, 114 is `r`
abbrev pub RAW_BYTE_STRING_LITERAL : List ℕ → List ℕ → List ℕ → Type 0
RAW_BYTE_STRING_LITERAL = Raw (ascii_except (byte 13)) (98 ∷ 114 ∷ [])

-- RAW_C_STRING_LITERAL : cr RAW_C_STRING_CONTENT SUFFIX^?, with ( ~ IsolatedCR NUL )^*
-- 13 is CR, 0 is NUL, 99 is `c`, 114 is `r`
abbrev pub RAW_C_STRING_LITERAL : List ℕ → List ℕ → List ℕ → Type 0
RAW_C_STRING_LITERAL = Raw (except (byte 13 ∪ byte 0)) (99 ∷ 114 ∷ [])
