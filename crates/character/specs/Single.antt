-- What litrs's `CharLit::parse` and `ByteLit::parse` return (01, Quoted kinds), in their order of tests.
-- Assumes nothing.
use Rattle.std.specs.Prelude.{ℕ, ◌+◌, cond, List, [], ◌∷◌, eqb, ltb, length, get_or, drop, Result, Ok, Err}
use Rattle.err.specs.Outcome.{Outcome, refused, accepted, none, between, shift, value}
use Rattle.err.specs.Reading.{refusal_of}
use Rattle.scan.specs.Run.{run}
use Rattle.scan.specs.Sets.{except}
use Rattle.suffix.specs.Suffix.{suffix_fault}
use Rattle.escape.specs.Escape.{Escaped, escape_of}
use Rattle.escape.specs.Escape as escape
use Rattle.escape.specs.declared.Unescaped.{Unescaped}
use Rattle.escape.specs.declared.Unescaped.TheVariants as unescaped
use Rattle.character_quote.specs.Quote.{quote_kind, offset_of, allowed_in, unterminated, overlong, opens_by, start_fault}
use Rattle.character_quote.specs.Content.{Quoted, content, fault, plain_at, special, quote_at}
use Rattle.character_quote.specs.declared.Quote.{Quote}
use Rattle.character_quote.specs.declared.Quote.TheVariants.{Char, Byte}
use Rattle.err.specs.declared.ParseError.{ParseError}

-- document 01's numbers and values for each case
abbrev pub single_of : Quote → Result (ℕ × ℕ) ParseError → Outcome
single_of q (Ok (v, start)) = accepted (quote_kind q) start (value v)
single_of q (Err e) = refusal_of e

-- "In kinds 4 to 8 a suffix fault spans the suffix's first byte."
unfoldable pub suffixed_at : Quote → List ℕ → ℕ → ℕ → Outcome
suffixed_at q s start v =
    cond (eqb (suffix_fault (drop start s)) 0) (accepted (quote_kind q) start (value v))
    (refused (suffix_fault (drop start s)) (between start (start + 1)))

-- after the character: the closing quote; a later one makes it overlong; without one it is not terminated
-- 39 is `'`
unfoldable pub closed_at : Quote → List ℕ → ℕ → ℕ → Outcome
closed_at q s at v =
    cond (eqb (get_or s at 0) 39) (suffixed_at q s (at + 1) v)
    (cond (eqb (run (except 39) (drop at s)) (length (drop at s)))
    (refused (unterminated q) none)
    (refused (overlong q) none))

-- litrs's `unwrap_char` and `unwrap_byte`: the number of what an escape stands for, which is never a dropped line break
abbrev pub scalar_of : Unescaped → ℕ
scalar_of unescaped.Nothing = 0
scalar_of (unescaped.Byte b) = b
scalar_of (unescaped.Unicode c) = c

-- an escape's span is counted from the escape
abbrev pub escaped_by : ℕ → Escaped → Quoted
escaped_by at (escape.value u n) = content (scalar_of u) n
escaped_by at (escape.bad num p) = fault num (shift at p)

-- an escape: "in chars and bytes it does" see the text's last character
unfoldable pub escaped_at : Quote → List ℕ → ℕ → Quoted
escaped_at q s at = escaped_by at (escape_of (allowed_in q) (drop at s))

-- by the first byte between the quotes
-- 39 is `'`, 92 is `\`
unfoldable pub first_at : Quote → List ℕ → ℕ → Quoted
first_at q s at =
    cond (eqb (get_or s at 0) 39) (quote_at q s at)
    (cond (special (get_or s at 0)) (fault 27 (between at (at + 1)))
    (cond (eqb (get_or s at 0) 92) (escaped_at q s at)
    (plain_at q s at)))

-- after the content the literal closes; a fault there is the literal's
abbrev pub closed_by : Quote → List ℕ → ℕ → Quoted → Outcome
closed_by q s at (content v n) = closed_at q s (at + n) v
closed_by q s at (fault num p) = refused num p

-- of a text that starts with `'` or `b'`
unfoldable pub single_at : Quote → List ℕ → Outcome
single_at q s =
    cond (ltb (offset_of q) (length s)) (closed_by q s (offset_of q) (first_at q s (offset_of q)))
    (refused (unterminated q) none)

-- of any text: the empty text is refused with 1, another start with 28
unfoldable pub char_read : List ℕ → Outcome
char_read [] = refused 1 none
char_read (b ∷ s) = cond (opens_by Char (b ∷ s)) (single_at Char (b ∷ s)) (start_fault Char)

-- of any text: the empty text is refused with 1, another start with 32
unfoldable pub byte_read : List ℕ → Outcome
byte_read [] = refused 1 none
byte_read (b ∷ s) = cond (opens_by Byte (b ∷ s)) (single_at Byte (b ∷ s)) (start_fault Byte)

-- of any text, by the kind
abbrev pub read_by : Quote → List ℕ → Outcome
read_by Char s = char_read s
read_by Byte s = byte_read s
