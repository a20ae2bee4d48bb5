-- What litrs's `CharLit::parse` and `ByteLit::parse` find after the opening quote where it is no escape (01, Quoted kinds).
-- Assumes nothing.
use Rattle.std.specs.Prelude.{ℕ, ◌+◌, Bool, cond, ◌||◌, List, eqb, ltb, get_or, drop, Option, Some, None, Result, Ok, Err}
use Rattle.err.specs.Outcome.{Place, none, between}
use Rattle.err.specs.Numbers.{number_of}
use Rattle.err.specs.Reading.{place_of}
use Rattle.utf8.specs.Decode.{decode}
use Rattle.err.specs.declared.ParseError.{ParseError}
use Rattle.character_quote.specs.Quote.{empty}
use Rattle.character_quote.specs.declared.Quote.{Quote}
use Rattle.character_quote.specs.declared.Quote.TheVariants.{Char, Byte}

-- what stands between the quotes: its number and how many bytes it has; or the refusal's number and its span
pub data Quoted : Type 0 where
  content : ℕ → ℕ → Quoted
  fault : ℕ → Place → Quoted

-- 01's number and span for each case of the answer
abbrev pub inner_of : Result (ℕ × ℕ) ParseError → Quoted
inner_of (Ok (v, n)) = content v n
inner_of (Err e) = fault (number_of e.kind) (place_of e.span)

-- the character, as RFC 3629 decodes it; in a UTF-8 text there is one unless the text ends there
abbrev pub decoded_by : Option (ℕ × ℕ) → Quoted
decoded_by (Some (c, n)) = content c n
decoded_by None = fault 19 none

-- a character that stands for itself; in a byte literal a byte above 127 is refused with 25
abbrev pub plain_at : Quote → List ℕ → ℕ → Quoted
plain_at Char s at = decoded_by (decode (drop at s))
plain_at Byte s at = cond (ltb (get_or s at 0) 128) (content (get_or s at 0) 1) (fault 25 (between at (at + 1)))

-- LF, tab, CR
-- 10 is LF, 9 is tab, 13 is CR
unfoldable pub special : ℕ → Bool
special b = eqb b 10 || (eqb b 9 || eqb b 13)

-- a quote at once: refused with 26 where another follows, else the literal is empty
-- 39 is `'`
unfoldable pub quote_at : Quote → List ℕ → ℕ → Quoted
quote_at q s at = cond (eqb (get_or s (at + 1) 0) 39) (fault 26 (between at (at + 1))) (fault (empty q) none)
