-- One step through a body, and through a quoted one as the loop of litrs's `unescape_string` (escape.rs) takes it.
-- Assumes nothing.
use Rattle.std.specs.Prelude.{ℕ, ◌+◌, cond, not, ◌&&◌, List, [], ◌∷◌, eqb, ltb, length, get_or, drop, Option, Some, None, Result, Ok, Err}
use Rattle.err.specs.Outcome.{Place, none, between}
use Rattle.err.specs.Numbers.{number_of}
use Rattle.err.specs.Reading.{place_of}
use Rattle.scan.specs.Run.{run}
use Rattle.parse.specs.Sets.{blank}
use Rattle.utf8.specs.Cut.{front}
use Rattle.escape.specs.Allows.{unicode, allow_nul}
use Rattle.escape.specs.Escape.{Escaped, value, bad, escape_of}
use Rattle.escape.specs.declared.Allowed.{Allowed}
use Rattle.escape.specs.declared.Unescaped.{Unescaped}
use Rattle.escape.specs.declared.Unescaped.TheVariants.{Nothing, Byte}
use Rattle.err.specs.declared.ParseError.{ParseError}

-- why a body ends: at its closing quote, or with a refusal's number and its span, counted from here
pub data End : Type 0 where
  close : End
  refuse : ℕ → Place → End

-- one turn of the loop: n bytes that stand for a value, or the end
pub data Next : Type 0 where
  piece : ℕ → Unescaped → Next
  stop : End → Next

-- an error as the end of a body, in 01's number and span
abbrev pub refusing : ParseError → End
refusing e = refuse (number_of e.kind) (place_of e.span)

-- 01's number and span for each case of an ending
abbrev pub end_of : Result (Unit {0}) ParseError → End
end_of (Ok u) = close
end_of (Err e) = refusing e

-- and of a step
abbrev pub next_of : Result (Option (Unescaped × ℕ)) ParseError → Next
next_of (Ok (Some (u, n))) = piece n u
next_of (Ok None) = stop close
next_of (Err e) = stop (refusing e)

-- ---- quoted bodies

-- litrs's `map_err(|e| e.offset_span(i))`: an escape's refusal ends the body
abbrev pub of_escape : Escaped → Next
of_escape (value u n) = piece n u
of_escape (bad num p) = stop (refuse num p)

-- 01, Escapes: "A backslash before LF drops itself and all following spaces, tabs and LFs; a text that ends there is 30". s is what stands
-- after the LF.
unfoldable pub line_break_of : List ℕ → Next
line_break_of s =
    cond (eqb (run blank s) (length s)) (stop (refuse 30 none))
    (piece (run blank s + 2) Nothing)

-- the two arms for a backslash; 01, Escapes: "In quoted strings the escape never sees the text's last character"
-- 10 is LF
unfoldable pub backslash_of : Allowed → List ℕ → Next
backslash_of k s = cond (eqb (get_or s 1 0) 10) (line_break_of (drop 2 s)) (of_escape (escape_of k (front s)))

-- the arms for any other byte, in their order: CR is refused with 37, a quote closes, NUL is refused with 36 and a byte above 127 with 25 where the kind has none
-- 13 is CR, 34 is `"`
unfoldable pub plain_of : Allowed → ℕ → Next
plain_of k b =
    cond (eqb b 13) (stop (refuse 37 (between 0 1)))
    (cond (eqb b 34) (stop close)
    (cond (not (allow_nul k) && eqb b 0) (stop (refuse 36 (between 0 1)))
    (cond (not (unicode k) && ltb 127 b) (stop (refuse 25 (between 0 1)))
    (piece 1 (Byte b)))))

-- `match input.as_bytes()[i]` of `unescape_string`, on what is left of the text; after the last byte 30
-- 92 is `\`
unfoldable pub step_of : Allowed → List ℕ → Next
step_of k [] = stop (refuse 30 none)
step_of k (b ∷ s) = cond (eqb b 92) (backslash_of k (b ∷ s)) (plain_of k b)
