-- What stands after a body, and what litrs's `unescape_string` (escape.rs) returns for a whole text.
-- Assumes nothing.
use Rattle.std.specs.Prelude.{ℕ, ◌+◌, cond, List, eqb, length, drop, Result, Ok, Err}
use Rattle.err.specs.Outcome.{Place, between, Rawness, not_raw, raw, shift}
use Rattle.err.specs.Numbers.{number_of}
use Rattle.err.specs.Reading.{place_of, hashes_of}
use Rattle.suffix.specs.Suffix.{suffix_fault}
use Rattle.escape.specs.declared.Allowed.{Allowed}
use Rattle.body.specs.Step.{End, close, refuse}
use Rattle.body.specs.Body.{Body, body}
use Rattle.err.specs.declared.StringLit.{StringLit}
use Rattle.err.specs.declared.ParseError.{ParseError}

-- 01: "hashes (or not raw)", the start of the suffix, and the "value length"; or a refusal's number and span
pub data Quote : Type 0 where
  quoted : Rawness → ℕ → ℕ → Quote
  refused : ℕ → Place → Quote

-- 01's numbers and values for each case of the result
abbrev pub quote_of : Result StringLit ParseError → Quote
quote_of (Ok l) = quoted (hashes_of l.hashes) l.start_suffix l.value_len
quote_of (Err e) = refused (number_of e.kind) (place_of e.span)

-- how many bytes close a string: a quote, and a raw string's hashes
abbrev pub closing : Rawness → ℕ
closing not_raw = 1
closing (raw h) = h + 1

-- 01, Suffix and digits: "In kinds 4 to 8 a suffix fault spans the suffix's first byte". The suffix starts at n.
unfoldable pub suffixed : List ℕ → Rawness → ℕ → ℕ → Quote
suffixed text r n len =
    cond (eqb (suffix_fault (drop n text)) 0) (quoted r n len)
    (refused (suffix_fault (drop n text)) (between n (n + 1)))

-- after the loop: a body that ends at an offset has its suffix after what closes it, or its refusal counts from there
abbrev pub after_end : List ℕ → Rawness → ℕ → ℕ → End → Quote
after_end text r at len close = suffixed text r (at + closing r) len
after_end text r at len (refuse num p) = refused num (shift at p)

-- of a text whose body starts at an offset
abbrev pub after_body : List ℕ → Rawness → ℕ → Body → Quote
after_body text r offset b = after_end text r (offset + b.at) (length b.value) b.end

-- litrs's `unescape_string`: of a text whose quoted body starts at an offset
unfoldable pub string_of : Allowed → ℕ → List ℕ → Quote
string_of k offset text = after_body text not_raw offset (body k (drop offset text))
