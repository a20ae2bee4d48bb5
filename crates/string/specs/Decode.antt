-- What decoding returns, and what the lent buffer holds then (01, Quoted kinds: "Decoded bytes of kinds 5, 7, 8 go to a lent buffer
-- (..; 48 exactly when it is shorter than the value); bytes past the value keep what they held").
-- Assumes nothing.
use Rattle.std.specs.Prelude.{ℕ, cond, List, leb, length, Result, Ok, Err}
use Rattle.err.specs.Outcome.{Outcome, refused, accepted, none}
use Rattle.err.specs.Answer.{Answer}
pub use Rattle.err.specs.Answer.{returned, refusal}
use Rattle.err.specs.Numbers.{number_of}
use Rattle.err.specs.Reading.{place_of}
use Rattle.buffer.specs.Buffer.{over}
use Rattle.escape.specs.declared.Allowed.{Allowed}
use Rattle.string.specs.String.{string_read, string_value}
use Rattle.err.specs.declared.ParseError.{ParseError}

-- how many bytes were written; or a refusal's number and span
abbrev pub Decode : Type 0
Decode = Answer ℕ

abbrev pub written : ℕ → Decode
written n = returned n

abbrev pub decoded_of : Result ℕ ParseError → Decode
decoded_of (Ok n) = written n
decoded_of (Err e) = refusal (number_of e.kind) (place_of e.span)

-- of a value and a buffer of `room` bytes: refused with 48 where the value is longer
abbrev pub fitted : List ℕ → ℕ → Decode
fitted v room = cond (leb (length v) room) (written (length v)) (refusal 48 none)

abbrev pub of_reading : Outcome → List ℕ → ℕ → Decode
of_reading (refused n p) v room = refusal n p
of_reading (accepted kind e vs) v room = fitted v room

-- the reading's own refusals come through
unfoldable pub string_decoded : Allowed → List ℕ → ℕ → Decode
string_decoded k s room = of_reading (string_read k s) (string_value k s) room

abbrev pub buffer_of : Outcome → List ℕ → List ℕ → List ℕ
buffer_of (refused n p) v buf = buf
buffer_of (accepted kind e vs) v buf = cond (leb (length v) (length buf)) (over v buf) buf

-- the whole buffer at exit: the value, then what it held; refused: exactly as it came
unfoldable pub buffer_after : Allowed → List ℕ → List ℕ → List ℕ
buffer_after k s buf = buffer_of (string_read k s) (string_value k s) buf
