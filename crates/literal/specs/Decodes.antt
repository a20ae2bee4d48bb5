-- What decoding by entry code returns, and what the lent buffer holds then.
-- Assumes nothing.
use Rattle.std.specs.Prelude.{ℕ, cond, List, eqb, Option, Some, None}
use Rattle.err.specs.Outcome.{none}
use Rattle.escape.specs.declared.Allowed.{Allowed}
use Rattle.escape.specs.declared.Allowed.TheVariants.{Text, Bytes, C}
use Rattle.string.specs.Decode.{Decode, refusal, string_decoded, buffer_after}
use Rattle.text_check.specs.Checks.{text_fault}

-- refused for its length with 43, for not being UTF-8 with 44; then as its reading refuses it; then, where the buffer is too short, with 48
unfoldable pub checked_decode : Allowed → List ℕ → ℕ → Decode
checked_decode k s room = cond (eqb (text_fault s) 0) (string_decoded k s room) (refusal (text_fault s) none)

unfoldable pub checked_buffer : Allowed → List ℕ → List ℕ → List ℕ
checked_buffer k s buf = cond (eqb (text_fault s) 0) (buffer_after k s buf) buf

-- ---- by the code

-- "Decoded bytes of kinds 5, 7, 8": the kind of a code
unfoldable pub kind_coded : ℕ → Option Allowed
kind_coded code =
    cond (eqb code 5) (Some Text)
    (cond (eqb code 7) (Some Bytes)
    (cond (eqb code 8) (Some C)
    None))

abbrev pub decode_by : Option Allowed → List ℕ → ℕ → Decode
decode_by (Some k) s room = checked_decode k s room
decode_by None s room = refusal 42 none

abbrev pub decode_buffer_by : Option Allowed → List ℕ → List ℕ → List ℕ
decode_buffer_by (Some k) s buf = checked_buffer k s buf
decode_buffer_by None s buf = buf

-- "(other codes 42; ..)", before anything else
unfoldable pub decode_at : ℕ → List ℕ → ℕ → Decode
decode_at code s room = decode_by (kind_coded code) s room

-- the whole buffer at exit
unfoldable pub decode_buffer : ℕ → List ℕ → List ℕ → List ℕ
decode_buffer code s buf = decode_buffer_by (kind_coded code) s buf
