-- The line of a record (docs/BATCH.md, A record; The lines), and what the lent buffer holds then.
-- Assumes nothing.
use Rattle.std.specs.Prelude.{ℕ, cond, List, [], ◌∷◌, ◌++◌, eqb, length, take, drop, replicate}
use Rattle.err.specs.Outcome.{Place, Outcome}
use Rattle.err.specs.Counts.{Counts}
use Rattle.digits.specs.Counts.{digit_counts}
use Rattle.batch_line.specs.Lines.{counts_piece, hex_piece, kept_piece, refusal_line, ok_line, kind_line, reading_line}
use Rattle.integer_value.specs.Value as value
use Rattle.string.specs.Decode as decode
use Rattle.literal.specs.Readings.{read_at}
use Rattle.keyed.specs.Keyed.{keyed_at}
use Rattle.literal.specs.Values.{value_at}
use Rattle.literal.specs.Suffixes.{integer_from_suffix, float_from_suffix}
use Rattle.literal.specs.Decodes as decodes
use Rattle.settle.specs.Settled as settled

-- ---- the line of what a call came to

-- `K`: as `R`, and the counts of digits
abbrev pub keyed_line : Outcome → Counts → List ℕ
keyed_line o c = reading_line o ++ counts_piece c

-- `ok VALUE`
abbrev pub valued_line : value.Valued → List ℕ
valued_line (value.returned n) = ok_line n
valued_line (value.refusal n p) = refusal_line n p

-- the first n bytes of a lent buffer: ` HEX kept`
unfoldable pub written_piece : ℕ → List ℕ → List ℕ
written_piece n buf = hex_piece (take n buf) ++ kept_piece (drop n buf)

-- "For `D` and `S` it ends in ` kept` if the whole buffer is still 165, else in ` changed`"
unfoldable pub refused_line : ℕ → Place → List ℕ → List ℕ
refused_line n p buf = refusal_line n p ++ kept_piece buf

-- `ok LENGTH HEX kept`
abbrev pub decoded_line : decode.Decode → List ℕ → List ℕ
decoded_line (decode.returned n) buf = ok_line n ++ written_piece n buf
decoded_line (decode.refusal n p) buf = refused_line n p buf

-- `ok KIND LENGTH HEX kept`
abbrev pub settled_line : settled.FormAnswer → List ℕ → List ℕ
settled_line (settled.returned (kind, n)) buf = kind_line kind n ++ written_piece n buf
settled_line (settled.refusal n p) buf = refused_line n p buf

-- ---- the table of operations, over a lent buffer that held `buf`

-- `D`
unfoldable pub decoding_line : ℕ → List ℕ → List ℕ → List ℕ
decoding_line code text buf = decoded_line (decodes.decode_at code text (length buf)) (decodes.decode_buffer code text buf)

-- `S`
unfoldable pub settling_line : List ℕ → List ℕ → List ℕ
settling_line text buf = settled_line (settled.settle_at text (length buf)) (settled.settle_buffer text buf)

-- "For an unknown letter the line is `bad operation`"
abbrev pub bad_operation : List ℕ
bad_operation = 98 ∷ 97 ∷ 100 ∷ 32 ∷ 111 ∷ 112 ∷ 101 ∷ 114 ∷ 97 ∷ 116 ∷ 105 ∷ 111 ∷ 110 ∷ []

-- by the letter: `R`, `V`, `D`, `S`, `I`, `F`, `K`
-- 82 is `R`, 86 is `V`, 68 is `D`, 83 is `S`, 73 is `I`, 70 is `F`, 75 is `K`
unfoldable pub operation_line : ℕ → ℕ → List ℕ → List ℕ → List ℕ
operation_line letter code text buf =
    cond (eqb letter 82) (reading_line (read_at code text))
    (cond (eqb letter 86) (valued_line (value_at code text))
    (cond (eqb letter 68) (decoding_line code text buf)
    (cond (eqb letter 83) (settling_line text buf)
    (cond (eqb letter 73) (ok_line (integer_from_suffix text))
    (cond (eqb letter 70) (ok_line (float_from_suffix text))
    (cond (eqb letter 75) (keyed_line (keyed_at text) (digit_counts text (keyed_at text)))
    bad_operation))))))

-- what the buffer holds then: only `D` and `S` write
-- 68 is `D`, 83 is `S`
unfoldable pub operation_buffer : ℕ → ℕ → List ℕ → List ℕ → List ℕ
operation_buffer letter code text buf =
    cond (eqb letter 68) (decodes.decode_buffer code text buf)
    (cond (eqb letter 83) (settled.settle_buffer text buf)
    buf)

-- ---- a record, whose lent buffer has `room` bytes

-- "The lent buffer is filled with byte 165 before each call"
abbrev pub filled : ℕ → List ℕ
filled room = replicate room 165

-- "one line for each"
-- 10 is LF
unfoldable pub record_line : ℕ → ℕ → List ℕ → ℕ → List ℕ
record_line letter code text room = operation_line letter code text (filled room) ++ (10 ∷ [])

unfoldable pub record_buffer : ℕ → ℕ → List ℕ → ℕ → List ℕ
record_buffer letter code text room = operation_buffer letter code text (filled room)
