-- A record's head, and what a record leaves in the buffer of the lines and in that of decoded bytes and forms (docs/BATCH.md, A record).
-- Assumes nothing.
use Rattle.std.specs.Prelude.{ℕ, ◌+◌, ◌*◌, ◌≤◌, ◌≡◌, Bool, true, false, List, ◌++◌, length, get_or, take, drop}
use Rattle.buffer.specs.Buffer.{over}
use Rattle.batch_record.specs.Records.{record_line, record_buffer}

-- "little-endian", four bytes: at 2 "the length of the lent buffer", at 6 "the length of the text"
unfoldable pub number_at : List ℕ → ℕ → ℕ
number_at head at = get_or head at 0 + 256 * get_or head (at + 1) 0 + 65536 * get_or head (at + 2) 0 + 16777216 * get_or head (at + 3) 0

-- the line of the record with this head and text: the operation's letter, the code, the text, the length of the lent buffer
unfoldable pub head_line : List ℕ → List ℕ → List ℕ
head_line head text = record_line (get_or head 0 0) (get_or head 1 0) text (number_at head 2)

-- what the buffer for decoded bytes and forms holds after that record: its front, which the record lends, and after it what it held
unfoldable pub head_buffer : List ℕ → List ℕ → List ℕ → List ℕ
head_buffer head text buf = record_buffer (get_or head 0 0) (get_or head 1 0) text (number_at head 2) ++ drop (number_at head 2) buf

-- where another record may follow, the line is that of the head that was read and of the text, which stands at the front of `text`; else none was made. A text that is longer than the room for it is "`bad record`"
abbrev pub Recorded : Bool → List ℕ → List ℕ → List ℕ → List ℕ → Type 0
Recorded true head text before after = (number_at head 6 ≤ length text) × (after ≡ over (head_line head (take (number_at head 6) text)) before)
Recorded false head text before after = after ≡ before

-- where another record may follow, what the buffer for decoded bytes and forms holds is what that record leaves; else what it held
abbrev pub Lent : Bool → List ℕ → List ℕ → List ℕ → List ℕ → Type 0
Lent true head text before after = (number_at head 2 ≤ length before) × (after ≡ head_buffer head (take (number_at head 6) text) before)
Lent false head text before after = after ≡ before
