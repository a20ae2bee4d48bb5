-- What decoding returns and leaves in the buffer, by the reading and by the buffer's room.
-- Assumes nothing.
use mathlib.Core.Path.{◌≡◌, refl, sym}
use mathlib.Core.List.{List}
use Prim.Native.Nat.{ℕ, ◌≤◌, ◌<◌}
use borrow.Author.Tests.{le-leb, lt-leb}
use lib.ListN.{length}
use Rattle.err.specs.Outcome.{Values, none, accepted}
use Rattle.buffer.specs.Buffer.{over}
use Rattle.escape.specs.declared.Allowed.{Allowed}
use Rattle.string.specs.String.{string_read, string_value}
use Rattle.string.specs.Decode.{Decode, written, refusal, string_decoded, buffer_after}

-- what is returned, and the buffer at exit
abbrev pub Answers : Allowed → List ℕ → List ℕ → Decode → List ℕ → Type 0
Answers k s buf d after = (d ≡ string_decoded k s (length buf)) × (after ≡ buffer_after k s buf)

module _ (k : Allowed) (s buf : List ℕ) where
  module _ {kind e : ℕ} {vs : Values} (is : accepted kind e vs ≡ string_read k s) where
    -- a shorter buffer is 48, and keeps every byte
    pub decode_small : length buf < length (string_value k s) → Answers k s buf (refusal 48 none) buf
    unfolding string_decoded buffer_after
    decode_small h = rw (sym is, lt-leb (length (string_value k s)) (length buf) h) (refl, refl)

    -- else the value is written over its front
    pub decode_written : length (string_value k s) ≤ length buf → Answers k s buf (written (length (string_value k s))) (over (string_value k s) buf)
    unfolding string_decoded buffer_after
    decode_written h = rw (sym is, le-leb (length (string_value k s)) (length buf) h) (refl, refl)
