-- What a lent buffer holds after a piece was written to its front.
-- Assumes nothing.
use Rattle.std.specs.Prelude.{ℕ, ◌≡◌, List, ◌++◌, length, drop}

-- the piece, and after it what the buffer held there (01, Quoted kinds: "bytes past the value keep what they held")
unfoldable pub over : List ℕ → List ℕ → List ℕ
over piece buf = piece ++ drop (length piece) buf

-- n bytes, which are the piece, were written to the front of a buffer that held `before` and now holds `after`
pub record Wrote (piece : List ℕ) (n : ℕ) (before after : List ℕ) : Type 0 where
  pub count : n ≡ length piece
  pub bytes : after ≡ over piece before
