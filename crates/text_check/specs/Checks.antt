-- What is wrong with a text before it is read, by the refusal's number; 0 where nothing is.
-- Assumes nothing.
use Rattle.std.specs.Prelude.{ℕ, cond, List, leb, length}
use Rattle.utf8.specs.Valid.{is_utf8}

-- 01, Order: 43 (over 65,536 bytes), then 44 (not UTF-8)
unfoldable pub text_fault : List ℕ → ℕ
text_fault s = cond (leb (length s) 65536) (cond (is_utf8 s) 0 44) 43
