-- Whether the bytes of a part of a text all pass a test. For contracts between functions, no sentence of a document.
-- Assumes nothing.
use Rattle.std.specs.Prelude.{Bool, List, ℕ, leb, drop}
use Rattle.scan.specs.Run.{run}

-- the n bytes at an offset all pass; not where there are fewer
unfoldable pub all_in : (ℕ → Bool) → ℕ → ℕ → List ℕ → Bool
all_in p at n s = leb n (run p (drop at s))
