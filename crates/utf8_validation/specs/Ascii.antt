-- Whether a text is ASCII. For contracts between functions, no sentence of a document.
-- Assumes nothing.
use Rattle.std.specs.Prelude.{Bool, List, ℕ, length}
use Rattle.scan.specs.Sets.{ascii}
use Rattle.scan.specs.Windows.{all_in}

-- every byte is ASCII
abbrev pub is_ascii : List ℕ → Bool
is_ascii s = all_in ascii 0 (length s) s
