-- Forms that fit by the bound of four bytes for one: for contracts between functions, no sentence of a document. Law `by_bound` says that they are given.
-- Assumes nothing.
use Rattle.std.specs.Prelude.{Bool, false, ◌&&◌, List, ℕ, ◌+◌, ◌-◌, ◌*◌, leb, length}
use Rattle.err.specs.Outcome.{truth, digits, ends, value, decoded, Outcome, refused, accepted}

-- a value of n bytes, each at most four in a form, with quotes and letter, and a suffix of m bytes fit into a form and into `room` bytes
unfoldable pub bound_fits : ℕ → ℕ → ℕ → Bool
bound_fits n m room = leb (4 * n + 3 + m) 65536 && leb (4 * n + 3 + m) room

-- a reading of a text s whose form fits by the bound: only strings are judged so
abbrev pub fits_by_bound : List ℕ → Outcome → ℕ → Bool
fits_by_bound s (accepted k e (decoded v)) room = bound_fits v.len (length s - e) room
fits_by_bound s (accepted k e (truth b)) room = false
fits_by_bound s (accepted k e (digits d)) room = false
fits_by_bound s (accepted k e (ends z)) room = false
fits_by_bound s (accepted k e (value v)) room = false
fits_by_bound s (refused n p) room = false
