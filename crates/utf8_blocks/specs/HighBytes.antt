-- The highest byte of a text.
-- Assumes nothing.
use Rattle.std.specs.Prelude.{List, [], ◌∷◌, ℕ, max}

-- the highest number of a list and m: where it is below 128, the list is ASCII
abbrev pub highest_from : ℕ → List ℕ → ℕ
highest_from m [] = m
highest_from m (b ∷ s) = highest_from (max m b) s
