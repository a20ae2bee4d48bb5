-- Where the parts of an accepted reading stand in its text, and how long a value it can have.
-- Assumes nothing.
use Rattle.std.specs.Prelude.{ℕ, ◌≤◌, List, [], ◌∷◌}
use Rattle.err.specs.Outcome.{Values, truth, digits, ends, value, decoded}
use Rattle.utf8.specs.Utf8.{Boundary}

-- the offsets that a reading names, in their order: where its parts start or end, and the start of its suffix, e
abbrev pub offsets : ℕ → Values → List ℕ
offsets e (truth t) = e ∷ []
offsets e (digits d) = d.start ∷ d.end ∷ e ∷ []
offsets e (ends z) = z.whole ∷ z.fraction ∷ z.end ∷ e ∷ []
offsets e (value v) = e ∷ []
offsets e (decoded v) = e ∷ []

-- each offset is inside the text and on a character boundary
abbrev pub OnBoundaries : List ℕ → List ℕ → Type 0
OnBoundaries s [] = Unit {0}
OnBoundaries s (at ∷ offs) = Boundary s at × OnBoundaries s offs

-- none stands before the one in front of it
abbrev pub Rising : List ℕ → Type 0
Rising [] = Unit {0}
Rising (a ∷ []) = Unit {0}
Rising (a ∷ b ∷ offs) = (a ≤ b) × Rising (b ∷ offs)

-- of a text of m bytes: its decoded value is no longer
abbrev pub NoLonger : ℕ → Values → Type 0
NoLonger m (truth t) = Unit {0}
NoLonger m (digits d) = Unit {0}
NoLonger m (ends z) = Unit {0}
NoLonger m (value v) = Unit {0}
NoLonger m (decoded v) = v.len ≤ m
