-- The piece that a backslash starts, as one number, and the steps that end a body. For contracts between functions, no sentence of a
-- document: the laws of proofs/Codes join it to `step_of`.
-- Assumes nothing.
use Rattle.std.specs.Prelude.{ℕ, cond, List, [], ◌∷◌, eqb}
use Rattle.escape_packed.specs.Packed.{packed_piece}
use Rattle.escape.specs.declared.Allowed.{Allowed}
use Rattle.body.specs.Step.{Next, piece, stop, backslash_of}

-- a step that goes on, as one number; 0 for the end
abbrev pub packed_next : Next → ℕ
packed_next (piece n u) = packed_piece n u
packed_next (stop e) = 0

-- what a backslash at the front starts; 0 where it ends the body, or where no backslash stands
-- 92 is `\`
unfoldable pub packed_backslash : Allowed → List ℕ → ℕ
packed_backslash k [] = 0
packed_backslash k (b ∷ s) = cond (eqb b 92) (packed_next (backslash_of k (b ∷ s))) 0

-- the step ends the body
abbrev pub Stopped : Next → Type 0
Stopped (piece n u) = ⊥
Stopped (stop e) = Unit {0}
