-- A body, step by step: the bytes after the opening quote, to the end of the text.
-- Assumes nothing.
use Rattle.err.specs.Outcome.{Ends}
use Rattle.std.specs.Prelude.{ℕ, zero, suc, ◌+◌, ◌-◌, ◌≤◌, ◌≡◌, List, [], ◌∷◌, ◌++◌, length}
use Rattle.escape.specs.Escape.{bytes_of}
use Rattle.escape.specs.declared.Allowed.{Allowed}
use Rattle.body.specs.Step.{End, close, refuse, Next, piece, stop, end_of, step_of}
use Rattle.body.specs.declared.Measured.{Measured}

-- where a body ends, the bytes that it stands for up to there, and why it ends
pub record Body : Type 0 where
  pub at : ℕ
  pub value : List ℕ
  pub end : End

-- a body with n bytes in front that stand for v
abbrev pub push : ℕ → List ℕ → Body → Body
push n v b = record { at = n + b.at; value = v ++ b.value; end = b.end }

-- a body by its first step, and by the body after the n bytes of a piece
abbrev pub follow : Next → (ℕ → Body) → Body
follow (piece n u) rest = push n (bytes_of u) (rest n)
follow (stop e) rest = record { at = 0; value = []; end = e }

-- litrs's loops, `i += len`: steps from the front, where the next n bytes belong to a piece that began before. No piece begins after the
-- last byte.
unfoldable pub body_from : (List ℕ → Next) → ℕ → List ℕ → Body
body_from step n [] = follow (step []) (λ m. record { at = 0; value = []; end = close })
body_from step (suc n) (b ∷ s) = body_from step n s
body_from step zero (b ∷ s) = follow (step (b ∷ s)) (λ n. body_from step (n - 1) s)

-- a body from its first byte, with one step after the other
unfoldable pub body_by : (List ℕ → Next) → List ℕ → Body
unfolding body_from
body_by step s = body_from step 0 s

-- the body of a quoted string: the loop of `unescape_string`
abbrev pub body : Allowed → List ℕ → Body
body k = body_by (step_of k)

-- ---- what a measure says

-- the measure of a body: where it ends, how many bytes it stands for, and why it ends
pub record Measures (b : Body) (m : Measured) : Type 0 where
  pub place : m.at ≡ b.at
  pub count : m.len ≡ length b.value
  pub why : end_of m.end ≡ b.end

-- m bytes are left where a body ends: enough for the q bytes that close it, or for a refusal's span
abbrev pub EndFits : ℕ → ℕ → End → Type 0
EndFits q m close = q ≤ m
EndFits q m (refuse num p) = Ends m p

-- a measure of a body that starts at an offset of a text of n bytes ends in the text
pub record Fitting (q offset n : ℕ) (m : Measured) : Type 0 where
  pub place : offset + m.at ≤ n
  pub end : EndFits q (n - (offset + m.at)) (end_of m.end)
