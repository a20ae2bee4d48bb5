-- What the worth of a UTF-8 text satisfies, and a worth with its number reduced.
-- Assumes nothing.
use mathlib.Core.List.{List, [], ◌∷◌}
use Prim.Native.Nat.{ℕ, ◌<◌}
use Rattle.utf8.specs.Utf8.{Scalar, Utf8}
use Rattle.grammar.specs.Meaning.{Worth}
use Rattle.grammar.specs.Meaning as worth
use Rattle.form.specs.Reduced.{reduce}

-- each number of a list is as P says
abbrev pub Each : (ℕ → Type 0) → List ℕ → Type 0
Each P [] = Unit {0}
Each P (b ∷ v) = P b × Each P v

abbrev pub Byte : ℕ → Type 0
Byte b = b < 256

-- of a C string: no NUL
abbrev pub CByte : ℕ → Type 0
CByte b = (0 < b) × (b < 256)

abbrev pub Fit : Worth → Type 0
Fit (worth.bool b) = Unit {0}
Fit (worth.integer n) = Unit {0}
Fit (worth.float d) = Unit {0}
Fit (worth.char c) = Scalar c
Fit (worth.string v) = Utf8 v
Fit (worth.byte b) = Byte b
Fit (worth.byte_string v) = Each Byte v
Fit (worth.c_string v) = Each CByte v

abbrev pub settled_worth : Worth → Worth
settled_worth (worth.bool b) = worth.bool b
settled_worth (worth.integer n) = worth.integer n
settled_worth (worth.float d) = worth.float (reduce d)
settled_worth (worth.char c) = worth.char c
settled_worth (worth.string v) = worth.string v
settled_worth (worth.byte b) = worth.byte b
settled_worth (worth.byte_string v) = worth.byte_string v
settled_worth (worth.c_string v) = worth.c_string v
