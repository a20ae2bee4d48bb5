-- The byte at an offset, or 0: one other than 0 stands inside the text.
-- Assumes nothing.
use mathlib.Core.Path.{◌≡◌, sym, ◌∙◌}
use mathlib.Core.List.{List}
use Prim.Native.Nat.{ℕ, ◌<◌}
use native.Mathlib.Omega.{arith}
use lib.ListN.{length, get_or, get_or-eq_default}
use Rattle.scan.proofs.Cases.{by_lt}

pub byte_inside : (s : List ℕ) (at b : ℕ) → get_or s at 0 ≡ b → 0 < b → at < length s
byte_inside s at b e h = by_lt at (length s) (λ l. l) (λ l. absurd (omega (arith, sym (get_or-eq_default s 0 l) ∙ e)))
