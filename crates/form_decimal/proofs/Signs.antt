-- The sign of an exponent, told by its first byte.
-- Assumes nothing.
use mathlib.Core.Path.{◌≡◌, refl}
use mathlib.Core.Bool.{true, false, cond}
use mathlib.Core.List.{List, [], ◌∷◌}
use Prim.Native.Nat.{ℕ}
use native.Mathlib.Omega.{arith}
use lib.ListN.{get_or, drop}
use borrow.Author.Tests.{ne_eqb}
use Rattle.grammar.specs.Notation.{begins, byte}
use Rattle.grammar.specs.Numbers.{SIGN}

-- what stands after the sign
abbrev pub unsigned : List ℕ → List ℕ
unsigned ex = cond (begins SIGN ex) (drop 1 ex) ex

pub minus : (ex : List ℕ) → get_or ex 0 0 ≡ 45 → (true ≡ begins (byte 45) ex) × (unsigned ex ≡ drop 1 ex)
unfolding SIGN
minus [] e = absurd (omega arith)
minus (b ∷ ex) e = rw e (refl, refl)

pub plus : (ex : List ℕ) → get_or ex 0 0 ≡ 43 → (false ≡ begins (byte 45) ex) × (unsigned ex ≡ drop 1 ex)
unfolding SIGN
plus [] e = absurd (omega arith)
plus (b ∷ ex) e = rw e (refl, refl)

pub none : (ex : List ℕ) → (get_or ex 0 0 ≡ 45 → ⊥) → (get_or ex 0 0 ≡ 43 → ⊥) → (false ≡ begins (byte 45) ex) × (unsigned ex ≡ ex)
unfolding SIGN
none [] m p = (refl, refl)
none (b ∷ ex) m p = rw (ne_eqb b 45 m, ne_eqb b 43 p) (refl, refl)
