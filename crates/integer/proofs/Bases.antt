-- The base of a text by its first two bytes, the ends of the bases, and the length of a base's prefix.
-- Assumes nothing.
use mathlib.Core.Path.{◌≡◌, refl}
use mathlib.Core.List.{List, [], ◌∷◌}
use Prim.Native.Nat.{ℕ, ◌≤◌, ◌<◌}
use native.Mathlib.Omega.{arith}
use borrow.Author.Tests.{ne_eqb}
use lib.Dec.{eqb}
use lib.ListN.{length, get_or}
use Rattle.err.specs.Reading.{base_of, prefix_of}
use Rattle.err.specs.declared.IntegerBase.{IntegerBase}
use Rattle.err.specs.declared.IntegerBase.TheVariants.{Binary, Octal, Decimal, Hexadecimal}
use Rattle.scan.proofs.Cases.{cond_in}
use Rattle.integer.specs.Integer.{base_at, prefix_len}
use Rattle.integer.specs.Parts.{Prefixed, dec, bin, oct, hex}

pub base_short : (s : List ℕ) → length s < 2 → 10 ≡ base_at s
unfolding base_at
base_short [] h = refl
base_short (a ∷ []) h = cond_in (λ (n : ℕ). 10 ≡ n) (eqb a 48) (λ e. refl) (λ e. refl)
base_short (a ∷ b ∷ s) h = absurd (omega arith)

pub base_other : (s : List ℕ) → (get_or s 0 0 ≡ 48 → ⊥) → 10 ≡ base_at s
unfolding base_at
base_other s h = rw (ne_eqb _ _ h)

pub base_ends : (b : IntegerBase) → (2 ≤ base_of b) × (base_of b ≤ 16)
base_ends Binary = (omega arith, omega arith)
base_ends Octal = (omega arith, omega arith)
base_ends Decimal = (omega arith, omega arith)
base_ends Hexadecimal = (omega arith, omega arith)

pub prefix_len_lem : (b : IntegerBase) → length (prefix_of b) ≡ prefix_len (base_of b)
unfolding prefix_len
prefix_len_lem Binary = refl
prefix_len_lem Octal = refl
prefix_len_lem Decimal = refl
prefix_len_lem Hexadecimal = refl

-- each base with its prefix, as `err` has them
pub prefixed : (b : IntegerBase) → Prefixed (base_of b) (prefix_of b)
prefixed Binary = bin
prefixed Octal = oct
prefixed Decimal = dec
prefixed Hexadecimal = hex
