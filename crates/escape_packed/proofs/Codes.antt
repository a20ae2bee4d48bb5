-- The code of a piece says how many bytes it has and what it stands for.
-- Assumes nothing.
use mathlib.Core.Path.{◌≡◌, refl, ap, ◌∙◌}
use mathlib.Core.List.{List}
use Prim.Native.Nat.{ℕ, ◌+◌, ◌*◌, ◌%◌, ◌<◌}
use native.Mathlib.Omega.{arith}
use borrow.Author.Tests.{lt-ltb, le-ltb, ne_eqb}
use lib.ListN.{length}
use Rattle.utf8.specs.Utf8.{Scalar}
use Rattle.utf8.proofs.Laws.{scalar_lt}
use Rattle.escape.specs.declared.Allowed.{Allowed}
use Rattle.escape.specs.declared.Unescaped.{Unescaped}
use Rattle.escape.specs.declared.Unescaped.TheVariants.{Nothing, Byte, Unicode}
use Rattle.escape_packed.specs.Packed.{packed_unescaped, packed_piece, packed_len, unescaped_by, packed_value}
use Rattle.escape.specs.Escape.{Escaped, value, bad, escape_of}
use Rattle.escape.proofs.Within.{EscapeIn, escape_in}
use Rattle.escape.proofs.Values.{Unwraps, EscapeUnwraps, escape_unwraps}

-- ---- any piece

-- what has a code of its own: nothing, a byte, a character
abbrev pub Coded : Unescaped → Type 0
Coded Nothing = Unit {0}
Coded (Byte b) = b < 256
Coded (Unicode c) = Scalar c

small : (u : Unescaped) → Coded u → packed_unescaped u < 4294967296
small Nothing h = omega arith
small (Byte b) h = omega arith
small (Unicode c) h = omega (arith, scalar_lt c h)

value_back : (u : Unescaped) → Coded u → unescaped_by (packed_unescaped u) ≡ u
unfolding unescaped_by
value_back Nothing h = refl
value_back (Byte b) h = rw (ne_eqb (1 + b) 0 (λ e. omega arith), lt-ltb (1 + b) 257 (omega arith)) (ap Byte (omega arith))
value_back (Unicode c) h = rw (ne_eqb (257 + c) 0 (λ e. omega arith), le-ltb (257 + c) 257 (omega arith)) (ap Unicode (omega arith))

-- a piece of n bytes that stands for u
module _ (n : ℕ) (u : Unescaped) where
  pub code_len : Coded u → packed_len (packed_piece n u) ≡ n
  unfolding packed_piece packed_len
  code_len h = omega (arith, small u h)

  pub code_value : Coded u → packed_value (packed_piece n u) ≡ u
  unfolding packed_piece packed_value
  code_value h =
      let low : (n * 4294967296 + packed_unescaped u) % 4294967296 ≡ packed_unescaped u = omega (arith, small u h) in
      ap unescaped_by low ∙ value_back u h

  pub code_some : 0 < n → packed_piece n u ≡ 0 → ⊥
  unfolding packed_piece
  code_some h e = omega arith

-- ---- an escape

-- what an escape stands for has a code of its own, and the escape is not empty
abbrev pub EscapeCoded : Escaped → Type 0
EscapeCoded (value u n) = (0 < n) × Coded u
EscapeCoded (bad num p) = Unit {0}

pub escape_coded : (k : Allowed) (s : List ℕ) → EscapeCoded (escape_of k s)
escape_coded k s = both (escape_of k s) (escape_in k s) (escape_unwraps k s)
  where
    coded : (u : Unescaped) → Unwraps k u → Coded u
    coded Nothing h = absurd h
    coded (Byte b) h = h.0
    coded (Unicode c) h = h.0

    both : (e : Escaped) → EscapeIn (length s) e → EscapeUnwraps k e → EscapeCoded e
    both (value u n) h g = (h.0, coded u g)
    both (bad num p) h g = tt
