-- Readings that are no numbers have no counts of digits.
-- Assumes nothing.
use mathlib.Core.Path.{◌≡◌, refl}
use mathlib.Core.List.{List, [], ◌∷◌}
use Prim.Native.Nat.{ℕ}
use Rattle.std.specs.Prelude.{Ok}
use types.Run.{OneOf, miss}
use denote.Enum.Declared.{tag_of}
use Rattle.err.specs.Counts.{no_counts, counts_of}
use Rattle.err.specs.declared.Literal.{Literal}
use Rattle.err.specs.declared.Literal.TheVariants as literal
use Rattle.err.specs.contracts.Literal.{the_type}

-- the variants other than `Integer` and `Float`
abbrev pub others : List ℕ
others = 0 ∷ 3 ∷ 4 ∷ 5 ∷ 6 ∷ 7 ∷ []

pub no_number : (l : Literal) → OneOf others (tag_of the_type l) → counts_of (Ok l) ≡ no_counts
no_number (literal.Bool l) o = refl
no_number (literal.Integer l) o = absurd (miss others 1 tt o)
no_number (literal.Float l) o = absurd (miss others 2 tt o)
no_number (literal.Char l) o = refl
no_number (literal.String l) o = refl
no_number (literal.Byte l) o = refl
no_number (literal.ByteString l) o = refl
no_number (literal.CString l) o = refl
