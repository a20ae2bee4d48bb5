-- What reading a char or a byte comes to, by the first bytes.
-- Assumes nothing.
use mathlib.Core.Path.{◌≡◌, refl}
use mathlib.Core.Bool.{cond}
use mathlib.Core.List.{List, [], ◌∷◌}
use Prim.Native.Nat.{ℕ}
use native.Mathlib.Omega.{arith}
use lib.ListN.{length}
use Rattle.err.specs.Outcome.{refused, none}
use Rattle.character_quote.specs.Quote.{opens_by, start_fault}
use Rattle.character_quote.specs.declared.Quote.{Quote}
use Rattle.character_quote.specs.declared.Quote.TheVariants.{Char, Byte}
use Rattle.character.specs.Single.{single_at, char_read, byte_read, read_by}

pub read_none : (q : Quote) (s : List ℕ) → length s ≡ 0 → refused 1 none ≡ read_by q s
unfolding char_read byte_read
read_none Char [] h = refl
read_none Byte [] h = refl
read_none q (b ∷ s) h = absurd (omega arith)

pub read_some : (q : Quote) (s : List ℕ) → (length s ≡ 0 → ⊥) → read_by q s ≡ cond (opens_by q s) (single_at q s) (start_fault q)
unfolding char_read byte_read
read_some q [] h = absurd (h refl)
read_some Char (b ∷ s) h = refl
read_some Byte (b ∷ s) h = refl
