-- Document 01's rows 19 to 28, the marked `'''` (26 at 1-2) among them, read by the definitions.
-- Assumes nothing.
use mathlib.Core.Path.{◌≡◌, refl}
use mathlib.Core.List.{[], ◌∷◌}
use Rattle.err.specs.Outcome.{refused, none, between}
use Rattle.scan.specs.Sets.{except}
use Rattle.utf8.specs.Decode.{length_from, decode_by, decode}
use Rattle.character_quote.specs.Content.{special, quote_at}
use Rattle.character.specs.Single.{closed_at, first_at, single_at, char_read, byte_read}

pub record Rows : Type 0 where
  pub unterminated_char : char_read (39 ∷ 97 ∷ []) ≡ refused 19 none
  pub overlong_char : char_read (39 ∷ 97 ∷ 98 ∷ 39 ∷ []) ≡ refused 20 none
  pub empty_char : char_read (39 ∷ 39 ∷ []) ≡ refused 21 none
  pub unterminated_byte : byte_read (98 ∷ 39 ∷ 97 ∷ []) ≡ refused 22 none
  pub overlong_byte : byte_read (98 ∷ 39 ∷ 97 ∷ 98 ∷ 39 ∷ []) ≡ refused 23 none
  pub empty_byte : byte_read (98 ∷ 39 ∷ 39 ∷ []) ≡ refused 24 none
  pub non_ascii : byte_read (98 ∷ 39 ∷ 195 ∷ 169 ∷ 39 ∷ []) ≡ refused 25 (between 2 3)
  pub single_quote : char_read (39 ∷ 39 ∷ 39 ∷ []) ≡ refused 26 (between 1 2)
  pub single_quote_byte : byte_read (98 ∷ 39 ∷ 39 ∷ 39 ∷ []) ≡ refused 26 (between 2 3)
  pub tab : char_read (39 ∷ 9 ∷ 39 ∷ []) ≡ refused 27 (between 1 2)
  pub tab_byte : byte_read (98 ∷ 39 ∷ 9 ∷ 39 ∷ []) ≡ refused 27 (between 2 3)
  pub no_quote : char_read (97 ∷ []) ≡ refused 28 (between 0 1)

pub rows : Rows
unfolding except length_from decode_by decode closed_at special quote_at first_at single_at char_read byte_read
rows = record { unterminated_char = refl; overlong_char = refl; empty_char = refl; unterminated_byte = refl; overlong_byte = refl; empty_byte = refl; non_ascii = refl; single_quote = refl; single_quote_byte = refl; tab = refl; tab_byte = refl; no_quote = refl }
