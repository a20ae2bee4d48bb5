-- The parts of a char literal and of a byte literal (01, Quoted kinds).
-- Assumes nothing.
use Rattle.std.specs.Prelude.{ℕ, ◌+◌, ◌<◌, ◌≡◌, false, List, [], ◌∷◌, ◌++◌, length}
use Rattle.suffix.specs.Suffix.{suffix_fault}
use Rattle.utf8.specs.Utf8.{Scalar, encode}
use Rattle.escape.specs.Pieces.{Esc}
use Rattle.escape.specs.declared.Unescaped.{Unescaped}
use Rattle.character_quote.specs.Quote.{allowed_in}
use Rattle.character_quote.specs.Content.{special}
use Rattle.character_quote.specs.declared.Quote.{Quote}
use Rattle.character_quote.specs.declared.Quote.TheVariants.{Char, Byte}
use Rattle.character.specs.Single.{scalar_of}

-- `'`, `b'`
-- 39 is `'`, 98 is `b`
abbrev pub opening_of : Quote → List ℕ
opening_of Char = 39 ∷ []
opening_of Byte = 98 ∷ 39 ∷ []

-- what may stand for itself: no quote, backslash, LF, tab or CR
-- 39 is `'`, 92 is `\`
pub record Plain (v : ℕ) : Type 0 where
  pub quote : v ≡ 39 → ⊥
  pub backslash : v ≡ 92 → ⊥
  pub blank : special v ≡ false

-- what stands between the quotes, and its number: a character that stands for itself, in a byte literal an ASCII one, or an escape
pub data Content (q : Quote) (content : List ℕ) (v : ℕ) : Type 0 where
  char : q ≡ Char → Scalar v → Plain v → content ≡ encode v → Content q content v
  byte : q ≡ Byte → v < 128 → Plain v → content ≡ v ∷ [] → Content q content v
  escape : (u : Unescaped) → Esc (allowed_in q) content u → v ≡ scalar_of u → Content q content v

-- a reading with the suffix at e and the value v is that of the parts that make up the text: opening, content, quote, a good suffix
-- 39 is `'`
pub record Tiled (q : Quote) (s : List ℕ) (e v : ℕ) : Type 0 where
  pub content : List ℕ
  pub suf : List ℕ
  pub text : s ≡ opening_of q ++ (content ++ (39 ∷ suf))
  pub is : Content q content v
  pub suffix : suffix_fault suf ≡ 0
  pub end : e + length suf ≡ length s
