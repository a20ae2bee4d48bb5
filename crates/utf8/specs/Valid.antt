-- Whether a text is UTF-8, by computing; `proofs/Valid` shows that this is `Utf8`.
-- Assumes nothing.
use Rattle.std.specs.Prelude.{Bool, true, false, List, [], ◌∷◌, ℕ, zero, suc, length, drop, Some, None}
use Rattle.utf8.specs.Decode.{decode}

-- characters as RFC 3629 decodes them, one after the other up to the end, at most as many as the first number says
unfoldable pub chars_within : ℕ → List ℕ → Bool
chars_within zero [] = true
chars_within zero (a ∷ r) = false
chars_within (suc k) [] = true
chars_within (suc k) (a ∷ r) = elim (decode (a ∷ r)) [ Some found ↦ chars_within k (drop found.1 (a ∷ r)) | None ↦ false ]

-- RFC 3629: a text is UTF-8 where it is such characters and nothing else; n bytes hold at most n of them
unfoldable pub is_utf8 : List ℕ → Bool
unfolding chars_within
is_utf8 text = chars_within (length text) text
