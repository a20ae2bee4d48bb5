-- UTF-8 as RFC 3629 defines it. A byte is a number below 256, a text a list of bytes.
-- Assumes nothing.
use Rattle.std.specs.Prelude.{◌≡◌, ◌⊎◌, List, [], ◌∷◌, ◌++◌, cond, ℕ, ◌+◌, ◌/◌, ◌%◌, ◌≤◌, ◌<◌, ltb, length}

-- Section 3: a character number is 0 to 10FFFF, and is not one of the surrogates D800 to DFFF.
abbrev pub Scalar : ℕ → Type 0
Scalar s = (s < 0xD800) ⊎ ((0xE000 ≤ s) × (s < 0x110000))

-- Section 3, the table. One row for each range of character numbers; the x bits of a row hold the number, the highest first.
--   0000 0000-0000 007F | 0xxxxxxx
--   0000 0080-0000 07FF | 110xxxxx 10xxxxxx
--   0000 0800-0000 FFFF | 1110xxxx 10xxxxxx 10xxxxxx
--   0001 0000-0010 FFFF | 11110xxx 10xxxxxx 10xxxxxx 10xxxxxx
unfoldable pub encode : ℕ → List ℕ
encode s =
    cond (ltb s 0x80) (s ∷ [])
    (cond (ltb s 0x800) ((0b11000000 + s / 64) ∷ (0b10000000 + s % 64) ∷ [])
    (cond (ltb s 0x10000) ((0b11100000 + s / 4096) ∷ (0b10000000 + s / 64 % 64) ∷ (0b10000000 + s % 64) ∷ [])
    ((0b11110000 + s / 262144) ∷ (0b10000000 + s / 4096 % 64) ∷ (0b10000000 + s / 64 % 64) ∷ (0b10000000 + s % 64) ∷ [])))

-- the encodings of some characters, one after the other
abbrev pub encode_all : List ℕ → List ℕ
encode_all [] = []
encode_all (s ∷ ss) = encode s ++ encode_all ss

-- each of these numbers is a character number
abbrev pub Scalars : List ℕ → Type 0
Scalars [] = Unit {0}
Scalars (s ∷ ss) = Scalar s × Scalars ss

-- A text is UTF-8: it is the encodings of some characters, one after the other.
abbrev pub Utf8 : List ℕ → Type 0
Utf8 text = (ss : List ℕ) × Scalars ss × (encode_all ss ≡ text)

-- The offset n is a character boundary of the text: the text is two UTF-8 texts, one after the other, and the first has n bytes.
abbrev pub Boundary : List ℕ → ℕ → Type 0
Boundary text n = (p : List ℕ) × (q : List ℕ) × Utf8 p × Utf8 q × (p ++ q ≡ text) × (length p ≡ n)

-- The last character of the text has n bytes: the text is a UTF-8 text with one character after it, whose encoding has n bytes.
abbrev pub LastChar : List ℕ → ℕ → Type 0
LastChar text n = (p : List ℕ) × (s : ℕ) × Utf8 p × Scalar s × (p ++ encode s ≡ text) × (length (encode s) ≡ n)
