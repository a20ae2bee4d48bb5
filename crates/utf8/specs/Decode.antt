-- The first character of a text, found by computing; `proofs/Laws` shows that it is the one that RFC 3629's table encodes so.
-- Assumes nothing.
use Rattle.std.specs.Prelude.{cond, List, [], ◌∷◌, ℕ, ◌+◌, ◌-◌, ◌*◌, ◌/◌, ◌%◌, ltb, eqb, Option, Some, None}
use Rattle.std.specs.Int.Count.{count_leading_zeros}

-- 01, Bytes: "the count of leading ones in its first byte"; `proofs/First` shows that it tells the length below
unfoldable pub leading_ones : ℕ → ℕ
leading_ones b = count_leading_zeros 8 (255 - b)

-- RFC 3629, section 3, the table: a first byte 0xxxxxxx, 110xxxxx, 1110xxxx, 11110xxx is of a row of 1, 2, 3, 4 bytes;
-- another byte is of no row: 0
unfoldable pub length_from : ℕ → ℕ
length_from b =
    cond (ltb b 0b10000000) 1
    (cond (ltb b 0b11000000) 0 (cond (ltb b 0b11100000) 2 (cond (ltb b 0b11110000) 3 (cond (ltb b 0b11111000) 4 0))))

-- section 3, second row, 110xxxxx 10xxxxxx: the number in the x bits, unless another row has it (overlong)
unfoldable pub decode2 : ℕ → ℕ → Option (ℕ × ℕ)
decode2 a b =
    cond (eqb (b / 64) 2)
    (cond (ltb (a % 32 * 64 + b % 64) 0x80) None (Some (a % 32 * 64 + b % 64, 2)))
    None

-- section 3: a number of the third row, 800 to FFFF, that is no surrogate ("prohibits encoding character numbers between U+D800 and U+DFFF")
unfoldable pub chosen3 : ℕ → Option (ℕ × ℕ)
chosen3 s = cond (ltb s 0x800) None (cond (ltb s 0xD800) (Some (s, 3)) (cond (ltb s 0xE000) None (Some (s, 3))))

-- section 3, third row, 1110xxxx 10xxxxxx 10xxxxxx
unfoldable pub decode3 : ℕ → ℕ → ℕ → Option (ℕ × ℕ)
decode3 a b c =
    cond (eqb (b / 64) 2) (cond (eqb (c / 64) 2) (chosen3 (a % 16 * 4096 + b % 64 * 64 + c % 64)) None) None

-- section 3: a number of the fourth row, 10000 to 10FFFF
unfoldable pub chosen4 : ℕ → Option (ℕ × ℕ)
chosen4 s = cond (ltb s 0x10000) None (cond (ltb s 0x110000) (Some (s, 4)) None)

-- section 3, fourth row, 11110xxx 10xxxxxx 10xxxxxx 10xxxxxx
unfoldable pub decode4 : ℕ → ℕ → ℕ → ℕ → Option (ℕ × ℕ)
decode4 a b c d =
    cond (eqb (b / 64) 2)
    (cond (eqb (c / 64) 2)
    (cond (eqb (d / 64) 2) (chosen4 (a % 8 * 262144 + b % 64 * 4096 + c % 64 * 64 + d % 64)) None)
    None)
    None

-- a character of two bytes from its first byte and the text after it; none where that text is too short
unfoldable pub rest2 : ℕ → List ℕ → Option (ℕ × ℕ)
rest2 a [] = None
rest2 a (b ∷ r) = decode2 a b

-- a character of three bytes from its first byte and the text after it; none where that text is too short
unfoldable pub rest3 : ℕ → List ℕ → Option (ℕ × ℕ)
rest3 a [] = None
rest3 a (b ∷ []) = None
rest3 a (b ∷ c ∷ r) = decode3 a b c

-- a character of four bytes from its first byte and the text after it; none where that text is too short
unfoldable pub rest4 : ℕ → List ℕ → Option (ℕ × ℕ)
rest4 a [] = None
rest4 a (b ∷ []) = None
rest4 a (b ∷ c ∷ []) = None
rest4 a (b ∷ c ∷ d ∷ r) = decode4 a b c d

-- the character that starts with a and goes on with r, where a says that it has n bytes
unfoldable pub decode_by : ℕ → ℕ → List ℕ → Option (ℕ × ℕ)
decode_by n a r =
    cond (eqb n 1) (Some (a, 1)) (cond (eqb n 2) (rest2 a r) (cond (eqb n 3) (rest3 a r) (cond (eqb n 4) (rest4 a r) None)))

-- section 3, "Decoding a UTF-8 character": the first character of a text and how many bytes it has, or None where the text starts with none
unfoldable pub decode : List ℕ → Option (ℕ × ℕ)
decode [] = None
decode (a ∷ r) = decode_by (length_from a) a r

-- how many bytes the character that was found has, 0 where there is none
abbrev pub len_of : Option (ℕ × ℕ) → ℕ
len_of (Some (s, n)) = n
len_of None = 0
