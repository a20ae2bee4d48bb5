-- Where a text may be cut, by its bytes alone; `proofs/Cuts` shows that in a UTF-8 text these are its characters' boundaries.
-- Assumes nothing.
use Rattle.std.specs.Prelude.{◌≡◌, Bool, false, cond, not, List, [], ◌∷◌, ℕ, suc, ◌-◌, ◌/◌, ◌<◌, eqb, leb, length, get_or, take}
use Rattle.scan.specs.Run.{run}

-- RFC 3629, section 3: a byte 10xxxxxx continues a character
unfoldable pub continuation : ℕ → Bool
continuation b = eqb (b / 64) 2

-- Rust's is_char_boundary: the end of the text, or a byte that continues no character
unfoldable pub is_boundary : List ℕ → ℕ → Bool
is_boundary s at = cond (leb (length s) at) (eqb (length s) at) (not (continuation (get_or s at 0)))

-- how many bytes stand from the last byte that is not 10xxxxxx to the end; all of them where there is none
abbrev pub last_len : List ℕ → ℕ
last_len [] = 0
last_len (b ∷ s) = cond (eqb (run continuation s) (length s)) (suc (length s)) (last_len s)

-- a text without its last character (01, Escapes: "the escape never sees the text's last character")
abbrev pub front : List ℕ → List ℕ
front s = take (length s - last_len s) s

-- no byte 10xxxxxx stands after an ASCII byte
abbrev pub Aligned : List ℕ → Type 0
Aligned [] = Unit {0}
Aligned (a ∷ []) = Unit {0}
Aligned (a ∷ b ∷ s) = (a < 0x80 → continuation b ≡ false) × Aligned (b ∷ s)
