-- UTF-8 byte by byte, by RFC 3629, section 4; law `clean_text` says that the texts without a fault are exactly those that `is_utf8` accepts.
--   UTF8-1 = 00-7F                 UTF8-tail = 80-BF
--   UTF8-2 = C2-DF UTF8-tail
--   UTF8-3 = E0 A0-BF UTF8-tail / E1-EC 2(UTF8-tail) / ED 80-9F UTF8-tail / EE-EF 2(UTF8-tail)
--   UTF8-4 = F0 90-BF 2(UTF8-tail) / F1-F3 3(UTF8-tail) / F4 80-8F 2(UTF8-tail)
-- Assumes nothing.
use Rattle.std.specs.Prelude.{Bool, false, cond, not, ◌||◌, List, [], ◌∷◌, ℕ, max, ltb, leb, eqb, get_or, drop}
use Rattle.std.specs.Bool.{xor}
use Rattle.utf8.specs.Cut.{continuation}

-- section 4: after E0 stands A0 or above, after F0 stands 90 or above
unfoldable pub least_after : ℕ → ℕ
least_after a = cond (eqb a 0xE0) 0xA0 (cond (eqb a 0xF0) 0x90 0)

-- section 4: after ED stands 9F or below, after F4 stands 8F or below
unfoldable pub greatest_after : ℕ → ℕ
greatest_after a = cond (eqb a 0xED) 0x9F (cond (eqb a 0xF4) 0x8F 0xFF)

-- section 4: a continuation byte stands after c, b, a (a the last) where a starts a character, or b one of three bytes or four, or c one of four
unfoldable pub wants_continuation : ℕ → ℕ → ℕ → Bool
wants_continuation c b a = leb 0xC0 a || (leb 0xE0 b || leb 0xF0 c)

-- section 4: C0, C1 and F5 to FF stand nowhere
unfoldable pub never : ℕ → Bool
never x = eqb x 0xC0 || (eqb x 0xC1 || ltb 0xF4 x)

-- a byte x outside the range after a
unfoldable pub outside : ℕ → ℕ → Bool
outside a x = ltb x (least_after a) || ltb (greatest_after a) x

-- the byte x breaks one of these rules after c, b, a: a continuation byte exactly where one is wanted, no byte that stands nowhere, no byte out of range
unfoldable pub breaks : ℕ → ℕ → ℕ → ℕ → Bool
breaks c b a x = xor (wants_continuation c b a) (continuation x) || (never x || outside a x)

-- a test as a byte: 255 where it holds
unfoldable pub mask : Bool → ℕ
mask t = cond t 255 0

abbrev pub fault_mask : ℕ → ℕ → ℕ → ℕ → ℕ
fault_mask c b a x = mask (breaks c b a x)

-- the highest of m and these numbers over the bytes after c, b, a; from m = 0 it is 0 exactly where no byte is at fault
abbrev pub worst_from : ℕ → ℕ → ℕ → ℕ → List ℕ → ℕ
worst_from m c b a [] = m
worst_from m c b a (x ∷ s) = worst_from (max m (fault_mask c b a x)) b a x s

-- no byte after c, b, a is at fault, and at the end no continuation byte is wanted
abbrev pub clean : ℕ → ℕ → ℕ → List ℕ → Bool
clean c b a [] = not (wants_continuation c b a)
clean c b a (x ∷ s) = cond (eqb (fault_mask c b a x) 0) (clean b a x s) false

-- the two of the bytes after the first three of a list
abbrev pub worst_after_three : List ℕ → ℕ
worst_after_three s = worst_from 0 (get_or s 0 0) (get_or s 1 0) (get_or s 2 0) (drop 3 s)

abbrev pub clean_after_three : List ℕ → Bool
clean_after_three s = clean (get_or s 0 0) (get_or s 1 0) (get_or s 2 0) (drop 3 s)
