-- What litrs's `unescape` (escape.rs) returns for the escape at the front of a byte list, in its order of tests.
-- Assumes nothing.
use Rattle.std.specs.Prelude.{ℕ, ◌+◌, ◌*◌, Bool, true, cond, not, ◌&&◌, ◌||◌, List, [], ◌∷◌, eqb, ltb, leb, length, get_or, take, drop, Option, Some, None, Result, Ok, Err}
use Rattle.err.specs.Outcome.{Place, between}
use Rattle.err.specs.Numbers.{number_of}
use Rattle.err.specs.Reading.{place_of}
use Rattle.scan.specs.Run.{run}
use Rattle.scan.specs.Sets.{except}
use Rattle.parse.specs.Class.{class_of}
use Rattle.utf8.specs.Utf8.{encode, Scalar}
use Rattle.utf8.specs.Cut.{is_boundary}
use Rattle.escape.specs.Allows.{unicode, byte_escapes, allow_nul}
use Rattle.escape.specs.declared.Allowed.{Allowed}
use Rattle.escape.specs.declared.Unescaped.{Unescaped}
use Rattle.escape.specs.declared.Unescaped.TheVariants.{Nothing, Byte, Unicode}
use Rattle.err.specs.declared.ParseError.{ParseError}

-- ---- what an escape stands for

-- the bytes that a value adds to a string: litrs's `push` of a `Vec<u8>`; a dropped line break adds none
abbrev pub bytes_of : Unescaped → List ℕ
bytes_of Nothing = []
bytes_of (Byte b) = b ∷ []
bytes_of (Unicode c) = encode c

-- a character is a scalar value, as Rust's `char` is
abbrev pub Valid : Unescaped → Type 0
Valid Nothing = Unit {0}
Valid (Byte b) = Unit {0}
Valid (Unicode c) = Scalar c

-- litrs's `Ok`: the value and how many bytes the escape has; its `Err`: the refusal's number and its span, counted from the escape
pub data Escaped : Type 0 where
  value : Unescaped → ℕ → Escaped
  bad : ℕ → Place → Escaped

-- 01's number and span for each case of the result
abbrev pub escaped_of : Result (Unescaped × ℕ) ParseError → Escaped
escaped_of (Ok (u, n)) = value u n
escaped_of (Err e) = bad (number_of e.kind) (place_of e.span)

-- ---- one letter

-- the arms for `'`, `"`, `n`, `r`, `t` and the backslash: the byte that the letter stands for; 0 for every other byte
-- 39 is `'`, 34 is `"`, 110 is `n`, 114 is `r`, 116 is `t`, 92 is `\`
unfoldable pub simple_escape_of : ℕ → ℕ
simple_escape_of b =
    cond (eqb b 39) 39
    (cond (eqb b 34) 34
    (cond (eqb b 110) 10
    (cond (eqb b 114) 13
    (cond (eqb b 116) 9
    (cond (eqb b 92) 92 0)))))

-- the same, with no value in place of 0
abbrev pub letter_value : ℕ → Option ℕ
letter_value b = cond (eqb (simple_escape_of b) 0) None (Some (simple_escape_of b))

-- ---- `\x`

-- a value above 7F where the kind has no byte escapes is refused with 11, then 0 where it has no NUL with 35
unfoldable pub x_byte : Allowed → ℕ → Escaped
x_byte k v =
    cond (not (byte_escapes k) && ltb 127 v) (bad 11 (between 0 4))
    (cond (not (allow_nul k) && eqb v 0) (bad 35 (between 0 4))
    (value (Byte v) 4))

-- 01, Escapes: "`\x` wants two bytes that end on a character boundary, else 9 to the end of what it was given"; a byte that is no hex
-- digit is refused with 10
unfoldable pub x_escape : Allowed → List ℕ → Escaped
x_escape k s =
    cond (is_boundary s 4)
    (cond (ltb (class_of (get_or s 2 0)) 16 && ltb (class_of (get_or s 3 0)) 16)
    (x_byte k (class_of (get_or s 3 0) + 16 * class_of (get_or s 2 0)))
    (bad 10 (between 0 4)))
    (bad 9 (between 0 (length s)))

-- ---- `\u`

-- the number of the digits between the braces; or a refusal's number and the offset of the digit that it is about
pub data Hex : Type 0 where
  number : ℕ → Hex
  fault : ℕ → ℕ → Hex

-- the loop over `inner`, at offset i and after n digits worth v: `_` is passed over, no hex digit is refused with 15, a seventh digit with 16
-- 95 is `_`
abbrev pub hex_from : ℕ → ℕ → ℕ → List ℕ → Hex
hex_from i n v [] = number v
hex_from i n v (b ∷ s) =
    cond (eqb b 95) (hex_from (i + 1) n v s)
    (cond (ltb (class_of b) 16)
    (cond (eqb n 6) (fault 16 i)
    (hex_from (i + 1) (n + 1) (16 * v + class_of b) s))
    (fault 15 i))

-- Rust's `char::from_u32` takes the number: RFC 3629's character numbers, `Scalar`
unfoldable pub is_scalar : ℕ → Bool
is_scalar v = ltb v 0xD800 || (leb 0xE000 v && ltb v 0x110000)

-- the end of the arm, for an escape of n bytes: 0 where the kind has no NUL is refused with 35, then a number that is no scalar value with 17
unfoldable pub u_scalar : Allowed → ℕ → ℕ → Escaped
u_scalar k n v =
    cond (not (allow_nul k) && eqb v 0) (bad 35 (between 0 n))
    (cond (is_scalar v) (value (Unicode v) n) (bad 17 (between 0 n)))

-- a digit's fault spans that byte; the digits stand after three bytes
abbrev pub u_hex : Allowed → ℕ → Hex → Escaped
u_hex k n (number v) = u_scalar k n v
u_hex k n (fault num i) = bad num (between (i + 3) (i + 4))

-- `matches!(inner.as_bytes().first(), None | Some(&b'_'))`
-- 95 is `_`
unfoldable pub bad_start : List ℕ → Bool
bad_start [] = true
bad_start (b ∷ d) = eqb b 95

-- between the braces: first the start (13), then each digit
unfoldable pub u_inner : Allowed → List ℕ → Escaped
u_inner k d = cond (bad_start d) (bad 13 (between 3 4)) (u_hex k (length d + 4) (hex_from 0 0 0 d))

-- after `\u{`, with n bytes before the first `}`: none to the end is refused with 18
unfoldable pub u_braced : Allowed → List ℕ → ℕ → Escaped
u_braced k s n =
    cond (eqb (n + 3) (length s)) (bad 18 (between 0 (length s)))
    (u_inner k (take n (drop 3 s)))

-- the arm for `u`: first where the kind has no Unicode escapes (12), then no brace (14), then what stands after it
-- 123 is `{`, 125 is `}`
unfoldable pub u_escape : Allowed → List ℕ → Escaped
u_escape k s =
    cond (unicode k)
    (cond (eqb (get_or s 2 0) 123)
    (u_braced k s (run (except 125) (drop 3 s)))
    (bad 14 (between 0 2)))
    (bad 12 (between 0 2))

-- ---- one escape

-- `match first`, where the second byte is b: a letter, `0` (refused with 35 where the kind has no NUL), `x`, `u`; any other is refused with 8
-- 48 is `0`, 120 is `x`, 117 is `u`
unfoldable pub escape_by : Allowed → ℕ → List ℕ → Escaped
escape_by k b s =
    cond (eqb (simple_escape_of b) 0)
    (cond (eqb b 48) (cond (allow_nul k) (value (Byte 0) 2) (bad 35 (between 0 2)))
    (cond (eqb b 120) (x_escape k s)
    (cond (eqb b 117) (u_escape k s)
    (bad 8 (between 0 2)))))
    (value (Byte (simple_escape_of b)) 2)

-- litrs's `unescape`: no second byte is refused with 9. The first byte is not looked at: it is a backslash wherever this is used.
unfoldable pub escape_of : Allowed → List ℕ → Escaped
escape_of k s = cond (ltb (length s) 2) (bad 9 (between 0 1)) (escape_by k (get_or s 1 0) s)
