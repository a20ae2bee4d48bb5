-- An integer literal in its parts: prefix, digits and suffix.
-- Assumes nothing.
use Rattle.std.specs.Prelude.{ℕ, ◌+◌, ◌≤◌, ◌<◌, ◌≡◌, true, false, ◌⊎◌, List, [], ◌∷◌, ◌++◌, length, get_or}
use Rattle.err.specs.Outcome.{Values, digits}
use Rattle.scan.specs.Run.{run, All, Stops}
use Rattle.scan.specs.Sets.{only}
use Rattle.parse.specs.Sets.{digit, dec_digit, starts_e}
use Rattle.suffix.specs.Suffix.{suffix_fault}
use Rattle.integer.specs.Integer.{base_at}

-- each base with its prefix: none, `0b`, `0o`, `0x`
-- 48 is `0`, 98 is `b`, 111 is `o`, 120 is `x`
pub data Prefixed : ℕ → List ℕ → Type 0 where
  dec : Prefixed 10 []
  bin : Prefixed 2 (48 ∷ 98 ∷ [])
  oct : Prefixed 8 (48 ∷ 111 ∷ [])
  hex : Prefixed 16 (48 ∷ 120 ∷ [])

-- digits of the base and `_` at their longest, a byte other than `_` among them, then a good suffix that does not start with e or E.
-- Where there is no prefix, the first byte is a digit and the first two bytes are no prefix: `0` with the suffix `x3` has no parts of
-- base ten.
-- 95 is `_`
pub record IntegerParts (base : ℕ) (pre main suf : List ℕ) : Type 0 where
  pub prefix : Prefixed base pre
  pub digits : All (digit base) main
  pub some : run (only 95) main < length main
  pub longest : Stops (digit base) suf
  pub suffix : suffix_fault suf ≡ 0
  pub no_e : starts_e suf 0 ≡ false
  pub first : dec_digit (get_or (pre ++ main) 0 0) ≡ true
  pub plain : base_at (pre ++ (main ++ suf)) ≡ base

-- a reading's kind, start of suffix and values are those of the parts that make up the text
pub record Tiled (s : List ℕ) (k e : ℕ) (v : Values) : Type 0 where
  pub base : ℕ
  pub pre : List ℕ
  pub main : List ℕ
  pub suf : List ℕ
  pub parts : IntegerParts base pre main suf
  pub text : s ≡ pre ++ (main ++ suf)
  pub kind : k ≡ 2
  pub end : e ≡ length pre + length main
  pub values : v ≡ digits (record { base = base; start = length pre; end = e })

-- decimal digits and the suffix after them do not start with a prefix: no zero comes first, or a second digit follows, or the
-- suffix starts with none of b, o, x
-- 48 is `0`, 98 is `b`, 111 is `o`, 120 is `x`
abbrev pub Unprefixed : List ℕ → List ℕ → Type 0
Unprefixed d suf =
    (get_or d 0 0 ≡ 48 → ⊥) ⊎
    ((2 ≤ length d) ⊎ ((get_or suf 0 0 ≡ 98 → ⊥) × ((get_or suf 0 0 ≡ 111 → ⊥) × (get_or suf 0 0 ≡ 120 → ⊥))))
