-- The lines of the batch format (docs/BATCH.md, The lines), as bytes, without the line feed that ends each. A piece starts with a space.
-- Assumes nothing.
use Rattle.std.specs.Prelude.{ℕ, ◌+◌, ◌≡◌, Bool, cond, List, [], ◌∷◌, ◌++◌, eqb, length, take, drop}
use Rattle.std.specs.List.{list_all}
use Rattle.err.specs.Outcome.{Place, none, between, Rawness, not_raw, raw, Values, truth, digits, ends, value, decoded, Outcome, refused, accepted}
use Rattle.err.specs.Counts.{Counts, no_counts, integer_count, float_counts}
use Rattle.buffer.specs.Buffer.{over}
use Rattle.buffer.specs.Digits.{decimal, hex_digits}

-- a piece was written after the first `at` bytes of a line, and ends at n; the line held `before` and now holds `after`
pub record Added (piece : List ℕ) (at n : ℕ) (before after : List ℕ) : Type 0 where
  pub count : n ≡ at + length piece
  pub bytes : after ≡ take at before ++ over piece (drop at before)

-- ---- pieces

-- "The values of a reading are decimal"
-- 32 is space
unfoldable pub number_piece : ℕ → List ℕ
number_piece n = 32 ∷ decimal n

-- ` START END`, ` - -` "if it has no span"
-- 32 is space, 45 is `-`
abbrev pub place_piece : Place → List ℕ
place_piece none = 32 ∷ 45 ∷ 32 ∷ 45 ∷ []
place_piece (between a e) = number_piece a ++ number_piece e

-- "HASHES is `-` if it is not raw"
-- 32 is space, 45 is `-`
abbrev pub hashes_piece : Rawness → List ℕ
hashes_piece not_raw = 32 ∷ 45 ∷ []
hashes_piece (raw n) = number_piece n

-- the table after "The values of a reading are decimal", after SUFFIX: ` TRUTH` "(1 or 0)"; ` BASE START END`; ` END_INTEGER END_FRACTIONAL END_NUMBER`; ` SCALAR`
-- and ` VALUE`; ` HASHES LENGTH`
abbrev pub values_piece : Values → List ℕ
values_piece (truth t) = number_piece (cond t 1 0)
values_piece (digits d) = number_piece d.base ++ (number_piece d.start ++ number_piece d.end)
values_piece (ends z) = number_piece z.whole ++ (number_piece z.fraction ++ number_piece z.end)
values_piece (value v) = number_piece v
values_piece (decoded v) = hashes_piece v.hashes ++ number_piece v.len

-- at the end of the line of `K`: ` DIGITS` of an integer; ` WHOLE FRACTION EXPONENT` of a float
abbrev pub counts_piece : Counts → List ℕ
counts_piece no_counts = []
counts_piece (integer_count n) = number_piece n
counts_piece (float_counts c) = number_piece c.whole ++ (number_piece c.fraction ++ number_piece c.exponent)

abbrev pub hexes : List ℕ → List ℕ
hexes [] = []
hexes (b ∷ s) = hex_digits b ++ hexes s

-- "HEX is the written bytes in lower-case hexadecimal, or `-` if there are none"
-- 32 is space, 45 is `-`
abbrev pub hex_piece : List ℕ → List ℕ
hex_piece [] = 32 ∷ 45 ∷ []
hex_piece (b ∷ s) = 32 ∷ hexes (b ∷ s)

-- "every byte .. is still 165"
abbrev pub kept : List ℕ → Bool
kept = list_all (λ b. eqb b 165)

-- "`kept` if every byte after them is still 165, else `changed`"
unfoldable pub kept_piece : List ℕ → List ℕ
kept_piece rest = cond (kept rest) (32 ∷ 107 ∷ 101 ∷ 112 ∷ 116 ∷ []) (32 ∷ 99 ∷ 104 ∷ 97 ∷ 110 ∷ 103 ∷ 101 ∷ 100 ∷ [])

-- ---- lines

-- `no NUMBER START END`
unfoldable pub refusal_line : ℕ → Place → List ℕ
refusal_line n p = (110 ∷ 111 ∷ []) ++ (number_piece n ++ place_piece p)

-- `ok` and a number: `ok VALUE`, `ok CODE`, `ok LENGTH`
unfoldable pub ok_line : ℕ → List ℕ
ok_line n = (111 ∷ 107 ∷ []) ++ number_piece n

-- `ok` and two numbers: `ok KIND SUFFIX`, `ok KIND LENGTH`
unfoldable pub kind_line : ℕ → ℕ → List ℕ
kind_line kind n = ok_line kind ++ number_piece n

-- the table after "The values of a reading are decimal"
abbrev pub reading_line : Outcome → List ℕ
reading_line (refused n p) = refusal_line n p
reading_line (accepted kind e vs) = kind_line kind e ++ values_piece vs
