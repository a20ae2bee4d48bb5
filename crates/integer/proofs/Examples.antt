-- The marked texts, read by the definitions: `0x` is 6 at 2-2, `0b1e` is 41 at 1-2, `0x_1F` is of base 16 with digits from 2 to 5.
-- Assumes nothing.
use mathlib.Core.Path.{◌≡◌, refl}
use mathlib.Core.List.{[], ◌∷◌}
use Rattle.err.specs.Outcome.{refused, accepted, between, digits}
use Rattle.scan.specs.Sets.{only}
use Rattle.parse.specs.Class.{class_of}
use Rattle.parse.specs.Sets.{digit, suffix_rest, dec_digit, starts_e}
use Rattle.suffix.specs.Suffix.{suffix_start, fault_from, suffix_fault}
use Rattle.integer.specs.Integer.{base_at, prefix_len, main_len, main_part, after_suffix, after_digits, integer_of, integer_at, integer_read}

pub record Marked : Type 0 where
  pub no_digits : integer_read (48 ∷ 120 ∷ []) ≡ refused 6 (between 2 2)
  pub starting_with_e : integer_read (48 ∷ 98 ∷ 49 ∷ 101 ∷ []) ≡ refused 41 (between 1 2)
  pub hexadecimal : integer_read (48 ∷ 120 ∷ 95 ∷ 49 ∷ 70 ∷ []) ≡ accepted 2 5 (digits (record { base = 16; start = 2; end = 5 }))

pub marked : Marked
unfolding only class_of digit suffix_rest dec_digit starts_e suffix_start fault_from suffix_fault base_at prefix_len main_len main_part after_suffix after_digits integer_of integer_at integer_read
marked = record { no_digits = refl; starting_with_e = refl; hexadecimal = refl }
