-- The marked text `0x_1F`, by the definitions: its value is 31.
-- Assumes nothing.
use mathlib.Core.Path.{◌≡◌, refl}
use mathlib.Core.List.{[], ◌∷◌}
use Rattle.scan.specs.Sets.{only}
use Rattle.parse.specs.Class.{class_of}
use Rattle.parse.specs.Sets.{digit, suffix_rest, dec_digit, starts_e}
use Rattle.suffix.specs.Suffix.{suffix_start, fault_from, suffix_fault}
use Rattle.integer.specs.Integer.{base_at, prefix_len, main_len, main_part, after_suffix, after_digits, integer_of, integer_at, integer_read}
use Rattle.integer_value.specs.Value.{number, integer_lit_value, returned}

pub marked_value : integer_lit_value 255 (48 ∷ 120 ∷ 95 ∷ 49 ∷ 70 ∷ []) ≡ returned 31
unfolding only class_of digit suffix_rest dec_digit starts_e suffix_start fault_from suffix_fault base_at prefix_len main_len main_part after_suffix after_digits integer_of integer_at integer_read number integer_lit_value
marked_value = refl

pub digits_number : number 16 (95 ∷ 49 ∷ 70 ∷ []) ≡ 31
unfolding class_of number
digits_number = refl
