-- Texts read by the definitions, among them rows 2, 7 and 40 of document 01 and its `1.50e1`.
-- Assumes nothing.
use mathlib.Core.Path.{◌≡◌, refl}
use mathlib.Core.List.{[], ◌∷◌}
use Rattle.err.specs.Outcome.{refused, accepted, none, between, ends}
use Rattle.scan.specs.Sets.{only}
use Rattle.parse.specs.Class.{class_of}
use Rattle.parse.specs.Sets.{digit, suffix_rest, dec_digit, starts_e}
use Rattle.suffix.specs.Suffix.{suffix_start, fault_from, suffix_fault}
use Rattle.float.specs.Float.{not_integer, after_number, sign_end, no_digit, after_fraction, bad_fraction, after_integer, float_read}

pub record Examples : Type 0 where
  -- `1._5`
  pub underscore : float_read (49 ∷ 46 ∷ 95 ∷ 53 ∷ []) ≡ refused 2 (between 2 3)
  -- `1e+`
  pub no_digit : float_read (49 ∷ 101 ∷ 43 ∷ []) ≡ refused 7 (between 1 3)
  -- `1`
  pub integer : float_read (49 ∷ []) ≡ refused 40 none
  -- `1+`: the suffix's fault comes before 40
  pub fault_first : float_read (49 ∷ 43 ∷ []) ≡ refused 2 (between 1 2)
  -- `1e3+x`
  pub fault : float_read (49 ∷ 101 ∷ 51 ∷ 43 ∷ 120 ∷ []) ≡ refused 2 (between 3 5)
  -- `1.50e1`
  pub all_parts : float_read (49 ∷ 46 ∷ 53 ∷ 48 ∷ 101 ∷ 49 ∷ []) ≡ accepted 3 6 (ends (record { whole = 1; fraction = 4; end = 6 }))
  -- `2e_3`
  pub one_digit : float_read (50 ∷ 101 ∷ 95 ∷ 51 ∷ []) ≡ accepted 3 4 (ends (record { whole = 1; fraction = 1; end = 4 }))

pub examples : Examples
unfolding only class_of digit suffix_rest dec_digit starts_e suffix_start fault_from suffix_fault not_integer after_number sign_end no_digit after_fraction bad_fraction after_integer float_read
examples = record { underscore = refl; no_digit = refl; integer = refl; fault_first = refl; fault = refl; all_parts = refl; one_digit = refl }
