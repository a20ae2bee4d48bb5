-- What a reading holds, in numbers.
-- Assumes nothing.
use Rattle.std.specs.Prelude.{ℕ, Bool, true, false, List, [], ◌∷◌, ◌++◌}
use Rattle.err.specs.Outcome.{Place, none, between, Rawness, not_raw, raw, Values, truth, digits, ends, value, decoded, Outcome, refused, accepted}
use Rattle.err.specs.Reading.{values_of_string}
use Rattle.err.specs.Counts.{Counts, no_counts, integer_count, float_counts}
use Rattle.err.specs.declared.StringLit.{StringLit}

-- 1 and the two offsets of a span, or three zeros where there is none
abbrev pub place_numbers : Place → List ℕ
place_numbers none = 0 ∷ 0 ∷ 0 ∷ []
place_numbers (between a e) = 1 ∷ a ∷ e ∷ []

-- a truth is 1 or 0
abbrev pub truth_number : Bool → ℕ
truth_number true = 1
truth_number false = 0

-- whether raw, hashes, and a length
abbrev pub hash_numbers : Rawness → ℕ → List ℕ
hash_numbers not_raw n = 0 ∷ 0 ∷ n ∷ []
hash_numbers (raw h) n = 1 ∷ h ∷ n ∷ []

-- a reading's values as three numbers, zeros after them: truth; base and both ends of the digits; the three ends; the value; whether raw, hashes,
-- length of the value
abbrev pub value_numbers : Values → List ℕ
value_numbers (truth b) = truth_number b ∷ 0 ∷ 0 ∷ []
value_numbers (digits d) = d.base ∷ d.start ∷ d.end ∷ []
value_numbers (ends z) = z.whole ∷ z.fraction ∷ z.end ∷ []
value_numbers (value v) = v ∷ 0 ∷ 0 ∷ []
value_numbers (decoded v) = hash_numbers v.hashes v.len

-- an outcome as five numbers: kind, start of suffix and values; or 0, the refusal number and the span
abbrev pub outcome_numbers : Outcome → List ℕ
outcome_numbers (refused n p) = 0 ∷ n ∷ place_numbers p
outcome_numbers (accepted k e vs) = k ∷ e ∷ value_numbers vs

-- the counts of digits (02, d) as three numbers, zeros where there are none: an integer's; a float's in whole part, fraction and exponent
abbrev pub count_numbers : Counts → List ℕ
count_numbers no_counts = 0 ∷ 0 ∷ 0 ∷ []
count_numbers (integer_count n) = n ∷ 0 ∷ 0 ∷ []
count_numbers (float_counts c) = c.whole ∷ c.fraction ∷ c.exponent ∷ []

-- a reading as eight numbers
abbrev pub reading_numbers : Outcome → Counts → List ℕ
reading_numbers o c = outcome_numbers o ++ count_numbers c

-- a literal of a string's kind, which has no counts
abbrev pub string_numbers : ℕ → StringLit → List ℕ
string_numbers k l = reading_numbers (accepted k l.start_suffix (values_of_string l)) no_counts
