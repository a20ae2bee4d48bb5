-- What the value call returns: an integer's value at a type code (01, Integers).
-- Assumes nothing.
use Rattle.std.specs.Prelude.{ℕ, cond, List, eqb, Option, Some, None}
use Rattle.err.specs.Outcome.{none}
use Rattle.integer_value.specs.Value.{Valued, refusal, integer_lit_value}
use Rattle.types.specs.Types.{integer_coded, largest_of}
use Rattle.types.specs.declared.IntegerType.{IntegerType}
use Rattle.text_check.specs.Checks.{text_fault}

-- refused for its length with 43, for not being UTF-8 with 44, without a span; then as entry 2's reading refuses it; then, too large, with 45
unfoldable pub checked_value : ℕ → List ℕ → Valued
checked_value limit s = cond (eqb (text_fault s) 0) (integer_lit_value limit s) (refusal (text_fault s) none)

-- the largest value that a type code stands for
abbrev pub largest_in : Option IntegerType → Option ℕ
largest_in (Some t) = largest_of t
largest_in None = None

abbrev pub value_within : Option ℕ → List ℕ → Valued
value_within (Some limit) s = checked_value limit s
value_within None s = refusal 42 none

-- "type codes 1 to 4 and 7 to 10, all others 42", before anything else
unfoldable pub value_at : ℕ → List ℕ → Valued
value_at code s = value_within (largest_in (integer_coded code)) s
