-- What the entries for C return, in numbers.
-- Assumes nothing.
use Rattle.std.specs.Prelude.{ℕ, ◌+◌}
use Rattle.err.specs.Answer.{Answer, returned, refusal}

-- 01, The settled form: "gets the form's length, or 100,000 plus the refusal number"; of what was given, `size` is the number
abbrev pub return_value : {A : Type 0} → (A → ℕ) → Answer A → ℕ
return_value size (returned a) = size a
return_value size (refusal n p) = 100000 + n

-- where an integer's value goes: the number, or, refused, what was there
abbrev pub value_after : Answer ℕ → ℕ → ℕ
value_after (returned v) before = v
value_after (refusal n p) before = before
