-- What a call returns: a value, or a refusal's number and span.
-- Assumes nothing.
use Rattle.std.specs.Prelude.{ℕ}
use Rattle.err.specs.Outcome.{Place}

-- 01: "A refusal returns number and span"
pub data Answer (A : Type 0) : Type 0 where
  returned : A → Answer A
  refusal : ℕ → Place → Answer A
