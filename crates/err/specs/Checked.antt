-- What a check finds, by the refusal's number.
-- Assumes nothing.
use Rattle.std.specs.Prelude.{ℕ, Result, Ok, Err}
use Rattle.err.specs.Numbers.{number_of}
use Rattle.err.specs.declared.ParseErrorKind.{ParseErrorKind}

-- 0 where nothing is wrong
abbrev pub checked_of : Result (Unit {0}) ParseErrorKind → ℕ
checked_of (Ok u) = 0
checked_of (Err k) = number_of k
