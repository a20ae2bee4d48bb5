-- Document 02's number of each refusal that it adds.
-- Assumes nothing.
use Rattle.std.specs.Prelude.{ℕ}
use Rattle.err_added.specs.declared.AddedErrorKind.{AddedErrorKind}
use Rattle.err_added.specs.declared.AddedErrorKind.TheVariants.{TooManyDigits}

-- 02, d: "It answers 53 for an accepted integer with over 40 digits, .."
abbrev pub added_number : AddedErrorKind → ℕ
added_number TooManyDigits = 53
