-- The bytes whose form is the byte, as the code has them.
-- Assumes nothing.
use Rattle.std.specs.Prelude.{ℕ, Bool}
use Rattle.form_byte.specs.Styled.{itself}
use Rattle.form_value.specs.declared.Itself.{Itself}

abbrev pub in_itself : Itself → ℕ → Bool
in_itself i = itself i.0.verbatim i.0.quote
