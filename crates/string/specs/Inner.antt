-- Where the value of a literal stands in its text, found from the reading alone. For contracts between functions, no sentence of a document;
-- law `inner_stands` joins it to `string_value`.
-- Assumes nothing.
use Rattle.std.specs.Prelude.{ℕ, ◌+◌, cond, eqb, Option, Some, None}
use Rattle.err.specs.declared.StringLit.{StringLit}
use Rattle.escape.specs.declared.Allowed.{Allowed}
use Rattle.string.specs.String.{offset_of}
use Rattle.string.specs.declared.Inner.{Inner}
use Rattle.string.specs.declared.Inner.TheVariants.{AsItIs, Escaped}

-- of a body or hashes that start at `from`, a value of n bytes and a suffix at e: a quoted body with as many bytes as its value is the value
abbrev pub inner_by : ℕ → Option ℕ → ℕ → ℕ → Inner
inner_by from None n e = cond (eqb (from + n + 1) e) (AsItIs from (from + n)) (Escaped from)
inner_by from (Some h) n e = AsItIs (from + h + 1) (from + h + 1 + n)

abbrev pub inner_of : Allowed → StringLit → Inner
inner_of k lit = inner_by (offset_of k) lit.hashes lit.value_len lit.start_suffix
