-- What an accepted reading of a text is worth (01, The settled form: "It is made from entry 0's reading").
-- Assumes nothing.
use Rattle.std.specs.Prelude.{cond, List, ℕ, eqb}
use Rattle.err.specs.Outcome.{Values, truth, digits, ends, value, decoded}
use Rattle.escape.specs.declared.Allowed.TheVariants.{Text, Bytes, C}
use Rattle.grammar.specs.Meaning.{Worth}
use Rattle.grammar.specs.Meaning as worth
use Rattle.integer_value.specs.Value.{number}
use Rattle.string.specs.String.{string_value}
use Rattle.scan.specs.Part.{part}
use Rattle.form_decimal.specs.Scaled.{float_at}

-- the value of kinds 4 and 6
abbrev pub single_worth : ℕ → ℕ → Worth
single_worth k v = cond (eqb k 4) (worth.char v) (worth.byte v)

-- the decoded bytes of kinds 5, 7 and 8
abbrev pub string_worth : ℕ → List ℕ → Worth
string_worth k s =
    cond (eqb k 5) (worth.string (string_value Text s))
    (cond (eqb k 7) (worth.byte_string (string_value Bytes s))
    (worth.c_string (string_value C s)))

-- of a reading of kind k: the truth; the number that base and both ends of the digits mark; the number that the three ends mark; the value; the
-- decoded bytes
abbrev pub worth_of : ℕ → List ℕ → Values → Worth
worth_of k s (truth b) = worth.bool b
worth_of k s (digits d) = worth.integer (number d.base (part d.start d.end s))
worth_of k s (ends z) = worth.float (float_at s z.whole z.fraction z.end)
worth_of k s (value v) = single_worth k v
worth_of k s (decoded v) = string_worth k s
