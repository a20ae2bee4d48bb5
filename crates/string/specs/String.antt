-- What litrs's `StringLit::parse`, `ByteStringLit::parse` and `CStringLit::parse` return (01, Quoted kinds), in their order of tests.
-- Assumes nothing.
use Rattle.std.specs.Prelude.{ℕ, ◌+◌, cond, List, [], ◌∷◌, eqb, get_or, drop, Result}
use Rattle.err.specs.Outcome.{Outcome, refused, accepted, none, between, decoded}
use Rattle.scan.specs.Run.{run}
use Rattle.scan.specs.Sets.{only}
use Rattle.escape.specs.declared.Allowed.{Allowed}
use Rattle.escape.specs.declared.Allowed.TheVariants.{Text, Bytes, C}
use Rattle.body.specs.Body.{body}
use Rattle.body.specs.Quote.{Quote, quote_of, string_of}
use Rattle.body.specs.Quote as quote
use Rattle.err.specs.declared.StringLit.{StringLit}
use Rattle.err.specs.declared.ParseError.{ParseError}
use Rattle.raw.specs.Raw.{raw_body, raw_of}
use Rattle.string.specs.declared.Opening.{Opening}
use Rattle.string.specs.declared.Opening.TheVariants as opening

-- 01: string is kind 5, byte string 7, C string 8
abbrev pub string_kind : Allowed → ℕ
string_kind Text = 5
string_kind Bytes = 7
string_kind C = 8

-- where the body or the hashes start: after `"` or `r`, after `b"` or `br`, after `c"` or `cr`
abbrev pub offset_of : Allowed → ℕ
offset_of Text = 1
offset_of Bytes = 2
offset_of C = 2

-- `"` or `r`
-- 34 is `"`, 114 is `r`
unfoldable pub opening_by : ℕ → Opening
opening_by b = cond (eqb b 34) opening.Quoted (cond (eqb b 114) opening.Raw opening.Neither)

-- the kind's letter, if it has one, and `"` or `r`
-- 98 is `b`, 99 is `c`
abbrev pub opening_at : Allowed → List ℕ → Opening
opening_at Text s = opening_by (get_or s 0 0)
opening_at Bytes s = cond (eqb (get_or s 0 0) 98) (opening_by (get_or s 1 0)) opening.Neither
opening_at C s = cond (eqb (get_or s 0 0) 99) (opening_by (get_or s 1 0)) opening.Neither

-- another start is refused: of a string with 31 at its first byte, of a byte string with 33, of a C string with 34
abbrev pub start_fault : Allowed → Outcome
start_fault Text = refused 31 (between 0 1)
start_fault Bytes = refused 33 none
start_fault C = refused 34 none

-- what is read of a body, as one of the kind
abbrev pub of_quote : Allowed → Quote → Outcome
of_quote k (quote.quoted r start len) = accepted (string_kind k) start (decoded (record { hashes = r; len = len }))
of_quote k (quote.refused n p) = refused n p

-- document 01's numbers and values for each case
abbrev pub parsed_of : Allowed → Result StringLit ParseError → Outcome
parsed_of k q = of_quote k (quote_of q)

abbrev pub read_by : Allowed → Opening → List ℕ → Outcome
read_by k opening.Quoted s = of_quote k (string_of k (offset_of k) s)
read_by k opening.Raw s = of_quote k (raw_of k (offset_of k) s)
read_by k opening.Neither s = start_fault k

-- of any text: the empty text is refused with 1
unfoldable pub string_read : Allowed → List ℕ → Outcome
string_read k [] = refused 1 none
string_read k (b ∷ s) = read_by k (opening_at k (b ∷ s)) (b ∷ s)

-- ---- the value

-- how many hashes stand at an offset
-- 35 is `#`
abbrev pub hashes_at : List ℕ → ℕ → ℕ
hashes_at s at = run (only 35) (drop at s)

abbrev pub value_by : Allowed → Opening → List ℕ → List ℕ
value_by k opening.Quoted s = (body k (drop (offset_of k) s)).value
value_by k opening.Raw s = (raw_body k (hashes_at s (offset_of k)) (drop (offset_of k + hashes_at s (offset_of k) + 1) s)).value
value_by k opening.Neither s = []

-- the decoded bytes of an accepted text. 01: "A C value has no closing zero byte."
unfoldable pub string_value : Allowed → List ℕ → List ℕ
string_value k s = value_by k (opening_at k s) s
