-- Demand 2: "Kind, part positions, values, decoded bytes and suffix, and for refusals the error kind and span, are what is compared: they equal
-- those of the Rust for every UTF-8 text of up to 65,536 bytes. Which texts are accepted also matches a definition written from the chapter
-- Tokens of The Rust Reference, with the one departure that 01 names, and what they are worth matches one from its chapter Literal expressions,
-- before any suffix is judged or number rounded."
--
-- Part one, the definitions that were transcribed from the Rust, file by file. The contracts of the calls (they stand in Demand1) say that the calls
-- return what `read_at`, `value_at`, `decode_at` and `decode_buffer` say; here, for every such text, that is what the transcribed definitions say. That these
-- say what the Rust does is not proved: `tests/compare` holds the calls to the Rust itself.
-- Assumes nothing.
use Rattle.std.specs.Prelude.{ℕ, ◌+◌, ◌≤◌, ◌≡◌, ◌⊎◌, ◌↔◌, List, length, drop}
use Rattle.err.specs.Outcome.{IntegerValues, FloatValues, StringValues, Values, accepted, truth, digits, ends, value, decoded}
use Rattle.buffer.specs.Buffer.{over}
use Rattle.boolean.specs.Bool.{bool_read}
use Rattle.escape.specs.declared.Allowed.{Allowed}
use Rattle.escape.specs.declared.Allowed.TheVariants.{Text, Bytes, C}
use Rattle.integer.specs.Integer.{integer_read}
use Rattle.integer_value.specs.Value.{bounded, integer_lit_value}
use Rattle.float.specs.Float.{float_read}
use Rattle.character.specs.Single.{char_read, byte_read}
use Rattle.string.specs.String.{string_kind, string_read}
use Rattle.string.specs.Decode.{written, string_decoded, buffer_after}
use Rattle.literal.specs.Readings.{any_read, read_at}
use Rattle.literal.specs.Values.{value_at}
use Rattle.literal.specs.Decodes.{decode_at, decode_buffer}
use Rattle.literal.specs.Inside.{offsets, OnBoundaries, Rising}
use Rattle.grammar.specs.Decimal.{Decimal}
use Rattle.grammar.specs.Values.{radix_of, number_in, powered}
use Rattle.grammar.specs.Meaning.{Worth, kind_of, Means}
use Rattle.grammar.specs.Meaning as worth
use Rattle.scan.specs.Part.{part}
use Rattle.demands.specs.Demand1.{Readable, ValueType}

-- of one text: what reading, value and decoding return is what the definitions transcribed from the Rust say. A reading holds kind, part positions,
-- values and the start of the suffix; a refusal holds the error kind's number and the span. (Both `from_suffix` take names, not texts: Demand1,
-- SuffixAnswers.)
pub record AsTranscribed (s : List ℕ) : Type 0 where
  -- from litrs's `parse`
  pub any : read_at 0 s ≡ any_read s
  -- from the `parse` of `BoolLit`, `IntegerLit`, `FloatLit`, `CharLit`, `StringLit`, `ByteLit`, `ByteStringLit`, `CStringLit`
  pub bool : read_at 1 s ≡ bool_read s
  pub integer : read_at 2 s ≡ integer_read s
  pub float : read_at 3 s ≡ float_read s
  pub char : read_at 4 s ≡ char_read s
  pub string : read_at 5 s ≡ string_read Text s
  pub byte : read_at 6 s ≡ byte_read s
  pub byte_string : read_at 7 s ≡ string_read Bytes s
  pub c_string : read_at 8 s ≡ string_read C s
  -- from `IntegerLit::value`, at a type whose largest value is `largest`
  pub value : (code largest : ℕ) → ValueType code largest → value_at code s ≡ integer_lit_value largest s
  -- from the `value` of `StringLit`, `ByteStringLit` and `CStringLit`, written into a buffer that has `room` bytes or holds buf
  pub decoded : (k : Allowed) (room : ℕ) → decode_at (string_kind k) s room ≡ string_decoded k s room
  pub buffer : (k : Allowed) (buf : List ℕ) → decode_buffer (string_kind k) s buf ≡ buffer_after k s buf

-- what holds of every accepted reading by an entry
pub record SoundReading (s : List ℕ) (code k e : ℕ) (vs : Values) : Type 0 where
  -- its text is UTF-8 of at most 65,536 bytes
  pub readable : Readable s
  -- its kind is one of 1 to 8, and the entry's own where the entry is not 0
  pub kind : (1 ≤ k) × (k ≤ 8)
  pub entry : 1 ≤ code → k ≡ code
  -- entry 0 and the kind's own entry give the same reading
  pub any : read_at 0 s ≡ accepted k e vs
  pub own : read_at k s ≡ accepted k e vs
  -- its parts and its suffix follow one another inside the text, on character boundaries
  pub boundaries : OnBoundaries s (offsets e vs)
  pub rising : Rising (offsets e vs)

pub record Demand2Transcribed : Type 0 where
  pub answers : (s : List ℕ) → Readable s → AsTranscribed s
  pub readings : (s : List ℕ) (code k e : ℕ) (vs : Values) → read_at code s ≡ accepted k e vs → SoundReading s code k e vs

-- Part two, the Reference's. `Means s w x` (crate grammar) says that by the two chapters the text s has the worth w and the suffix x. A worth is a kind
-- with its exact value: `worth.integer 31`. The one departure that 01 names stands in grammar/specs/Suffixes, at XID-START and XID-CONTINUE.

-- entry 0 takes every kind, each other entry its own
abbrev pub Takes : ℕ → ℕ → Type 0
Takes code k = (code ≡ 0) ⊎ (code ≡ k)

-- an integer's reading: its base and its digits give the number n, and the value call returns it at each type, or is refused with 45 where it is above
-- the largest (`bounded`)
pub record GivesInteger (s : List ℕ) (vs : Values) (n : ℕ) : Type 0 where
  pub marks : IntegerValues
  pub values : vs ≡ digits marks
  pub radix : marks.base ≡ radix_of s
  pub number : number_in marks.base (part marks.start marks.end s) ≡ n
  pub at_each_type : (code largest : ℕ) → ValueType code largest → value_at code s ≡ bounded largest n

-- a float's reading: the digits up to the first end, those after a period up to the second, and the exponent after an `e` up to the third.
-- `powered w f e` is the number w.f times ten to the power e
pub record GivesFloat (s : List ℕ) (vs : Values) (d : Decimal) : Type 0 where
  pub marks : FloatValues
  pub values : vs ≡ ends marks
  pub number : powered (part 0 marks.whole s) (part (marks.whole + 1) marks.fraction s) (part (marks.fraction + 1) marks.end s) ≡ d

-- a string's reading holds the value's length, and decoding by its code gives the value's bytes
pub record GivesBytes (code : ℕ) (s : List ℕ) (vs : Values) (v : List ℕ) : Type 0 where
  pub marks : StringValues
  pub values : vs ≡ decoded marks
  pub len : marks.len ≡ length v
  pub count : (buf : List ℕ) → length v ≤ length buf → decode_at code s (length buf) ≡ written (length v)
  pub bytes : (buf : List ℕ) → length v ≤ length buf → decode_buffer code s buf ≡ over v buf

-- what the calls give for a text, whose reading has the values vs, is the worth
abbrev pub Gives : List ℕ → Values → Worth → Type 0
Gives s vs (worth.bool b) = vs ≡ truth b
Gives s vs (worth.integer n) = GivesInteger s vs n
Gives s vs (worth.float d) = GivesFloat s vs d
Gives s vs (worth.char v) = vs ≡ value v
Gives s vs (worth.string v) = GivesBytes 5 s vs v
Gives s vs (worth.byte v) = vs ≡ value v
Gives s vs (worth.byte_string v) = GivesBytes 7 s vs v
Gives s vs (worth.c_string v) = GivesBytes 8 s vs v

pub record Demand2Reference : Type 0 where
  -- an entry accepts a text exactly when the text has a meaning, of a kind that the entry takes
  pub accepted_exactly : (code : ℕ) (s : List ℕ) → code ≤ 8 → Readable s
      → ((k e : ℕ) × (vs : Values) × (read_at code s ≡ accepted k e vs)) ↔ ((w : Worth) × (x : List ℕ) × Means s w x × Takes code (kind_of w))
  -- then kind and suffix are the meaning's, and what the calls give is its worth
  pub worth : (code k e : ℕ) (s x : List ℕ) (vs : Values) (w : Worth) → read_at code s ≡ accepted k e vs → Means s w x
      → (k ≡ kind_of w) × (drop e s ≡ x) × Gives s vs w
  -- a text has at most one meaning
  pub unambiguous : (s x y : List ℕ) (v w : Worth) → Means s v x → Means s w y → (v ≡ w) × (x ≡ y)

pub record Demand2 : Type 0 where
  pub transcribed : Demand2Transcribed
  pub reference : Demand2Reference
