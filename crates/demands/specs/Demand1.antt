-- How to read these pages. Texts, forms and buffers are lists of bytes; ℕ are the numbers from 0 on. Text after `--` is a comment.
--   f x y             the function f of x and y, in C f(x, y); `f (refused n p) = ..` is its value in that case. `data` lists all cases
--   (x : A) → P       for every x of A, P holds; so too {x : A} → P, where x need not be named at a use
--   (x : A) × P       there is an x of A with P
--   P × Q, P ⊎ Q, P → Q      P and Q; P or Q; if P, then Q
--   P ↔ Q, P → ⊥, a ≡ b      P exactly when Q; not P; a and b are equal
--   a ∷ s, []         the list s with a in front; the empty list. (a, b) is a pair, p.0 and p.1 are its parts, d.base is a record's field `base`
--   T b, cond b x y   the test b is true; x where the test b is true, else y. λ v. e is the function that takes v to e
--   length s, take n s, drop n s   how many bytes; the first n; all but the first n. let x = e in ..   x stands for e in what follows
--   part a z s, over v buf   the bytes from a to z; v, and after it what buf held there
--   A record holds when all its fields hold. `use` says in which crate and file the other names are defined; with `as`, under which name before a dot.
--   "Assumes nothing" means: uses no unproved axiom. `pub`, `abbrev`, `unfoldable` and `Type 0` may be skipped.
--
-- Demand 1: "Every call comes to an end for all bytes a club can type or send: with an answer, or with a refusal number and its span as
-- document 01 gives them; with the text it was handed untouched; and, if refused, with the output buffer exactly as it came."
--
-- The calls, with the contracts that are proved of their code. None has a `requires`: any code and any bytes may be handed in. r is what the function
-- returns; `outcome_of r`, `valued_of r`, `decoded_of r`, `settled_of r` and `keyed_of r` are the same in the documents' numbers, `counts_of r` and `keyed_counts r` the
-- counts of digits in it.
--   literal::read                 outcome_of r ≡ read_at code text, and counts_of r ≡ digit_counts text (read_at code text)
--   literal::value                valued_of r ≡ value_at code text
--   literal::decode               decoded_of r ≡ decode_at code text (length of out at entry), and out at exit ≡ decode_buffer code text (out at entry)
--   literal::integer_from_suffix  r ≡ integer_from_suffix name
--   literal::float_from_suffix    r ≡ float_from_suffix name
--   settle::measure               settled_of r ≡ measure_at text
--   settle::settle                settled_of r ≡ settle_at text (length of out at entry), and out at exit ≡ settle_buffer text (out at entry)
--   keyed::read_keyed             keyed_of r ≡ keyed_at text, and keyed_counts r ≡ digit_counts text (keyed_at text)
-- and the entries for C, which c_api_c exports with the same contracts, with out at exit as above:
--   c_api::keybasket_read          the eight numbers at exit ≡ reading_numbers (read_at entry text) (digit_counts text (read_at entry text))
--   c_api::keybasket_read_keyed    the eight numbers at exit ≡ reading_numbers (keyed_at text) (digit_counts text (keyed_at text))
--   c_api::keybasket_value         r ≡ return_value (λ v. 0) (value_at ty text), and value at exit ≡ value_after (value_at ty text) (value at entry)
--   c_api::keybasket_decode        r ≡ return_value (λ n. n) (decode_at entry text (length of out at entry))
--   c_api::keybasket_settle        r ≡ return_value (λ form. form.1) (settle_at text (length of out at entry))
--   c_api::keybasket_integer_from_suffix  r ≡ integer_from_suffix name
--   c_api::keybasket_float_from_suffix    r ≡ float_from_suffix name
-- "comes to an end": a contract is proved only of code that ends. "with the text it was handed untouched": the text is a shared slice, and the last clause of
-- each contract says that at exit it is what it was at entry. The rest is said below, of the definitions that the contracts cite.
-- Assumes nothing.
use Rattle.std.specs.Prelude.{ℕ, ◌+◌, ◌^◌, ◌≤◌, ◌<◌, ◌≡◌, ◌⊎◌, List, [], ◌∷◌, ◌++◌, length}
use Rattle.err.specs.Outcome.{Place, none, RefusedIn, Values, Outcome, refused, accepted}
use Rattle.err.specs.Answer.{Answer, returned, refusal}
use Rattle.buffer.specs.Buffer.{over}
use Rattle.utf8.specs.Utf8.{Utf8}
use Rattle.escape.specs.declared.Allowed.{Allowed}
use Rattle.grammar.specs.Notation.{bytes}
use Rattle.types.specs.Types.{integer_code, float_code}
use Rattle.types.specs.declared.IntegerType.{IntegerType}
use Rattle.types.specs.declared.IntegerType.TheVariants.{U8, U16, U32, U64, U128, Usize, I8, I16, I32, I64, I128, Isize}
use Rattle.types.specs.declared.FloatType.{FloatType}
use Rattle.types.specs.declared.FloatType.TheVariants.{F32, F64}
use Rattle.integer.specs.Integer.{base_at, main_part, integer_read}
use Rattle.integer_value.specs.Value.{number}
use Rattle.string.specs.String.{string_kind, string_read, string_value}
use Rattle.string.specs.Decode.{written}
use Rattle.literal.specs.Readings.{entry_read, read_at}
use Rattle.literal.specs.Inside.{NoLonger}
use Rattle.literal.specs.Values.{value_at}
use Rattle.literal.specs.Decodes.{decode_at, decode_buffer}
use Rattle.literal.specs.Suffixes.{integer_from_suffix, float_from_suffix}
use Rattle.settle.specs.Settled.{formed, measure_at, settle_at, form_at, settle_buffer}
use Rattle.digits.specs.Counts.{part_counts, digit_counts}
use Rattle.keyed.specs.Keyed.{keyed_at}
use Rattle.numbers.specs.Numbers.{reading_numbers, value_numbers, count_numbers, place_numbers}
use Rattle.c_api.specs.ReturnValue.{return_value, value_after}

-- a text that may be read: at most 65,536 bytes, and UTF-8
pub record Readable (s : List ℕ) : Type 0 where
  pub short : length s ≤ 65536
  pub utf8 : Utf8 s

-- a number is one of these
abbrev pub OneOf : List ℕ → ℕ → Type 0
OneOf [] n = ⊥
OneOf (a ∷ rest) n = (n ≡ a) ⊎ OneOf rest n

-- a refusal of a text of m bytes: one of litrs's numbers, 1 to 41, with no span or one inside the text; or one of those that the call adds to
-- them, without a span
abbrev pub Numbered : ℕ → List ℕ → ℕ → Place → Type 0
Numbered m added n p = RefusedIn m n p ⊎ (OneOf added n × (p ≡ none))

-- the answers of reading: a reading of one of the eight kinds, with its suffix inside the text and a decoded value no longer than the text; or
-- a refusal
abbrev pub Answered : ℕ → Outcome → Type 0
Answered m (accepted k e vs) = (1 ≤ k) × (k ≤ 8) × (e ≤ m) × NoLonger m vs
Answered m (refused n p) = Numbered m (42 ∷ 43 ∷ 44 ∷ []) n p

-- reading returns an answer for every code and every text, and is refused in exactly these cases, tested in this order. (Which span a refusal has: Demand2.)
pub record ReadAnswers : Type 0 where
  pub answered : (code : ℕ) (s : List ℕ) → Answered (length s) (read_at code s)
  pub bad_code : (code : ℕ) (s : List ℕ) → 8 < code → read_at code s ≡ refused 42 none
  pub too_long : (code : ℕ) (s : List ℕ) → code ≤ 8 → 65536 < length s → read_at code s ≡ refused 43 none
  pub not_utf8 : (code : ℕ) (s : List ℕ) → code ≤ 8 → length s ≤ 65536 → (Utf8 s → ⊥) → read_at code s ≡ refused 44 none
  pub own : (code : ℕ) (s : List ℕ) → code ≤ 8 → Readable s → read_at code s ≡ entry_read code s
  -- nothing else is refused with 42, 43 or 44: an entry itself refuses with one of litrs's numbers. (The value call is refused as entry 2 is,
  -- decoding as 5, 7 and 8 are.)
  pub own_number : (code : ℕ) (s : List ℕ) {n : ℕ} {p : Place} → code ≤ 8 → entry_read code s ≡ refused n p → RefusedIn (length s) n p

-- the answers of the keyed entry: as those of reading, without 42, and with 53
abbrev pub KeyedAnswered : ℕ → Outcome → Type 0
KeyedAnswered m (accepted k e vs) = Answered m (accepted k e vs)
KeyedAnswered m (refused n p) = Numbered m (43 ∷ 44 ∷ 53 ∷ []) n p

-- the keyed entry returns an answer for every text, and is refused as reading by entry 0 is. (When an accepted text is refused: Keyed.)
pub record KeyedAnswers : Type 0 where
  pub answered : (s : List ℕ) → KeyedAnswered (length s) (keyed_at s)
  pub own : (s : List ℕ) {n : ℕ} {p : Place} → read_at 0 s ≡ refused n p → keyed_at s ≡ refused n p

-- the answers of the value call: a number, or a refusal
abbrev pub ValueAnswered : ℕ → Answer ℕ → Type 0
ValueAnswered m (returned v) = v < 2 ^ 64
ValueAnswered m (refusal n p) = Numbered m (42 ∷ 43 ∷ 44 ∷ 45 ∷ []) n p

-- 01: "type codes 1 to 4 and 7 to 10": the code of each type that has values, and the type's largest value
pub data ValueType : ℕ → ℕ → Type 0 where
  u8 : ValueType 1 0xFF
  u16 : ValueType 2 0xFFFF
  u32 : ValueType 3 0xFFFFFFFF
  u64 : ValueType 4 0xFFFFFFFFFFFFFFFF
  i8 : ValueType 7 0x7F
  i16 : ValueType 8 0x7FFF
  i32 : ValueType 9 0x7FFFFFFF
  i64 : ValueType 10 0x7FFFFFFFFFFFFFFF

-- the value call, in the same order: every other code is refused with 42, and a number with 45 exactly where it is above the type's largest value
pub record ValueAnswers : Type 0 where
  pub answered : (code : ℕ) (s : List ℕ) → ValueAnswered (length s) (value_at code s)
  pub bad_code : (code : ℕ) (s : List ℕ) → ((largest : ℕ) → ValueType code largest → ⊥) → value_at code s ≡ refusal 42 none
  pub too_long : (code largest : ℕ) (s : List ℕ) → ValueType code largest → 65536 < length s
      → value_at code s ≡ refusal 43 none
  pub not_utf8 : (code largest : ℕ) (s : List ℕ) → ValueType code largest → length s ≤ 65536 → (Utf8 s → ⊥)
      → value_at code s ≡ refusal 44 none
  pub own : (code largest : ℕ) (s : List ℕ) {n : ℕ} {p : Place} → ValueType code largest → Readable s
      → integer_read s ≡ refused n p → value_at code s ≡ refusal n p
  pub no_value : (code largest : ℕ) (s : List ℕ) {k e : ℕ} {vs : Values} → ValueType code largest → Readable s
      → integer_read s ≡ accepted k e vs → largest < number (base_at s) (main_part s) → value_at code s ≡ refusal 45 none
  pub fits : (code largest : ℕ) (s : List ℕ) {k e : ℕ} {vs : Values} → ValueType code largest → Readable s
      → integer_read s ≡ accepted k e vs → number (base_at s) (main_part s) ≤ largest → value_at code s ≡ returned (number (base_at s) (main_part s))

-- a code with decoded bytes: 5, 7 or 8
abbrev pub Decodes : ℕ → Type 0
Decodes code = (k : Allowed) × (code ≡ string_kind k)

-- the answers of decoding into a buffer of `room` bytes: a count that fits, is at most the text's length, and at most 65,536; or a refusal.
-- (`written n` is `returned n`.)
abbrev pub DecodeAnswered : ℕ → ℕ → Answer ℕ → Type 0
DecodeAnswered m room (returned n) = (n ≤ room) × (n ≤ m) × (n ≤ 65536)
DecodeAnswered m room (refusal n p) = Numbered m (42 ∷ 43 ∷ 44 ∷ 48 ∷ []) n p

-- decoding, in the same order: it is refused with 48 exactly where the buffer is shorter than the value, after everything that a reading can refuse
pub record DecodeAnswers : Type 0 where
  pub answered : (code room : ℕ) (s : List ℕ) → DecodeAnswered (length s) room (decode_at code s room)
  pub bad_code : (code room : ℕ) (s : List ℕ) → (Decodes code → ⊥) → decode_at code s room ≡ refusal 42 none
  pub too_long : (k : Allowed) (room : ℕ) (s : List ℕ) → 65536 < length s → decode_at (string_kind k) s room ≡ refusal 43 none
  pub not_utf8 : (k : Allowed) (room : ℕ) (s : List ℕ) → length s ≤ 65536 → (Utf8 s → ⊥) → decode_at (string_kind k) s room ≡ refusal 44 none
  pub own : (k : Allowed) (room : ℕ) (s : List ℕ) {n : ℕ} {p : Place} → Readable s → string_read k s ≡ refused n p
      → decode_at (string_kind k) s room ≡ refusal n p
  pub too_small : (k : Allowed) (room : ℕ) (s : List ℕ) {kind e : ℕ} {vs : Values} → Readable s → string_read k s ≡ accepted kind e vs
      → room < length (string_value k s) → decode_at (string_kind k) s room ≡ refusal 48 none
  pub decoded : (k : Allowed) (room : ℕ) (s : List ℕ) {kind e : ℕ} {vs : Values} → Readable s → string_read k s ≡ accepted kind e vs
      → length (string_value k s) ≤ room → decode_at (string_kind k) s room ≡ written (length (string_value k s))
  -- "if refused, with the output buffer exactly as it came"
  pub untouched : (code : ℕ) (s buf : List ℕ) {n : ℕ} {p : Place} → decode_at code s (length buf) ≡ refusal n p → decode_buffer code s buf ≡ buf
  -- else it holds the value, and after it what it held there
  pub filled : (k : Allowed) (s buf : List ℕ) {n : ℕ} → decode_at (string_kind k) s (length buf) ≡ written n → decode_buffer (string_kind k) s buf ≡ over (string_value k s) buf

-- 01, Type codes: the names
abbrev pub integer_name : IntegerType → List ℕ
integer_name U8 = bytes "u8"
integer_name U16 = bytes "u16"
integer_name U32 = bytes "u32"
integer_name U64 = bytes "u64"
integer_name U128 = bytes "u128"
integer_name Usize = bytes "usize"
integer_name I8 = bytes "i8"
integer_name I16 = bytes "i16"
integer_name I32 = bytes "i32"
integer_name I64 = bytes "i64"
integer_name I128 = bytes "i128"
integer_name Isize = bytes "isize"

abbrev pub float_name : FloatType → List ℕ
float_name F32 = bytes "f32"
float_name F64 = bytes "f64"

-- both from_suffix return the code of the type that a name stands for; 01: "each answers 0 to every other name, of any bytes and length"
pub record SuffixAnswers : Type 0 where
  pub integer : (t : IntegerType) → integer_from_suffix (integer_name t) ≡ integer_code t
  pub no_integer : (name : List ℕ) → ((t : IntegerType) → name ≡ integer_name t → ⊥) → integer_from_suffix name ≡ 0
  pub float : (t : FloatType) → float_from_suffix (float_name t) ≡ float_code t
  pub no_float : (name : List ℕ) → ((t : FloatType) → name ≡ float_name t → ⊥) → float_from_suffix name ≡ 0

-- the answers of settling, and of measuring where `room` is 65,536: a kind and a length that fits, or a refusal; never
-- with 42: they take no code. (`formed k n` is `returned (k, n)`.)
abbrev pub SettleAnswered : ℕ → ℕ → Answer (ℕ × ℕ) → Type 0
SettleAnswered m room (returned (k, n)) = (1 ≤ k) × (k ≤ 8) × (n ≤ room) × (n ≤ 65536)
SettleAnswered m room (refusal n p) = Numbered m (43 ∷ 44 ∷ 45 ∷ 46 ∷ 47 ∷ 48 ∷ []) n p

-- settling returns an answer for every text, and is refused as reading by entry 0 is. (When an accepted text is refused: Demand3.)
pub record SettleAnswers : Type 0 where
  pub answered : (room : ℕ) (s : List ℕ) → SettleAnswered (length s) room (settle_at s room)
  pub own : (room : ℕ) (s : List ℕ) {n : ℕ} {p : Place} → read_at 0 s ≡ refused n p → settle_at s room ≡ refusal n p
  -- "if refused, with the output buffer exactly as it came"
  pub untouched : (s buf : List ℕ) {n : ℕ} {p : Place} → settle_at s (length buf) ≡ refusal n p → settle_buffer s buf ≡ buf
  -- else it holds the form, and after it what it held there
  pub filled : (s buf : List ℕ) {k n : ℕ} → settle_at s (length buf) ≡ formed k n → (settle_buffer s buf ≡ over (form_at s) buf) × (n ≡ length (form_at s))
  -- the measure of a form is its settling into a buffer that is long enough for every form
  pub measured : (s : List ℕ) → measure_at s ≡ settle_at s 65536

-- the span of a refusal: with one of litrs's numbers, reading the text by the entry code is refused with that number and that span; from 42 on
-- there is none
abbrev pub SpanBy : ℕ → List ℕ → ℕ → Place → Type 0
SpanBy code s n p = (n ≤ 41 → read_at code s ≡ refused n p) × (42 ≤ n → p ≡ none)

-- include/keybasket.h: "The span of 1 to 41 is what keybasket_read writes": for a value by entry 2, for decoding by the same entry, for settling
-- and the keyed entry by entry 0. "From 42 on there is no span".
pub record SpanAnswers : Type 0 where
  pub value : (code : ℕ) (s : List ℕ) {n : ℕ} {p : Place} → value_at code s ≡ refusal n p → SpanBy 2 s n p
  pub decode : (code room : ℕ) (s : List ℕ) {n : ℕ} {p : Place} → decode_at code s room ≡ refusal n p → SpanBy code s n p
  pub settle : (room : ℕ) (s : List ℕ) {n : ℕ} {p : Place} → settle_at s room ≡ refusal n p → SpanBy 0 s n p
  pub read : (code : ℕ) (s : List ℕ) {n : ℕ} {p : Place} → read_at code s ≡ refused n p → 42 ≤ n → p ≡ none
  pub keyed : (s : List ℕ) {n : ℕ} {p : Place} → keyed_at s ≡ refused n p → SpanBy 0 s n p

-- the entries for C say the same in numbers. A reading's first number is its kind, or 0 where it is refused; a length, which is at most 65,536
-- (`DecodeAnswers`, `SettleAnswers`), stands for itself, a refusal is 100,000 plus its number; a value that is refused is left as it was. `value_numbers` and `place_numbers` are the
-- columns [2] to [4] of the table in include/keybasket.h, `count_numbers` the columns [5] to [7]
pub record NumberAnswers : Type 0 where
  pub reading : (code : ℕ) (s : List ℕ) {k e : ℕ} {vs : Values} → read_at code s ≡ accepted k e vs
      → reading_numbers (read_at code s) (digit_counts s (read_at code s)) ≡ k ∷ e ∷ (value_numbers vs ++ count_numbers (part_counts s vs))
  pub no_reading : (code : ℕ) (s : List ℕ) {n : ℕ} {p : Place} → read_at code s ≡ refused n p
      → reading_numbers (read_at code s) (digit_counts s (read_at code s)) ≡ 0 ∷ n ∷ (place_numbers p ++ (0 ∷ 0 ∷ 0 ∷ []))
  pub keyed : (s : List ℕ) {k e : ℕ} {vs : Values} → keyed_at s ≡ accepted k e vs
      → reading_numbers (keyed_at s) (digit_counts s (keyed_at s)) ≡ k ∷ e ∷ (value_numbers vs ++ count_numbers (part_counts s vs))
  pub no_keyed : (s : List ℕ) {n : ℕ} {p : Place} → keyed_at s ≡ refused n p
      → reading_numbers (keyed_at s) (digit_counts s (keyed_at s)) ≡ 0 ∷ n ∷ (place_numbers p ++ (0 ∷ 0 ∷ 0 ∷ []))
  pub value : (code : ℕ) (s : List ℕ) {v : ℕ} → value_at code s ≡ returned v
      → (return_value (λ v. 0) (value_at code s) ≡ 0) × ((before : ℕ) → value_after (value_at code s) before ≡ v)
  pub no_value : (code : ℕ) (s : List ℕ) {n : ℕ} {p : Place} → value_at code s ≡ refusal n p
      → (return_value (λ v. 0) (value_at code s) ≡ 100000 + n) × ((before : ℕ) → value_after (value_at code s) before ≡ before)
  pub bytes : (code room : ℕ) (s : List ℕ) {n : ℕ} → decode_at code s room ≡ written n → return_value (λ n. n) (decode_at code s room) ≡ n
  pub no_bytes : (code room : ℕ) (s : List ℕ) {n : ℕ} {p : Place} → decode_at code s room ≡ refusal n p
      → return_value (λ n. n) (decode_at code s room) ≡ 100000 + n
  pub form : (room : ℕ) (s : List ℕ) {k n : ℕ} → settle_at s room ≡ formed k n → return_value (λ form. form.1) (settle_at s room) ≡ n
  pub no_form : (room : ℕ) (s : List ℕ) {n : ℕ} {p : Place} → settle_at s room ≡ refusal n p → return_value (λ form. form.1) (settle_at s room) ≡ 100000 + n

pub record Demand1 : Type 0 where
  pub read : ReadAnswers
  pub keyed : KeyedAnswers
  pub value : ValueAnswers
  pub decode : DecodeAnswers
  pub suffixes : SuffixAnswers
  pub settle : SettleAnswers
  pub spans : SpanAnswers
  pub numbers : NumberAnswers
