-- What a call comes to in document 01's numbers: a refusal with its span, or a reading.
-- Assumes nothing.
use Rattle.std.specs.Prelude.{ℕ, ◌+◌, ◌≤◌, Bool}

-- 01: "a refusal carries a span that is either none or two offsets, the second excluded"
pub data Place : Type 0 where
  none : Place
  between : ℕ → ℕ → Place

-- a span counted from an offset before its text: litrs's `offset_span`
abbrev pub shift : ℕ → Place → Place
shift by none = none
shift by (between a e) = between (a + by) (e + by)

-- a span ends at most at m, and not before it starts
abbrev pub Ends : ℕ → Place → Type 0
Ends m none = Unit {0}
Ends m (between a e) = (a ≤ e) × (e ≤ m)

-- a refusal of a text of m bytes: one of litrs's numbers, and a span inside the text or none
abbrev pub RefusedIn : ℕ → ℕ → Place → Type 0
RefusedIn m n p = (1 ≤ n) × (n ≤ 41) × Ends m p

-- 01, Kept from litrs: "hashes (or not raw)"
pub data Rawness : Type 0 where
  not_raw : Rawness
  raw : ℕ → Rawness

-- 01: "base and both ends of the digits"
pub record IntegerValues : Type 0 where
  pub base : ℕ
  pub start : ℕ
  pub end : ℕ

-- 01: "the three float ends": of the integer part, of the fractional part and of the exponent
pub record FloatValues : Type 0 where
  pub whole : ℕ
  pub fraction : ℕ
  pub end : ℕ

-- 01: "hashes (or not raw) and value length"
pub record StringValues : Type 0 where
  pub hashes : Rawness
  pub len : ℕ

-- 01: "truth; or base and both ends of the digits; or the three float ends; or the value; or hashes (or not raw) and value length"
pub data Values : Type 0 where
  truth : Bool → Values
  digits : IntegerValues → Values
  ends : FloatValues → Values
  value : ℕ → Values
  decoded : StringValues → Values

-- A reading, in document 01's sense: "kind, start of suffix, and" its values; "It is accepted or refused", with a
-- refusal's number and span.
pub data Outcome : Type 0 where
  refused : ℕ → Place → Outcome
  accepted : ℕ → ℕ → Values → Outcome
