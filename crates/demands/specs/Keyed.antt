-- Request d of document 02: "The digit scan shall say how many bytes were digits and not only where they end, and integer, fraction and exponent readings hand
-- those counts up. A keyed entry beside entry 0 uses them and reads as entry 0 does otherwise. It answers 53 for an accepted integer with over 40
-- digits, or an accepted float with over 40 in whole and fractional part together."
--
-- The contracts. The digit scans, `parse::digit_run` and `digits::end_dec_digits`, return where digits of a base and `_` end and how many of these bytes are
-- digits (`DigitScan`, crate parse). A reading holds the counts of its parts: counts_of r ≡ digit_counts text (read_at code text). They stand beside what litrs
-- itself returns, outcome_of r, which has not changed. The keyed entry returns keyed_at text (Demand1 lists the calls).
-- Assumes nothing.
use Rattle.std.specs.Prelude.{ℕ, ◌+◌, ◌≤◌, ◌<◌, ◌≡◌, cond, ◌⊎◌, ◌↔◌, List, [], ◌∷◌, ◌++◌, ltb, length, take, drop}
use Rattle.err.specs.Outcome.{Place, none, IntegerValues, FloatValues, Values, refused, accepted, digits, ends}
use Rattle.err.specs.Counts.{no_counts, integer_count, float_counts}
use Rattle.scan.specs.Run.{All, Stops}
use Rattle.scan.specs.Part.{part}
use Rattle.parse.specs.Sets.{digit}
use Rattle.parse.specs.Digits.{digit_count, DigitScan}
use Rattle.parse.specs.declared.DigitRun.{DigitRun}
use Rattle.digits.specs.Counts.{digit_counts}
use Rattle.literal.specs.Readings.{read_at}
use Rattle.grammar.specs.Values.{plain}
use Rattle.keyed.specs.Keyed.{keyed_at}
use Rattle.numbers.specs.Numbers.{reading_numbers, value_numbers}
use Rattle.demands.specs.ByteClasses.{listed}

-- "how many bytes were digits": `digit_count base s` counts the bytes of s whose class in 01's list (`listed`) is below the base. `_` has the class 16, the
-- period and a sign 19; `e` is 14, so it is no decimal digit. `plain` takes `_` out of a text.
pub record DigitCounts : Type 0 where
  pub no_byte : (base : ℕ) → digit_count base [] ≡ 0
  pub one_more : (base b : ℕ) (s : List ℕ) → b < 256 → digit_count base (b ∷ s) ≡ cond (ltb (listed b) base) 1 0 + digit_count base s
  -- "The digit scan shall say how many bytes were digits and not only where they end": those before the end are digits and `_`, and the byte there is
  -- neither
  pub scan : (base : ℕ) (s : List ℕ) (r : DigitRun) → base ≤ 16 → DigitScan base s r
      → All (digit base) (take r.end s) × Stops (digit base) (drop r.end s) × (r.digits ≡ length (plain (take r.end s)))

-- "integer, fraction and exponent readings hand those counts up"
pub record ReadingCounts : Type 0 where
  -- an integer hands up the count of its main part, whose bytes are digits of the base and `_`
  pub integer : (code : ℕ) (s : List ℕ) {e : ℕ} {d : IntegerValues} → read_at code s ≡ accepted 2 e (digits d)
      → let main = part d.start d.end s in
      (digit_counts s (read_at code s) ≡ integer_count (digit_count d.base main)) × (digit_count d.base main ≡ length (plain main))
  -- a float those of its whole part, its fraction and its exponent
  pub float : (code : ℕ) (s : List ℕ) {e : ℕ} {z : FloatValues} → read_at code s ≡ accepted 3 e (ends z)
      → digit_counts s (read_at code s)
      ≡ float_counts (record {
        whole = digit_count 10 (part 0 z.whole s);
        fraction = digit_count 10 (part z.whole z.fraction s);
        exponent = digit_count 10 (part z.fraction z.end s);
      })
  -- a reading of another kind has none
  pub others : (code : ℕ) (s : List ℕ) {k e : ℕ} {vs : Values} → read_at code s ≡ accepted k e vs → (k ≡ 2 → ⊥) → (k ≡ 3 → ⊥) → digit_counts s (read_at code s) ≡ no_counts

-- what `keybasket_read` writes: kind, start of suffix and six values, zeros where there are none (a refusal: Demand1, `no_reading`)
pub record EightNumbers : Type 0 where
  pub integer : (code : ℕ) (s : List ℕ) {e : ℕ} {d : IntegerValues} → read_at code s ≡ accepted 2 e (digits d)
      → reading_numbers (read_at code s) (digit_counts s (read_at code s))
      ≡ 2 ∷ e ∷ d.base ∷ d.start ∷ d.end ∷ digit_count d.base (part d.start d.end s) ∷ 0 ∷ 0 ∷ []
  pub float : (code : ℕ) (s : List ℕ) {e : ℕ} {z : FloatValues} → read_at code s ≡ accepted 3 e (ends z)
      → reading_numbers (read_at code s) (digit_counts s (read_at code s))
      ≡ 3 ∷ e ∷ z.whole ∷ z.fraction ∷ z.end
      ∷ digit_count 10 (part 0 z.whole s) ∷ digit_count 10 (part z.whole z.fraction s) ∷ digit_count 10 (part z.fraction z.end s) ∷ []
  pub others : (code : ℕ) (s : List ℕ) {k e : ℕ} {vs : Values} → read_at code s ≡ accepted k e vs → (k ≡ 2 → ⊥) → (k ≡ 3 → ⊥)
      → reading_numbers (read_at code s) (digit_counts s (read_at code s)) ≡ k ∷ e ∷ (value_numbers vs ++ (0 ∷ 0 ∷ 0 ∷ []))

-- the text is an integer that entry 0 accepts, with n digits
pub record IntegerWith (n : ℕ) (s : List ℕ) : Type 0 where
  pub suffix : ℕ
  pub marks : IntegerValues
  pub is : read_at 0 s ≡ accepted 2 suffix (digits marks)
  pub count : digit_count marks.base (part marks.start marks.end s) ≡ n

-- the text is a float that entry 0 accepts, with n digits in whole and fractional part together
pub record FloatWith (n : ℕ) (s : List ℕ) : Type 0 where
  pub suffix : ℕ
  pub marks : FloatValues
  pub is : read_at 0 s ≡ accepted 3 suffix (ends marks)
  pub count : digit_count 10 (part 0 marks.whole s) + digit_count 10 (part marks.whole marks.fraction s) ≡ n

abbrev pub TooManyDigits : List ℕ → Type 0
TooManyDigits s = (n : ℕ) × (40 < n) × (IntegerWith n s ⊎ FloatWith n s)

-- two texts that entry 0 accepts with kind k, whose parts before the suffix differ in `_` only
pub record AlikeButUnderscores (k : ℕ) (s t : List ℕ) : Type 0 where
  pub suffix_s : ℕ
  pub values_s : Values
  pub suffix_t : ℕ
  pub values_t : Values
  pub is_s : read_at 0 s ≡ accepted k suffix_s values_s
  pub is_t : read_at 0 t ≡ accepted k suffix_t values_t
  pub same : plain (take suffix_s s) ≡ plain (take suffix_t t)

pub record KeyedEntry : Type 0 where
  -- "It answers 53 for an accepted integer with over 40 digits, or an accepted float with over 40 in whole and fractional part together": exactly for these,
  -- and without a span
  pub exactly : (s : List ℕ) → (keyed_at s ≡ refused 53 none) ↔ TooManyDigits s
  pub no_span : (s : List ℕ) {p : Place} → keyed_at s ≡ refused 53 p → p ≡ none
  -- "and reads as entry 0 does otherwise"
  pub otherwise : (s : List ℕ) → (TooManyDigits s → ⊥) → keyed_at s ≡ read_at 0 s
  -- of two accepted integers, or two accepted floats, that differ in `_` only, both or neither are refused
  pub underscores : (k : ℕ) (s t : List ℕ) → (k ≡ 2) ⊎ (k ≡ 3) → AlikeButUnderscores k s t → (keyed_at s ≡ refused 53 none) ↔ (keyed_at t ≡ refused 53 none)

pub record Keyed : Type 0 where
  pub digits : DigitCounts
  pub counts : ReadingCounts
  pub numbers : EightNumbers
  pub entry : KeyedEntry
