-- Demand 3: "Whichever two accepted texts are given settled forms, as 01 defines them, the forms are the same bytes exactly when the texts have the
-- same kind, the same exact value and the same suffix. Whichever accepted text is given a form, that form, read again, is accepted and has the
-- text's kind, exact value and suffix. A form is withheld from an accepted text exactly when the text is an integer above 2^64 − 1, or a float
-- whose reduced power of ten lies beyond 1,000,000 either way, or when its form would be longer than 65,536 bytes, or when the output buffer is
-- shorter than the form."
--
-- The contract of the settling call `settle::settle`: settled_of r ≡ settle_at text (length of out at entry), and out at exit ≡ settle_buffer text (out
-- at entry). That of `settle::measure`: settled_of r ≡ measure_at text. 01: "accepted" and "read again" speak of entry 0, "given" and "withheld" of the
-- settling call. Kind, exact value and suffix are those of `Means` (Demand2): the worth w and the suffix x; `SameWorth` is the same kind and the
-- same exact value; two floats are equal, as 01 says, "when one power of ten makes both whole and the two whole numbers agree".
-- Assumes nothing.
use Rattle.std.specs.Prelude.{ℕ, ◌<◌, ◌≡◌, ◌⊎◌, ◌↔◌, List, length}
use Rattle.err.specs.Outcome.{Place, none, Values, accepted}
use Rattle.buffer.specs.Buffer.{over}
use Rattle.scan.specs.Run.{All}
use Rattle.scan.specs.Sets.{except}
use Rattle.grammar.specs.Decimal.{Decimal}
use Rattle.grammar.specs.Meaning.{Worth, kind_of, SameWorth, Means}
use Rattle.grammar.specs.Meaning as worth
use Rattle.form.specs.Reduced.{TooFar}
use Rattle.form.specs.Form.{form_of}
use Rattle.literal.specs.Readings.{read_at}
use Rattle.settle.specs.Settled.{formed, refusal, measure_at, settle_at, settle_buffer}

-- entry 0 accepts the text, as one of kind k
abbrev pub Accepts : List ℕ → ℕ → Type 0
Accepts s k = (e : ℕ) × (vs : Values) × (read_at 0 s ≡ accepted k e vs)

-- the text s is given the form f of kind k: into a buffer that holds buf, settling returns kind and length, and leaves f and what was after it
pub record Given (s buf : List ℕ) (k : ℕ) (f : List ℕ) : Type 0 where
  pub answer : settle_at s (length buf) ≡ formed k (length f)
  pub bytes : settle_buffer s buf ≡ over f buf

-- a form is withheld from the text s, with a buffer of `room` bytes
abbrev pub Withheld : List ℕ → ℕ → Type 0
Withheld s room = (n : ℕ) × (p : Place) × (settle_at s room ≡ refusal n p)

-- "an integer above 2^64 − 1"
abbrev pub TooLarge : Worth → Type 0
TooLarge w = (n : ℕ) × (w ≡ worth.integer n) × (18446744073709551615 < n)

-- "a float whose reduced power of ten lies beyond 1,000,000 either way"
abbrev pub PowerTooFar : Worth → Type 0
PowerTooFar w = (d : Decimal) × (w ≡ worth.float d) × TooFar d

-- "its form would be longer than 65,536 bytes"
abbrev pub TooLong : Worth → List ℕ → Type 0
TooLong w x = 65536 < length (form_of w x)

-- "the output buffer is shorter than the form"
abbrev pub TooSmall : Worth → List ℕ → ℕ → Type 0
TooSmall w x room = room < length (form_of w x)

pub record Demand3 : Type 0 where
  -- "accepted text": whichever text is given a form is accepted, and has a meaning, of the form's kind
  pub accepted : (s buf f : List ℕ) (k : ℕ) → Given s buf k f → Accepts s k × ((w : Worth) × (x : List ℕ) × Means s w x × (k ≡ kind_of w))
  -- the first sentence
  pub same : (s t buf buf' f g x y : List ℕ) (k l : ℕ) (v w : Worth) → Given s buf k f → Given t buf' l g → Means s v x → Means t w y
      → (f ≡ g) ↔ (SameWorth v w × (x ≡ y))
  -- the second sentence
  pub read_again : (s buf f x : List ℕ) (k : ℕ) (w : Worth) → Given s buf k f → Means s w x
      → Accepts f k × ((w' : Worth) × Means f w' x × SameWorth w w')
  -- "as 01 defines them": where no form is withheld, the one that is given is `form_of`
  pub given_as_defined : (s buf x : List ℕ) (k : ℕ) (w : Worth) → Accepts s k → Means s w x → (Withheld s (length buf) → ⊥) → Given s buf k (form_of w x)
  -- the third sentence
  pub withheld_exactly : (s x : List ℕ) (k room : ℕ) (w : Worth) → Accepts s k → Means s w x
      → Withheld s room ↔ (TooLarge w ⊎ (PowerTooFar w ⊎ (TooLong w x ⊎ TooSmall w x room)))

-- which number withholds a form, in the order of 01: "then 45 or 46, 47, 48"
pub record InOrder : Type 0 where
  pub too_large : (s x : List ℕ) (k room : ℕ) (w : Worth) → Accepts s k → Means s w x → TooLarge w → settle_at s room ≡ refusal 45 none
  pub too_far : (s x : List ℕ) (k room : ℕ) (w : Worth) → Accepts s k → Means s w x → PowerTooFar w → settle_at s room ≡ refusal 46 none
  pub too_long : (s x : List ℕ) (k room : ℕ) (w : Worth) → Accepts s k → Means s w x → (TooLarge w → ⊥) → (PowerTooFar w → ⊥) → TooLong w x
      → settle_at s room ≡ refusal 47 none
  pub too_small : (s x : List ℕ) (k room : ℕ) (w : Worth) → Accepts s k → Means s w x → (TooLarge w → ⊥) → (PowerTooFar w → ⊥) → (TooLong w x → ⊥)
      → TooSmall w x room → settle_at s room ≡ refusal 48 none
  -- the measure says the same without a buffer: the form's kind and length, or what refuses the text, 45, 46 or 47
  pub measure : (s buf f : List ℕ) (k : ℕ) → Given s buf k f → measure_at s ≡ formed k (length f)
  pub no_measure : (s : List ℕ) (n : ℕ) (p : Place) → measure_at s ≡ refusal n p → (room : ℕ) → settle_at s room ≡ refusal n p

-- a form is its own form, and holds no LF (byte 10), so that it is one line
pub record FormLaws : Type 0 where
  pub own : (s buf f buf' : List ℕ) (k : ℕ) → Given s buf k f → (length buf' < length f → ⊥) → Given f buf' k f
  pub no_lf : (s buf f : List ℕ) (k : ℕ) → Given s buf k f → All (except 10) f
