-- The parts of a float literal (01, Floats): integer part, fraction with its period, exponent with its `e`, suffix; each at its longest.
-- Assumes nothing.
use Rattle.std.specs.Prelude.{ℕ, ◌+◌, ◌<◌, ◌≡◌, true, false, List, [], ◌∷◌, ◌++◌, length, get_or}
use Rattle.err.specs.Outcome.{Values, ends}
use Rattle.scan.specs.Run.{run, All, Stops}
use Rattle.scan.specs.Sets.{only}
use Rattle.parse.specs.Sets.{digit, dec_digit, starts_e}
use Rattle.suffix.specs.Suffix.{suffix_fault}

-- none, or a period with digits and `_` after it, no `_` first
-- 46 is `.`, 95 is `_`
pub data Fraction (frac : List ℕ) : Type 0 where
  no_fraction : frac ≡ [] → Fraction frac
  fraction : (ds : List ℕ) → frac ≡ 46 ∷ ds → All (digit 10) ds → Stops (only 95) ds → Fraction frac

-- 43 is `+`, 45 is `-`
pub data Sign : List ℕ → Type 0 where
  unsigned : Sign []
  plus : Sign (43 ∷ [])
  minus : Sign (45 ∷ [])

-- none, or `e` or `E`, a sign or none, and digits and `_` with at least one digit
-- 95 is `_`
pub data Exponent (ex : List ℕ) : Type 0 where
  no_exponent : ex ≡ [] → Exponent ex
  exponent : (letter : ℕ) (sign ds : List ℕ) → ex ≡ letter ∷ (sign ++ ds) → starts_e ex 0 ≡ true → Sign sign
      → All (digit 10) ds → run (only 95) ds < length ds → Exponent ex

-- 46 is `.`
pub record FloatParts (whole frac ex suf : List ℕ) : Type 0 where
  -- digits and `_`, a digit first
  pub digits : All (digit 10) whole
  pub first : dec_digit (get_or whole 0 0) ≡ true
  pub fraction : Fraction frac
  pub exponent : Exponent ex
  pub suffix : suffix_fault suf ≡ 0
  -- without fraction and exponent it is an integer's
  pub some : frac ≡ [] → ex ≡ [] → ⊥
  -- "a bare period ends the text"
  pub bare : frac ≡ 46 ∷ [] → (ex ≡ []) × (suf ≡ [])
  -- no part can be longer: the suffix starts with no digit and no `_`, and with `e` or `E` only after an exponent. After the integer part
  -- stands a period or an `e` (`whole_longest` in proofs/Complete), and after it no period where there is no fraction (`no_period`)
  pub longest : Stops (digit 10) suf
  pub no_e : ex ≡ [] → starts_e suf 0 ≡ false

-- a reading of kind k with the suffix at e: the parts tile the text, and the values are where they end
pub record Tiled (s : List ℕ) (k e : ℕ) (v : Values) : Type 0 where
  pub whole : List ℕ
  pub frac : List ℕ
  pub ex : List ℕ
  pub suf : List ℕ
  pub parts : FloatParts whole frac ex suf
  pub text : s ≡ whole ++ (frac ++ (ex ++ suf))
  pub kind : k ≡ 3
  pub start : e ≡ length whole + length frac + length ex
  pub values : v ≡ ends (record { whole = length whole; fraction = length whole + length frac; end = e })
