-- The marked texts (★) of document 01, by entry 0 and by settling, in one theorem. `bytes` is a text's UTF-8.
-- Assumes nothing.
use Rattle.std.specs.Prelude.{◌≡◌, List, ℕ, ◌≤◌, length}
use Prim.Native.String.{String}
use Rattle.err.specs.Outcome.{refused, none, between}
use Rattle.grammar.specs.Notation.{bytes}
use Rattle.literal.specs.Readings.{read_at}
use Rattle.settle.specs.Settled.{refusal, settle_at}
use Rattle.demands.specs.Demand3.{Given}

pub record MarkedReadings : Type 0 where
  pub no_digits : read_at 0 (bytes "0x") ≡ refused 6 (between 2 2)
  pub lone_backslash : read_at 0 (bytes "\"\\\"") ≡ refused 9 (between 1 2)
  pub three_quotes : read_at 0 (bytes "'''") ≡ refused 26 (between 1 2)
  -- litrs's wrong span, kept on purpose (docs/DIFFERENCES.md)
  pub starting_with_e : read_at 0 (bytes "0b1e") ≡ refused 41 (between 1 2)
  pub cut_escape : read_at 0 (bytes "\"\\x4\"") ≡ refused 9 (between 1 4)
  pub cut_escape_suffixed : read_at 0 (bytes "\"\\x4\"u") ≡ refused 10 (between 1 5)

-- a text is given this settled form, of this kind, into every buffer that is long enough
abbrev pub Forms : String → String → ℕ → Type 0
Forms text form kind = (buf : List ℕ) → length (bytes form) ≤ length buf → Given (bytes text) buf kind (bytes form)

pub record MarkedForms : Type 0 where
  pub zero_x : Forms "0b0x3" "00x3" 2
  pub zero_b : Forms "00b1" "00b1" 2
  pub reduced : Forms "1.50e1" "15e0" 3
  pub zero_float : Forms "0e1000001" "0e0" 3
  pub too_far : (room : ℕ) → settle_at (bytes "10e1000000") room ≡ refusal 46 none
  pub just_in_range : Forms "0.1e1000001" "1e1000000" 3
  pub c_string : Forms "c\"é\"" "c\"\\xc3\\xa9\"" 8
  pub hex : Forms "0x_1F" "31" 2

pub record Marked : Type 0 where
  pub readings : MarkedReadings
  pub forms : MarkedForms
