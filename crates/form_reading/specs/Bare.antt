-- A reading's form without its suffix, and how long it is (01, The settled form).
-- Assumes nothing.
use Rattle.std.specs.Prelude.{cond, List, [], ◌≡◌, ℕ, ◌≤◌, eqb, length, drop, Result, Ok, Err}
use Rattle.err.specs.Outcome.{Place, none, Outcome, refused, accepted}
use Rattle.err.specs.Numbers.{number_of}
use Rattle.err.specs.Reading.{place_of}
use Rattle.grammar.specs.Meaning.{Worth}
use Rattle.form.specs.Form.{bare_form, fault_of}
use Rattle.form_reading.specs.Worths.{worth_of}
use Rattle.err.specs.declared.ParseError.{ParseError}

-- how long a form is without its suffix, or a refusal's number and span; serves contracts between functions, as `bare_of` does
pub data BareLength : Type 0 where
  len : ℕ → BareLength
  bad : ℕ → Place → BareLength

-- document 01's number and span for each case of what the code returns
abbrev pub bare_of : Result ℕ ParseError → BareLength
bare_of (Ok n) = len n
bare_of (Err e) = bad (number_of e.kind) (place_of e.span)

-- 01: "Above 2^64 − 1 it is 45", "It is 46 exactly when k is beyond 1,000,000 either way", else the form's length; x is the suffix
unfoldable pub bare_len : Worth → List ℕ → BareLength
bare_len w x = cond (eqb (fault_of w) 0) (len (length (bare_form w x))) (bad (fault_of w) none)

-- 01: "It is made from entry 0's reading"; a refused reading's number and span stay as they are
abbrev pub bare_by : List ℕ → Outcome → BareLength
bare_by s (refused n p) = bad n p
bare_by s (accepted k e vs) = bare_len (worth_of k s vs) (drop e s)

-- 01: "It is made from entry 0's reading": the form before "The suffix follows unchanged"; none of a refused reading
abbrev pub bare_form_by : List ℕ → Outcome → List ℕ
bare_form_by s (refused n p) = []
bare_form_by s (accepted k e vs) = bare_form (worth_of k s vs) (drop e s)

-- a form is there, and a buffer of `room` bytes has room for the part before the suffix; serves contracts between functions
pub record Roomy (s : List ℕ) (o : Outcome) (room : ℕ) : Type 0 where
  pub form : bare_by s o ≡ len (length (bare_form_by s o))
  pub fits : length (bare_form_by s o) ≤ room
