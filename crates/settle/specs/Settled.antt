-- What measuring and settling return, and what the lent buffer holds then (01, The settled form; Order: "then 45 or 46, 47, 48").
-- Assumes nothing.
use Rattle.std.specs.Prelude.{cond, List, [], ◌≡◌, ℕ, ◌≤◌, eqb, leb, length, drop, Result, Ok, Err}
use Rattle.err.specs.Outcome.{none, Outcome, refused, accepted}
use Rattle.err.specs.Answer.{Answer}
pub use Rattle.err.specs.Answer.{returned, refusal}
use Rattle.err.specs.Numbers.{number_of}
use Rattle.err.specs.Reading.{place_of}
use Rattle.buffer.specs.Buffer.{over}
use Rattle.grammar.specs.Meaning.{Worth}
use Rattle.form.specs.Form.{form_of, fault_of}
use Rattle.literal.specs.Readings.{read_at}
use Rattle.form_reading.specs.Worths.{worth_of}
use Rattle.form_reading.specs.Bare.{len, bare_by, bare_form_by}
use Rattle.err.specs.Kinds.{kind_code}
use Rattle.err.specs.declared.Kind.{Kind}
use Rattle.err.specs.declared.ParseError.{ParseError}

-- a form's kind and length; or a refusal's number and span
abbrev pub FormAnswer : Type 0
FormAnswer = Answer (ℕ × ℕ)

abbrev pub formed : ℕ → ℕ → FormAnswer
formed k n = returned (k, n)

abbrev pub settled_of : Result (Kind × ℕ) ParseError → FormAnswer
settled_of (Ok (k, n)) = formed (kind_code k) n
settled_of (Err e) = refusal (number_of e.kind) (place_of e.span)

-- ---- the measure

-- of kind, worth and suffix: refused for its worth with 45 or 46, then for its length with 47
unfoldable pub measured : ℕ → Worth → List ℕ → FormAnswer
measured k w x =
    cond (eqb (fault_of w) 0)
    (cond (leb (length (form_of w x)) 65536) (formed k (length (form_of w x))) (refusal 47 none))
    (refusal (fault_of w) none)

-- a reading's own refusal comes first
abbrev pub measure_of : List ℕ → Outcome → FormAnswer
measure_of s (refused n p) = refusal n p
measure_of s (accepted k e vs) = measured k (worth_of k s vs) (drop e s)

-- of any text, read by entry 0
unfoldable pub measure_at : List ℕ → FormAnswer
measure_at s = measure_of s (read_at 0 s)

-- ---- the form

-- refused with 48 where a buffer of `room` bytes is shorter than the form
abbrev pub fitted : ℕ → FormAnswer → FormAnswer
fitted room (refusal n p) = refusal n p
fitted room (returned (k, n)) = cond (leb n room) (formed k n) (refusal 48 none)

unfoldable pub settle_at : List ℕ → ℕ → FormAnswer
settle_at s room = fitted room (measure_at s)

-- the settled form of an accepted text
abbrev pub form_by : List ℕ → Outcome → List ℕ
form_by s (refused n p) = []
form_by s (accepted k e vs) = form_of (worth_of k s vs) (drop e s)

unfoldable pub form_at : List ℕ → List ℕ
form_at s = form_by s (read_at 0 s)

-- the whole buffer at exit: the form, and after it what it held; refused: exactly as it came
abbrev pub settle_buffer_by : FormAnswer → List ℕ → List ℕ → List ℕ
settle_buffer_by (returned (k, n)) form buf = over form buf
settle_buffer_by (refusal n p) form buf = buf

unfoldable pub settle_buffer : List ℕ → List ℕ → List ℕ
settle_buffer s buf = settle_buffer_by (settle_at s (length buf)) (form_at s) buf

-- a form is there, and a buffer of `room` bytes has room for the whole
pub record Fits (s : List ℕ) (o : Outcome) (room : ℕ) : Type 0 where
  pub form : bare_by s o ≡ len (length (bare_form_by s o))
  pub fits : length (form_by s o) ≤ room
