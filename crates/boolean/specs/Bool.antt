-- What litrs's `BoolLit::parse` returns (01, Bools).
-- Assumes nothing.
use Rattle.std.specs.Prelude.{ℕ, true, false, cond, List, [], ◌∷◌, length, Result, Ok, Err}
use Rattle.scan.specs.Same.{same}
use Rattle.err.specs.Outcome.{Outcome, refused, accepted, none, truth}
use Rattle.err.specs.Reading.{outcome_of, refusal_of}
use Rattle.err.specs.declared.BoolLit.{BoolLit}
use Rattle.err.specs.declared.ParseError.{ParseError}
use Rattle.err.specs.declared.Literal.TheVariants as literal

-- `true`
abbrev pub true_text : List ℕ
true_text = 116 ∷ 114 ∷ 117 ∷ 101 ∷ []

-- `false`
abbrev pub false_text : List ℕ
false_text = 102 ∷ 97 ∷ 108 ∷ 115 ∷ 101 ∷ []

-- 01, Bools: "Exactly `true` or `false` ..; entry 1 on no bytes gives 3. The start of suffix is the text's end."
unfoldable pub bool_read : List ℕ → Outcome
bool_read s =
    cond (same s false_text) (accepted 1 (length s) (truth false))
    (cond (same s true_text) (accepted 1 (length s) (truth true))
    (refused 3 none))

-- what a bool's reading comes to: that of the literal, or a refusal
abbrev pub parsed_of : Result BoolLit ParseError → Outcome
parsed_of (Ok l) = outcome_of (Ok (literal.Bool l))
parsed_of (Err e) = refusal_of e
