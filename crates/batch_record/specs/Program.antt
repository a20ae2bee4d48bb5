-- The line that the program `keybasket` prints (01: "A small program takes all of standard input as the text, .. settles it and prints one line").
-- Assumes nothing.
use Rattle.std.specs.Prelude.{ℕ, List, [], ◌∷◌, ◌++◌}
use Rattle.batch_line.specs.Lines.{refusal_line, ok_line}
use Rattle.settle.specs.Settled.{FormAnswer, returned, refusal, settle_at, form_at}

-- "(kind, form)"; "(number, span, or `- -`)"
-- 32 is space
abbrev pub form_line : FormAnswer → List ℕ → List ℕ
form_line (returned (kind, n)) form = ok_line kind ++ ((32 ∷ []) ++ form)
form_line (refusal n p) form = refusal_line n p

-- of a text, settled into a buffer as long as a form may be
-- 10 is LF
unfoldable pub program_line : List ℕ → List ℕ
program_line text = form_line (settle_at text 65536) (form_at text) ++ (10 ∷ [])
