-- Document 01's marked readings of quoted strings, and one text for each kind of piece, by computing.
-- Assumes nothing.
use mathlib.Core.Path.{◌≡◌, refl}
use mathlib.Core.List.{[], ◌∷◌}
use Rattle.err.specs.Outcome.{between}
use Rattle.scan.specs.Sets.{except}
use Rattle.parse.specs.Class.{class_of}
use Rattle.parse.specs.Sets.{blank, suffix_rest}
use Rattle.suffix.specs.Suffix.{suffix_fault, fault_from, suffix_start}
use Rattle.utf8.specs.Utf8.{encode}
use Rattle.utf8.specs.Cut.{continuation, is_boundary}
use Rattle.escape.specs.declared.Allowed.{Allowed}
use Rattle.escape.specs.declared.Allowed.TheVariants as allowed
use Rattle.escape.specs.Escape.{simple_escape_of, x_byte, x_escape, is_scalar, u_scalar, bad_start, u_inner, u_braced, u_escape, escape_by, escape_of}
use Rattle.body.specs.Step.{close, line_break_of, backslash_of, plain_of, step_of}
use Rattle.body.specs.Body.{body_from, body_by, body}
use Rattle.body.specs.Quote.{refused, suffixed, string_of}

abbrev string : Allowed
string = allowed.Text

abbrev c_string : Allowed
c_string = allowed.C

-- `"\"` is 9 at 1-2, `"\x4"` is 9 at 1-4, `"\x4"u` is 10 at 1-5; and `c"\0"`, a body of four pieces
pub record Marked : Type 0 where
  pub lone : string_of string 1 (34 ∷ 92 ∷ 34 ∷ []) ≡ refused 9 (between 1 2)
  pub short : string_of string 1 (34 ∷ 92 ∷ 120 ∷ 52 ∷ 34 ∷ []) ≡ refused 9 (between 1 4)
  pub with_suffix : string_of string 1 (34 ∷ 92 ∷ 120 ∷ 52 ∷ 34 ∷ 117 ∷ []) ≡ refused 10 (between 1 5)
  pub nul : string_of c_string 2 (99 ∷ 34 ∷ 92 ∷ 48 ∷ 34 ∷ []) ≡ refused 35 (between 2 4)
  pub pieces : body string (97 ∷ 92 ∷ 10 ∷ 32 ∷ 92 ∷ 117 ∷ 123 ∷ 69 ∷ 95 ∷ 57 ∷ 125 ∷ 34 ∷ [])
      ≡ record { at = 11; value = 97 ∷ 195 ∷ 169 ∷ []; end = close }

pub marked : Marked
unfolding class_of except blank suffix_rest suffix_fault fault_from suffix_start encode continuation is_boundary simple_escape_of x_byte x_escape is_scalar u_scalar bad_start u_inner u_braced u_escape escape_by escape_of line_break_of backslash_of plain_of step_of body_from body_by suffixed string_of
marked = record { lone = refl; short = refl; with_suffix = refl; nul = refl; pieces = refl }
