-- Two texts of raw strings, by computing.
-- Assumes nothing.
use mathlib.Core.Path.{◌≡◌, refl}
use mathlib.Core.List.{[], ◌∷◌}
use Rattle.err.specs.Outcome.{none, raw}
use Rattle.scan.specs.Sets.{only}
use Rattle.suffix.specs.Suffix.{suffix_fault}
use Rattle.escape.specs.declared.Allowed.{Allowed}
use Rattle.escape.specs.declared.Allowed.TheVariants as allowed
use Rattle.body.specs.Step.{plain_of}
use Rattle.body.specs.Body.{body_from, body_by}
use Rattle.body.specs.Quote.{quoted, refused, suffixed}
use Rattle.raw.specs.Raw.{raw_byte, raw_step_of, raw_from, raw_at, raw_of}

abbrev string : Allowed
string = allowed.Text

-- `r#""a"#`, `r##`
pub record Computed : Type 0 where
  pub inner_quote : raw_of string 1 (114 ∷ 35 ∷ 34 ∷ 34 ∷ 97 ∷ 34 ∷ 35 ∷ []) ≡ quoted (raw 1) 7 2
  pub hashes : raw_of string 1 (114 ∷ 35 ∷ 35 ∷ []) ≡ refused 3 none

pub computed : Computed
unfolding only suffix_fault plain_of raw_byte raw_step_of body_from body_by suffixed raw_from raw_at raw_of
computed = record { inner_quote = refl; hashes = refl }
