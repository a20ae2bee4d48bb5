-- `character::escaped` meets its contract.
-- Assumes nothing.
use mathlib.Core.Path.{◌∙◌}
use native.Mathlib.Omega.{arith}
use Rattle.scan.proofs.Parts.{part_to_end}
use Rattle.character_quote.specs.Quote.{allowed_in}
use Rattle.character.proofs.Within.{escape_span}
use Rattle.character.proofs.escaped.Goals as goal

pub offset_span-requires : goal.offset_span-requires
offset_span-requires c =
    let a = c.args in
    escape_span (allowed_in a.q) a.text.now a.at c.requires 18446744073709551615 _ _ (c.in-Err.ensures ∙ rw (c.allowed.ensures, part_to_end)) (omega arith)
