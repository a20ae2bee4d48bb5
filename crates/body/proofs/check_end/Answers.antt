-- `body::check_end` meets its contract.
-- Assumes nothing.
use mathlib.Core.Path.{refl, ◌∙◌}
use native.Mathlib.Omega.{arith}
use Rattle.err.proofs.Positive.{number_positive}
use Rattle.scan.proofs.Parts.{part_to_end}
use Rattle.suffix.proofs.Suffixes.{no_suffix}
use Rattle.body.proofs.Strings as strings
use Rattle.body.proofs.check_end.Goals as goal

pub returns-then-start-text : goal.returns-then-start-text
returns-then-start-text c = strings.suffix_good _ _ _ _ _ refl (no_suffix _ _ c.if-start-text.true)

pub returns-in_default : goal.returns-in_default
returns-in_default c = strings.suffix_good _ _ _ _ _ (rw part_to_end at c.in_default.ensures) refl

pub returns : goal.returns
returns c =
    strings.refused_quote c.perr.ensures
    ∙ strings.suffix_bad _ _ _ _ _ (rw part_to_end at c.in-Err.ensures) (λ e. omega (arith, number_positive c.in-Err.kind))
