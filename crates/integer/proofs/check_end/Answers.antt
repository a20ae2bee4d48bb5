-- `integer::check_end` meets its contract.
-- Assumes nothing.
use mathlib.Core.Path.{sym, ap, ◌∙◌}
use Rattle.err.proofs.Positive.{number_positive}
use Rattle.scan.proofs.Parts.{part_to_end}
use Rattle.parse.specs.Sets.{dec_digit}
use Rattle.suffix.proofs.Suffixes.{no_suffix}
use Rattle.integer.proofs.Suffixed.{after_good, after_digit, after_fault}
use Rattle.integer.proofs.check_end.Goals as goal

pub returns-then-end-text-clause-outcome : goal.returns-then-end-text-clause-outcome
returns-then-end-text-clause-outcome c = after_good _ _ _ (sym (no_suffix _ _ c.if-end-text.true))

pub returns-in_default-clause-outcome : goal.returns-in_default-clause-outcome
returns-in_default-clause-outcome c = after_good _ _ _ (c.in_default.ensures ∙ rw part_to_end)

pub returns-then-is_decimal-clause-outcome : goal.returns-then-is_decimal-clause-outcome
returns-then-is_decimal-clause-outcome c =
    c.perr.ensures ∙ after_digit _ _ _ _ (c.in-Err.ensures ∙ rw part_to_end) (number_positive c.in-Err.kind) (ap dec_digit (sym c.byte_at.ensures) ∙ sym c.if-is_decimal.ensures)

pub returns-clause-outcome : goal.returns-clause-outcome
returns-clause-outcome c =
    c.perr-2.ensures ∙ after_fault _ _ _ _ (c.in-Err.ensures ∙ rw part_to_end) (number_positive c.in-Err.kind) (ap dec_digit (sym c.byte_at.ensures) ∙ sym c.if-is_decimal.ensures)
