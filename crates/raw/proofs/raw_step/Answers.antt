-- `raw::raw_step` meets its contract.
-- Assumes nothing.
use mathlib.Core.Path.{◌∙◌}
use Rattle.scan.proofs.Parts.{part_to_end}
use Rattle.body.proofs.Steps.{refused_stops}
use Rattle.raw.proofs.Steps as steps
use Rattle.raw.proofs.raw_step.Goals as goal

pub returns-then-s-i : goal.returns-then-s-i
returns-then-s-i c = refused_stops c.perr_nowhere.ensures ∙ steps.raw_end _ _ _ _ c.if-s-i.true

pub returns-then-b-ne34 : goal.returns-then-b-ne34
returns-then-b-ne34 c = c.plain.ensures ∙ steps.raw_plain_lem _ _ _ _ c.if-s-i.false c.if-b-ne34.true

pub returns-then-h-run_len : goal.returns-then-h-run_len
returns-then-h-run_len c =
    steps.raw_close _ _ _ _ c.if-s-i.false c.if-b-ne34.false _ (rw part_to_end at c.run_len.ensures) c.if-h-run_len.true

pub returns : goal.returns
returns c =
    steps.raw_quote _ _ _ _ c.if-s-i.false c.if-b-ne34.false _ (rw part_to_end at c.run_len.ensures) c.if-h-run_len.false
