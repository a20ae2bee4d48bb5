-- `body::plain` meets its contract.
-- Assumes nothing.
use mathlib.Core.Path.{sym, ◌∙◌}
use Rattle.body.proofs.Steps as steps
use Rattle.body.proofs.plain.Goals as goal

pub returns-then-b-eq13 : goal.returns-then-b-eq13
returns-then-b-eq13 c = steps.refused_stops c.perr.ensures ∙ steps.is_cr _ _ c.if-b-eq13.true

pub returns-then-b-eq34 : goal.returns-then-b-eq34
returns-then-b-eq34 c = steps.is_quote _ _ c.if-b-eq13.false c.if-b-eq34.true

pub returns-then-bars : goal.returns-then-bars
returns-then-bars c =
    steps.refused_stops c.perr-then-bars.ensures
    ∙ steps.is_nul _ _ c.if-b-eq13.false c.if-b-eq34.false (rw c.allow_nul.ensures at (sym c.bars.ensures ∙ c.if-bars.true))

pub returns-then-bars-2 : goal.returns-then-bars-2
returns-then-bars-2 c =
    steps.refused_stops c.perr-then-bars-2.ensures
    ∙ steps.is_high _ _ c.if-b-eq13.false c.if-b-eq34.false (rw c.allow_nul.ensures at (sym c.bars.ensures ∙ c.if-bars.false))
    (rw c.unicode.ensures at (sym c.bars-2.ensures ∙ c.if-bars-2.true))

pub returns : goal.returns
returns c =
    steps.is_plain _ _ c.if-b-eq13.false c.if-b-eq34.false (rw c.allow_nul.ensures at (sym c.bars.ensures ∙ c.if-bars.false))
    (rw c.unicode.ensures at (sym c.bars-2.ensures ∙ c.if-bars-2.false))
