-- `body::backslash` meets its contract.
-- Assumes nothing.
use borrow.Author.Rules.{rules}
use mathlib.Core.Path.{sym, ap, ◌∙◌}
use native.Mathlib.Omega.{arith}
use Rattle.utf8.proofs.Cuts.{last_le}
use Rattle.body.proofs.Steps as steps
use Rattle.body.specs.Step.{of_escape}
use Rattle.body.proofs.backslash.Goals as goal

pub returns-then-byte_at-eq10 : goal.returns-then-byte_at-eq10
returns-then-byte_at-eq10 c = c.line_break.ensures ∙ steps.is_break _ _ (sym c.byte_at.ensures ∙ c.if-byte_at-eq10.true)

pub overflow_sub-end : goal.overflow_sub-end
overflow_sub-end c = omega (arith, c.requires, last_le c.args.s.now)

pub returns-in_err-piece : goal.returns-in_err-piece
returns-in_err-piece c =
    let f = ap of_escape (rw c.requires.1 at c.in_err-piece.ensures) ∙ steps.is_escape c.args.k c.args.s.now (λ e. c.if-byte_at-eq10.false (c.byte_at.ensures ∙ e)) in
    rw (← f) (search rules)

pub returns : goal.returns
returns c =
    ap of_escape (rw c.requires.1 at c.in_ok-piece.ensures) ∙ steps.is_escape c.args.k c.args.s.now (λ e. c.if-byte_at-eq10.false (c.byte_at.ensures ∙ e))
