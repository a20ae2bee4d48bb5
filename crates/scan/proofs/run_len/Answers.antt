-- `scan::run_len` meets its contract.
-- Assumes nothing.
use mathlib.Core.Path.{sym, ◌∙◌}
use borrow.Author.Tests.{not-true, not-false}
use Rattle.scan.proofs.Runs.{run_more, run_stop, run_end}
use borrow.Author.Rules.{rules}
use Rattle.scan.proofs.run_len.Goals as goal

pub returns-then-not-contains : goal.returns-then-not-contains
returns-then-not-contains g c =
    sym (run_stop _ _ _ c.loop-i-test.true (sym c.contains.ensures ∙ not-true _ c.if-not-contains.true-raw)) ∙ c.loop-i.invariant.1

pub loop-i-preserved : goal.loop-i-preserved
loop-i-preserved g c =
    (search rules, sym (run_more _ _ _ c.loop-i-test.true (sym c.contains.ensures ∙ not-false _ c.if-not-contains.false-raw)) ∙ c.loop-i.invariant.1)

pub returns : goal.returns
returns g c = sym (run_end _ _ _ c.loop-i-test.false) ∙ c.loop-i.invariant.1
