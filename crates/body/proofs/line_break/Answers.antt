-- `body::line_break` meets its contract.
-- Assumes nothing.
use mathlib.Core.Path.{◌≡◌, ◌∙◌}
use native.Mathlib.Omega.{arith}
use lib.ListN.{drop, length-drop}
use Rattle.scan.specs.Run.{run}
use Rattle.scan.proofs.Parts.{part_to_end}
use Rattle.scan.proofs.Runs.{run_le}
use Rattle.parse.specs.Sets.{blank}
use Rattle.body.proofs.Steps as steps
use Rattle.body.proofs.line_break.Goals as goal

pub returns-then-n-rest : goal.returns-then-n-rest
returns-then-n-rest c =
    let s = c.args.s.now in
    steps.refused_stops c.perr_nowhere.ensures
    ∙ steps.break_open _ _ (rw part_to_end at c.run_len-n.ensures) (rw part_to_end at c.if-n-rest.true)

pub overflow_add-result : goal.overflow_add-result
overflow_add-result c =
    let s = c.args.s.now in
    let n : c.run_len-n.result ≡ run blank (drop 2 s) = rw part_to_end at c.run_len-n.ensures in
    omega (arith, run_le blank (drop 2 s), length-drop 2 s, c.well_formed)

pub returns : goal.returns
returns c =
    let s = c.args.s.now in
    steps.break_drops _ _ (rw part_to_end at c.run_len-n.ensures) (rw part_to_end at c.if-n-rest.false)
