-- `body::ending_at` meets its contract.
-- Assumes nothing.
use mathlib.Core.Path.{◌≡◌, sym, ◌∙◌}
use native.Mathlib.Omega.{arith}
use lib.ListN.{get_or}
use Rattle.scan.proofs.Bytes.{byte_inside}
use Rattle.body.proofs.Steps as steps
use Rattle.body.proofs.ending_at.Goals as goal

pub returns-then-byte_at-eq34 : goal.returns-then-byte_at-eq34
returns-then-byte_at-eq34 c =
    let a = c.args in
    let e : get_or a.s.now a.at 0 ≡ 34 = sym c.byte_at.ensures ∙ c.if-byte_at-eq34.true in
    steps.at_quote _ a.s.now _ (byte_inside a.s.now _ 34 e (omega arith)) e
