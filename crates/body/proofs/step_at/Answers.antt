-- `body::step_at` meets its contract.
-- Assumes nothing.
use mathlib.Core.Path.{ap, ◌∙◌}
use Prim.Native.Nat.{◌≤◌}
use native.Mathlib.Omega.{arith}
use lib.ListN.{length, drop, length-drop}
use Rattle.scan.proofs.Parts.{part_to_end}
use Rattle.utf8.specs.Cut.{continuation}
use Rattle.utf8.proofs.Cuts.{last_drop}
use Rattle.body.proofs.Steps as steps
use Rattle.body.proofs.step_at.Goals as goal

pub returns-then-s-at : goal.returns-then-s-at
returns-then-s-at c = steps.refused_stops c.perr_nowhere.ensures ∙ steps.at_end _ _ _ c.if-s-at.true

pub returns-then-b-ne92 : goal.returns-then-b-ne92
returns-then-b-ne92 c = c.plain.ensures ∙ steps.at_plain _ _ _ c.if-s-at.false c.if-b-ne92.true

pub backslash-requires : goal.backslash-requires
unfolding continuation
backslash-requires c =
    let a = c.args in
    let l : 1 ≤ length (drop a.at a.s.now) = omega (arith, c.if-s-at.false, length-drop a.at a.s.now) in
    rw (part_to_end, (last_drop _ _ c.if-s-at.false (ap continuation c.if-b-ne92.false)).0) (l, c.requires)

pub returns : goal.returns
returns c =
    c.backslash.ensures ∙ rw part_to_end (steps.at_backslash _ _ _ c.if-s-at.false c.if-b-ne92.false)
