-- `utf8_blocks::clean_from` meets its contract.
-- Assumes nothing.
use mathlib.Core.Path.{◌≡◌, sym, ap, ◌∙◌}
use Prim.Native.Nat.{◌+◌, ◌-◌, ◌≤◌}
use native.Mathlib.Omega.{arith}
use lib.ListN.{length, take, drop}
use Rattle.utf8_blocks.specs.Faults.{worst_after_three}
use Rattle.utf8_blocks.proofs.Faults.{block_passed, block_refused}
use borrow.Author.Tests.{ne_eqb}
use borrow.Author.Rules.{rules}
use Rattle.utf8_blocks.proofs.clean_from.Goals as goal

pub returns-then-worst_fault-ne0 : goal.returns-then-worst_fault-ne0
returns-then-worst_fault-ne0 c =
    let t = c.args.text.now in
    let i = c.loop-block.at in
    let within : i + 256 ≤ length t = search rules in
    let is : c.in-Some.block.now ≡ take (i + 256 - (i - 3)) (drop (i - 3) t) = search rules in
    let worst = c.worst_fault.ensures ∙ ap worst_after_three is in
    sym (block_refused t i (i + 256) c.loop-block.invariant.0 (omega arith) within (λ z. c.if-worst_fault-ne0.true (worst ∙ z))) ∙ c.loop-block.invariant.2

pub loop-block-preserved : goal.loop-block-preserved
loop-block-preserved c =
    let t = c.args.text.now in
    let i = c.loop-block.at in
    let within : i + 256 ≤ length t = search rules in
    let is : c.in-Some.block.now ≡ take (i + 256 - (i - 3)) (drop (i - 3) t) = search rules in
    let worst = c.worst_fault.ensures ∙ ap worst_after_three is in
    (omega arith, within, block_passed t i (i + 256) c.loop-block.invariant.0 (omega arith) within (sym worst ∙ c.if-worst_fault-ne0.false) ∙ c.loop-block.invariant.2)

pub returns-then-worst_fault-eq0 : goal.returns-then-worst_fault-eq0
returns-then-worst_fault-eq0 c =
    let t = c.args.text.now in
    c.ends_clean.ensures ∙
    block_passed t c.loop-block.at (length t) c.loop-block.invariant.0 c.loop-block.invariant.1 (omega arith) (sym c.worst_fault-2.ensures ∙ c.if-worst_fault-eq0.true) ∙ c.loop-block.invariant.2

pub returns-else-worst_fault-eq0 : goal.returns-else-worst_fault-eq0
returns-else-worst_fault-eq0 c =
    let t = c.args.text.now in
    ne_eqb _ 0 c.if-worst_fault-eq0.false
    ∙ sym (block_refused t c.loop-block.at (length t) c.loop-block.invariant.0 c.loop-block.invariant.1 (omega arith) (λ z. c.if-worst_fault-eq0.false (c.worst_fault-2.ensures ∙ z))) ∙ c.loop-block.invariant.2
