-- `blocks::block_end` meets its contract.
-- Assumes nothing.
use Rattle.std.proofs.Common.{◌≡◌, ◌+◌, ◌-◌, take, drop, arith, rules, sym, ap, ◌∙◌}
use Rattle.std.proofs.lemmas.List.{length-drop}
use Rattle.scan.specs.Run.{run}
use Rattle.scan.proofs.Runs.{run_le}
use Rattle.blocks.proofs.Blocks.{block_stop, block_past}
use Rattle.blocks.proofs.block_end.Goals as goal

pub returns-then-m-lt64 : goal.returns-then-m-lt64
returns-then-m-lt64 g c =
    let p = g.S.ByteSet.holds c.args.set in
    let s = c.args.s.now in
    let i = c.loop-block.i in
    let is : c.in-Some.block.now ≡ take (i + 64 - i) (drop i s) = search rules in
    block_stop p s i 64 _ (c.block_run-m.ensures ∙ ap (run p) is) c.if-m-lt64.true ∙ c.loop-block.invariant.1

pub loop-block-preserved : goal.loop-block-preserved
loop-block-preserved g c =
    let p = g.S.ByteSet.holds c.args.set in
    let s = c.args.s.now in
    let i = c.loop-block.i in
    let is : c.in-Some.block.now ≡ take (i + 64 - i) (drop i s) = search rules in
    (search rules, sym (block_past p s i 64 _ (c.block_run-m.ensures ∙ ap (run p) is) c.if-m-lt64.false) ∙ c.loop-block.invariant.1)

pub returns : goal.returns
returns g c =
    let i = c.loop-block.i in
    let e = c.args in
    omega (arith, c.byte_run.ensures, c.loop-block.invariant.1, run_le (g.S.ByteSet.holds e.set) (drop i e.s.now), length-drop i e.s.now)
