-- `blocks::byte_run` meets its contract.
-- Assumes nothing.
use Rattle.std.proofs.Common.{◌-◌, drop, arith}
use Rattle.blocks.proofs.Blocks.{run_take}
use Rattle.blocks.proofs.byte_run.Goals as goal

pub overflow_add-result : goal.overflow_add-result
overflow_add-result g c =
    let a = c.args in
    omega (arith, c.run_len.ensures, run_take (g.S.ByteSet.holds a.set) (a.stop - a.from) (drop a.from a.s.now))

pub returns : goal.returns
returns g c =
    let a = c.args in
    omega (arith, c.run_len.ensures, run_take (g.S.ByteSet.holds a.set) (a.stop - a.from) (drop a.from a.s.now))
