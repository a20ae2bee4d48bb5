-- `scan::all_in` meets its contract.
-- Assumes nothing.
use Rattle.std.proofs.Common.{◌≡◌, ◌+◌, ◌-◌, drop, arith}
use Rattle.std.proofs.lemmas.List.{length-take, length-drop}
use Rattle.scan.proofs.Windows.{all_start, all_next}
use Rattle.scan.proofs.all_in.Goals as goal

pub loop-b-init : goal.loop-b-init
loop-b-init g c = all_start (g.S.ByteSet.holds c.args.set) c.args.s.now c.args.at

pub loop-b-preserved : goal.loop-b-preserved
loop-b-preserved g c =
    all_next (g.S.ByteSet.holds c.args.set) c.args.s.now c.args.at g.row.N c.loop-b.b-index c.requires c.loop-b-test.true c.loop-b.invariant c.contains-all.ensures

pub returns : goal.returns
returns g c =
    let a = c.args in
    let every : c.loop-b.b-index ≡ g.row.N = omega (arith, length-take (a.at + g.row.N - a.at) (drop a.at a.s.now), length-drop a.at a.s.now) in
    rw every at c.loop-b.invariant
