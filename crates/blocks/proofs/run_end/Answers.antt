-- `blocks::run_end` meets its contract.
-- Assumes nothing.
use Rattle.std.proofs.Common.{◌≡◌, ◌+◌, drop, arith, ap, ◌∙◌}
use Rattle.std.proofs.lemmas.List.{length-drop}
use Rattle.scan.specs.Run.{run}
use Rattle.scan.proofs.Parts.{part_to_end}
use Rattle.scan.proofs.Runs.{run_le}
use Rattle.blocks.proofs.Blocks.{run_rest}
use Rattle.blocks.proofs.run_end.Goals as goal

-- the first bytes of the run and the rest of it
ends : (g : _) (c : goal.After-block_end g) → c.byte_run-i.result + c.block_end.result ≡ c.args.from + run (g.S.ByteSet.holds c.args.set) (drop c.args.from c.args.s.now)
ends g c = ap (λ n. c.byte_run-i.result + n) (c.block_end.ensures ∙ rw part_to_end (omega arith)) ∙ run_rest _ _ _ _ _ c.byte_run-i.ensures

pub overflow_add-result : goal.overflow_add-result
overflow_add-result g c =
    let a = c.args in
    omega (arith, ends g c, run_le (g.S.ByteSet.holds a.set) (drop a.from a.s.now), length-drop a.from a.s.now)

pub returns : goal.returns
returns g c = ends g c
