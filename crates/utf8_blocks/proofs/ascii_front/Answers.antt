-- `utf8_blocks::ascii_front` meets its contract.
-- Assumes nothing.
use mathlib.Core.Path.{◌≡◌, sym, ◌∙◌}
use Prim.Native.Nat.{ℕ, ◌+◌, ◌-◌}
use native.Mathlib.Omega.{arith}
use lib.ListN.{length, take, drop}
use borrow.Author.Rules.{rules}
use Rattle.scan.specs.Run.{run}
use Rattle.scan.specs.Sets.{ascii}
use Rattle.scan.proofs.Runs.{run_le, run_end}
use Rattle.utf8_blocks.proofs.HighBytes.{ascii_part, passed_twice, lent_length}
use Rattle.utf8_blocks.proofs.ascii_front.Goals as goal

pub returns-then-highest-lt128 : goal.returns-then-highest-lt128
returns-then-highest-lt128 c =
    let t = c.args.text.now in
    let at : ℕ = c.ascii_blocks-large.result + c.ascii_blocks.result in
    let whole : at + run ascii (drop at t) ≡ run ascii t = passed_twice t c.ascii_blocks-large.result c.ascii_blocks.result c.ascii_blocks-large.ensures.1 c.ascii_blocks.ensures.1 in
    sym (run_end ascii t (length t) (omega arith)) ∙ ascii_part t at (length t) (omega (arith, c.highest.ensures)) (search rules) (omega arith) ∙ whole

pub overflow_add-result : goal.overflow_add-result
overflow_add-result c =
    let t = c.args.text.now in
    let at : ℕ = c.ascii_blocks-large.result + c.ascii_blocks.result in
    omega (arith, c.run_len.ensures, run_le ascii (take (length t - at) (drop at t)), lent_length t at, lent_length t c.ascii_blocks-large.result)
