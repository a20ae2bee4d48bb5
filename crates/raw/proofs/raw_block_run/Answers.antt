-- `raw::raw_block_run` meets its contract.
-- Assumes nothing.
use mathlib.Core.Path.{ap, sym, ◌∙◌}
use mathlib.Core.Bool.{Bool, cond}
use native.Mathlib.Omega.{arith}
use Rattle.blocks.proofs.Blocks.{least_start, least_more, least_end}
use Rattle.raw.proofs.Flags.{length_flags, get_or_flags}
use Rattle.raw.proofs.raw_block_run.Goals as goal

pub loop-j-init : goal.loop-j-init
loop-j-init c =
    let a = c.args in
    least_start _ _ _ (length_flags a.k a.last a.s.now a.far.now ∙ c.requires.0)

pub loop-j-preserved : goal.loop-j-preserved
loop-j-preserved c =
    let a = c.args in
    let j = c.loop-j.j in
    least_more _ _ _ (length_flags a.k a.last a.s.now a.far.now ∙ c.requires.0) _ _ _ _ c.loop-j.invariant c.loop-j-test.true
    (c.raw_place.ensures ∙ ap (λ (t : Bool). cond t 64 j) (sym (get_or_flags a.k a.last a.s.now a.far.now j (omega (arith, c.requires.0)))))
    c.min-m.ensures

pub returns : goal.returns
returns c =
    let a = c.args in
    least_end _ _ _ (length_flags a.k a.last a.s.now a.far.now ∙ c.requires.0) _ _ c.loop-j.invariant c.loop-j-test.false
