-- `raw::raw_ending_at` meets its contract.
-- Assumes nothing.
use mathlib.Core.Path.{◌≡◌, refl, sym, ◌∙◌}
use Prim.Native.Nat.{◌+◌}
use native.Mathlib.Omega.{arith}
use lib.ListN.{get_or, drop}
use Rattle.scan.specs.Run.{run}
use Rattle.scan.specs.Sets.{only}
use Rattle.scan.proofs.Bytes.{byte_inside}
use Rattle.scan.proofs.Cases.{by_lt}
use Rattle.raw.proofs.Steps as steps
use Rattle.raw.proofs.raw_ending_at.Goals as goal

pub returns-then-byte_at-eq34 : goal.returns-then-byte_at-eq34
returns-then-byte_at-eq34 c =
    let a = c.args in
    let e : get_or a.s.now a.at 0 ≡ 34 = sym c.byte_at.ensures ∙ c.if-byte_at-eq34.true in
    let l = byte_inside a.s.now a.at 34 e (omega arith) in
    let n = run (only 35) (drop (a.at + 1) a.s.now) in
    by_lt n a.h (λ g. absurd (rw (← (steps.raw_quote a.k a.h a.s.now a.at l e n refl g)) at c.requires))
    (λ g. steps.raw_close a.k a.h a.s.now a.at l e n refl g)
