-- `raw::raw_place` meets its contract.
-- Assumes nothing.
use Rattle.raw.proofs.Passes.{both, not_both}
use Rattle.raw.proofs.raw_place.Goals as goal

pub returns-then-from-eq2 : goal.returns-then-from-eq2
returns-then-from-eq2 c =
    let a = c.args in
    rw (both a.k a.last a.b a.far (rw (c.from.ensures, c.from-2.ensures) at c.if-from-eq2.true))

pub returns-then-is_raw_plain : goal.returns-then-is_raw_plain
returns-then-is_raw_plain c =
    let a = c.args in
    let e = not_both a.k a.last a.b a.far (λ e. c.if-from-eq2.false (rw (c.from.ensures, c.from-2.ensures) e)) in
    rw (e, ← c.is_raw_plain.ensures, c.if-is_raw_plain.true)

pub returns-else-is_raw_plain : goal.returns-else-is_raw_plain
returns-else-is_raw_plain c =
    let a = c.args in
    let e = not_both a.k a.last a.b a.far (λ e. c.if-from-eq2.false (rw (c.from.ensures, c.from-2.ensures) e)) in
    rw (e, ← c.is_raw_plain.ensures, c.if-is_raw_plain.false)
