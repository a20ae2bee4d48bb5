-- `form_value::extras`: what its loops keep.
-- Assumes nothing.
use Rattle.std.proofs.Common.{◌≡◌, ◌+◌, ◌*◌, ◌≤◌, drop}
use Rattle.form_byte.specs.Styled.{extras_of}
use Rattle.form_value.proofs.extras.Given as goal

-- the sum so far and that of the rest are that of the whole
abbrev pub invariant-loop-b : goal.invariant-loop-b
invariant-loop-b l =
    (l.n ≤ 3 * l.b-index)
    × (l.n + extras_of l.style.verbatim l.style.quote (drop l.b-index l.s) ≡ extras_of l.style.verbatim l.style.quote l.s)
