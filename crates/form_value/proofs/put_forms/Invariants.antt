-- `form_value::put_forms`: what its loops keep.
-- Assumes nothing.
use Rattle.std.proofs.Common.{take, length, ◌-◌}
use Rattle.buffer.specs.Buffer.{Wrote}
use Rattle.form_byte.specs.Styled.{styled_forms}
use Rattle.form_value.proofs.put_forms.Given as goal

-- the forms of the bytes before i are written
abbrev pub invariant-loop-i : goal.invariant-loop-i
invariant-loop-i l = Wrote (styled_forms l.style.verbatim l.style.quote (take l.i l.s)) l.at l.fn.out l.out

abbrev pub decreases-loop-i : goal.decreases-loop-i
decreases-loop-i l = length l.s - l.i
