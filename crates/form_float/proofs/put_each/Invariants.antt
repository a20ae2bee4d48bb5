-- The digits of the front are written.
-- Assumes nothing.
use Rattle.std.proofs.Common.{take}
use Rattle.buffer.specs.Buffer.{Wrote}
use Rattle.form_decimal.specs.Digits.{digits_of}
use Rattle.form_float.proofs.put_each.Given as goal

abbrev pub invariant-loop-b : goal.invariant-loop-b
invariant-loop-b l = Wrote (digits_of (take l.b-index l.s)) l.at l.initial.out l.out
