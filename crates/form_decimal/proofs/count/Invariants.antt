-- The count is that of the front.
-- Assumes nothing.
use Rattle.std.proofs.Common.{◌≡◌, ◌≤◌, length, take}
use Rattle.form_decimal.specs.Digits.{digits_of}
use Rattle.form_decimal.proofs.count.Given as goal

abbrev pub invariant-loop-b : goal.invariant-loop-b
invariant-loop-b l = (l.n ≤ l.b-index) × (l.n ≡ length (digits_of (take l.b-index l.s)))
