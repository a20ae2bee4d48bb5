-- What is read so far is at most the largest, and the whole is what the rest makes of it.
-- Assumes nothing.
use Rattle.std.proofs.Common.{◌≡◌, ◌≤◌, drop}
use Rattle.integer_value.specs.Value.{number_from}
use Rattle.integer_value.proofs.number_within.Given as goal

abbrev pub invariant-loop-b : goal.invariant-loop-b
invariant-loop-b l = (l.n ≤ l.largest) × (number_from l.by l.n (drop l.b-index l.digits) ≡ number_from l.by 0 l.digits)
