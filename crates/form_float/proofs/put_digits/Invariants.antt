-- The digits of the blocks so far are written.
-- Assumes nothing.
use Rattle.std.proofs.Common.{ℕ, List, ◌≡◌, ◌++◌}
use Rattle.std.specs.Slice.Iter.{chunks_rest, chunks_size}
use Rattle.buffer.specs.Buffer.{Wrote}
use Rattle.form_decimal.specs.Digits.{digits_of}
use Rattle.form_float.proofs.put_digits.Given as goal

abbrev pub invariant-loop-block : goal.invariant-loop-block
invariant-loop-block l =
    goal.iterator-loop-block.can_next l.block-iterator
    × goal.iterator-loop-block.is_finite l.block-iterator
    × (chunks_size l.block-iterator ≡ 64)
    × ((done : List ℕ) × (done ++ chunks_rest l.block-iterator ≡ l.s) × Wrote (digits_of done) l.at l.initial.out l.out)
