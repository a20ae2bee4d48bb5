-- The count and the digits of the blocks that are left are those of the whole.
-- Assumes nothing.
use Rattle.std.proofs.Common.{◌≡◌, ◌+◌, length}
use Rattle.std.specs.Slice.Iter.{chunks_rest, chunks_size}
use Rattle.form_decimal.specs.Digits.{digits_of}
use Rattle.form_decimal.proofs.digits_len.Given as goal

abbrev pub invariant-loop-block : goal.invariant-loop-block
invariant-loop-block l =
    goal.iterator-loop-block.can_next l.block-iterator
    × goal.iterator-loop-block.is_finite l.block-iterator
    × (chunks_size l.block-iterator ≡ 64)
    × (l.n + length (digits_of (chunks_rest l.block-iterator)) ≡ length (digits_of l.s))
