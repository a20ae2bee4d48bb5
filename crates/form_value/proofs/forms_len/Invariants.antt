-- `form_value::forms_len`: what its loop keeps.
-- Assumes nothing.
use Rattle.std.proofs.Common.{◌≡◌, ◌+◌, length}
use Rattle.std.specs.Slice.Iter.{chunks_rest, chunks_size}
use Rattle.form_byte.specs.Styled.{extras_of}
use Rattle.form_value.proofs.forms_len.Given as goal

-- the length, what the blocks so far have more and what the blocks that are left have more are the length of all forms
abbrev pub invariant-loop-block : goal.invariant-loop-block
invariant-loop-block l =
    goal.iterator-loop-block.can_next l.block-iterator
    × goal.iterator-loop-block.is_finite l.block-iterator
    × (chunks_size l.block-iterator ≡ 64)
    × (l.n + extras_of l.style.verbatim l.style.quote (chunks_rest l.block-iterator) ≡ length l.s + extras_of l.style.verbatim l.style.quote l.s)
