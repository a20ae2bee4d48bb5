-- `batch_line::add_hexes` meets its contract.
-- Assumes nothing.
use mathlib.Core.Path.{◌≡◌}
use mathlib.Core.List.{List}
use Prim.Native.Nat.{ℕ, ◌≤◌, ◌<◌, ◌+◌, ◌*◌}
use native.Mathlib.Omega.{arith}
use lib.ListN.{length, take}
use lib.Seq.{take_all, length-take-le}
use Rattle.buffer.specs.Digits.{hex_digits}
use borrow.Author.Rules.{rules}
use Rattle.batch_line.specs.Lines.{Added, hexes}
use Rattle.batch_line.proofs.Laws as laws
use Rattle.batch_line.proofs.add_hexes.Goals as goal

-- two digits more fit
fits : (s : List ℕ) (i at end : ℕ) (before line : List ℕ) → Added (hexes (take i s)) at end before line → i < length s → at + 2 * length s ≤ length before → length line ≡ length before → end + 2 ≤ length line
fits s i at end before line w h room same = omega (arith, w.count, laws.hexes_length (take i s), length-take-le i s (omega arith))

pub loop-b-init : goal.loop-b-init
loop-b-init c = laws.added_none _ _ (search rules)

pub slice_bounds-put_hex-count : goal.slice_bounds-put_hex-count
slice_bounds-put_hex-count c = omega (arith, fits _ _ _ _ _ _ c.loop-b.invariant c.loop-b-test.true c.requires c.loop-b.auto.line)

pub slice_bounds-put_hex-start : goal.slice_bounds-put_hex-start
slice_bounds-put_hex-start c = omega (arith, fits _ _ _ _ _ _ c.loop-b.invariant c.loop-b-test.true c.requires c.loop-b.auto.line)

pub put_hex-end-requires : goal.put_hex-end-requires
put_hex-end-requires c = laws.room c.loop-b.end 2 c.loop-b.line (fits _ _ _ _ _ _ c.loop-b.invariant c.loop-b-test.true c.requires c.loop-b.auto.line)

pub overflow_add-end : goal.overflow_add-end
unfolding hex_digits
overflow_add-end c =
    omega (arith, fits _ _ _ _ _ _ c.loop-b.invariant c.loop-b-test.true c.requires c.loop-b.auto.line, c.put_hex-end.ensures.count, c.well_formed)

pub loop-b-preserved : goal.loop-b-preserved
unfolding hex_digits
loop-b-preserved c =
    let room = fits _ _ _ _ _ _ c.loop-b.invariant c.loop-b-test.true c.requires c.loop-b.auto.line in
    rw (laws.hexes_more c.args.bytes.now c.loop-b.b-index c.loop-b-test.true)
    (laws.added c.loop-b.invariant (laws.rest _ _ c.put_hex-end.ensures room) (search rules))

pub returns : goal.returns
returns c = rw (take_all c.loop-b.b-index c.args.bytes.now (search rules)) at c.loop-b.invariant
