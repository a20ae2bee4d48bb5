use Rattle.std.proofs.Common.{arith, ◌≡◌, ◌-◌, length, take, length-take, ◌∙◌}
use Rattle.batch_line.proofs.Laws as lines
use Rattle.batch.specs.Record.{number_at, head_line, head_buffer}
use Rattle.batch.proofs.print_record.Goals as goal

pub slice_bounds-write_all-end : goal.slice_bounds-write_all-end
slice_bounds-write_all-end g c = lines.within c.record_line-end.ensures.wrote

pub returns-clause-line_after : goal.returns-clause-line_after
unfolding head_line
returns-clause-line_after g c =
    let first = c.number_at-lent in
    let lent : length (take (first.result - 0) c.args.out.now) ≡ number_at c.args.head.now 2 =
    omega (arith, length-take (first.result - 0) c.args.out.now, first.ensures, c.requires.0) in
    c.record_line-end.ensures.wrote.bytes ∙ rw lent

pub returns-clause-out_after : goal.returns-clause-out_after
unfolding head_buffer
returns-clause-out_after g c =
    let first = c.number_at-lent in
    let lent : length (take (first.result - 0) c.args.out.now) ≡ number_at c.args.head.now 2 =
    omega (arith, length-take (first.result - 0) c.args.out.now, first.ensures, c.requires.0) in
    let front : first.result - 0 ≡ number_at c.args.head.now 2 = omega (arith, first.ensures) in
    rw (c.record_line-end.ensures.out_after, lent, front)
