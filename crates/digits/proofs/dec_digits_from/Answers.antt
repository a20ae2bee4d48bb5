-- `digits::dec_digits_from` meets its contract.
-- Assumes nothing.
use Rattle.std.proofs.Common.{◌+◌, drop, arith, sym, ap, ◌∙◌}
use Rattle.std.proofs.lemmas.List.{length-drop}
use Rattle.scan.proofs.Parts.{part_to_end}
use Rattle.scan.proofs.Runs.{run_stop, run_end}
use Rattle.scan.proofs.Counts.{tally_stop, tally_end}
use Rattle.parse.specs.Sets.{digit}
use Rattle.parse.specs.Digits.{digit_count}
use Rattle.digits.proofs.dec_digits_from.Goals as goal

pub returns-then-not-is_dec_or_underscore : goal.returns-then-not-is_dec_or_underscore
unfolding digit_count
returns-then-not-is_dec_or_underscore c =
    let v = c.loop-i.invariant in
    let inside = rw part_to_end at c.loop-i-test.true in
    let other = rw part_to_end at (sym c.if-not-is_dec_or_underscore.ensures) in
    record { end = ap (λ n. c.args.from + n) (sym (run_stop _ _ _ inside other) ∙ v.1); count = sym (tally_stop _ _ _ _ _ inside other) ∙ v.2 }

pub returns : goal.returns
unfolding digit_count
returns c =
    let v = c.loop-i.invariant in
    let a = c.args in
    let over = rw part_to_end at c.loop-i-test.false in
    record { end = omega (arith, run_end (digit 10) (drop a.from a.s.now) _ over, v.1, length-drop a.from a.s.now); count = sym (tally_end _ _ _ _ _ over) ∙ v.2 }
