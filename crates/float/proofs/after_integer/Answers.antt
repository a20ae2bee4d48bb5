-- `float::after_integer` meets its contract.
-- Assumes nothing.
use mathlib.Core.Path.{◌≡◌, sym, ◌∙◌}
use borrow.Author.Tests.{lt-ltb, le-ltb}
use Rattle.float.specs.Float.{after_number, after_fraction, after_integer}
use Rattle.float.proofs.Ends.{by_exponent, by_fraction}
use Rattle.float.proofs.Counts.{lone, some, three_counts, number_counts}
use Rattle.float.proofs.after_integer.Goals as goal
use Rattle.float.proofs.after_integer.Goals.{then-i-f+else-bad_fraction, else-i-f, then-f-end+else-exponent-eq0, else-f-end}

pub returns-then-bad_fraction-clause-outcome : goal.returns-then-bad_fraction-clause-outcome
returns-then-bad_fraction-clause-outcome c =
    c.perr.ensures ∙ rw (by_fraction, ← c.fraction_end-fraction.ensures.end, lt-ltb _ _ c.if-i-f.true, ← c.bad_fraction.ensures, c.if-bad_fraction.true)

pub returns-then-exponent-eq0-clause-outcome : goal.returns-then-exponent-eq0-clause-outcome
returns-then-exponent-eq0-clause-outcome c =
    let s = c.args.text.now in
    let i = c.args.whole.end in
    let e = c.fraction_end-fraction.ensures.end in
    let x = c.exponent_end-exponent.ensures in
    let past : after_integer s i ≡ after_fraction s i c.fraction_end-fraction.result.end = elim c.if-i-f.branch [ then-i-f+else-bad_fraction w ↦ rw (by_fraction, ← e, lt-ltb _ _ w.if-i-f.true, ← w.bad_fraction.ensures, w.if-bad_fraction.false) | else-i-f w ↦ rw (by_fraction, ← e, le-ltb _ _ w.if-i-f.false) ] in
    c.perr-then-exponent-eq0.ensures ∙ rw (past, by_exponent, ← x.end, lt-ltb _ _ c.if-f-end.true, lone _ _ _ x c.if-f-end.true c.if-exponent-eq0.true)

pub returns-clause-outcome : goal.returns-clause-outcome
returns-clause-outcome c =
    let s = c.args.text.now in
    let i = c.args.whole.end in
    let f = c.fraction_end-fraction.result.end in
    let e = c.fraction_end-fraction.ensures.end in
    let x = c.exponent_end-exponent.ensures in
    let past : after_integer s i ≡ after_fraction s i f = elim c.if-i-f.branch [ then-i-f+else-bad_fraction w ↦ rw (by_fraction, ← e, lt-ltb _ _ w.if-i-f.true, ← w.bad_fraction.ensures, w.if-bad_fraction.false) | else-i-f w ↦ rw (by_fraction, ← e, le-ltb _ _ w.if-i-f.false) ] in
    let further : after_fraction s i f ≡ after_number s i f c.exponent_end-exponent.result.end = elim c.if-f-end.branch [ then-f-end+else-exponent-eq0 w ↦ rw (by_exponent, ← x.end, lt-ltb _ _ w.if-f-end.true, some _ _ _ x w.if-f-end.true w.if-exponent-eq0.false) | else-f-end w ↦ rw (by_exponent, ← x.end, le-ltb _ _ w.if-f-end.false) ] in
    c.after_number.ensures.outcome ∙ sym (past ∙ further)

pub returns-clause-counts : goal.returns-clause-counts
returns-clause-counts c =
    let r = c.after_number.ensures in
    r.counts ∙ number_counts _ _ _ _ _ _ r.outcome (three_counts _ _ _ _ c.requires c.fraction_end-fraction.ensures c.exponent_end-exponent.ensures)
