-- `raw::is_raw_plain` meets its contract.
-- Assumes nothing.
use mathlib.Core.Path.{◌∙◌}
use native.Mathlib.Omega.{arith}
use borrow.Author.Tests.{eq-eqb, ne_eqb, lt-ltb, le-ltb}
use Rattle.raw.specs.Scan.{raw_plain}
use Rattle.raw.proofs.is_raw_plain.Goals as goal

pub returns-then-b-lt128 : goal.returns-then-b-lt128
unfolding raw_plain
returns-then-b-lt128 c =
    let b = c.args.b in
    rw (ne_eqb b 13 (λ x. omega arith), ne_eqb b 0 (λ x. omega arith), le-ltb 127 b (omega arith))

pub returns-then-b-gt34 : goal.returns-then-b-gt34
unfolding raw_plain
returns-then-b-gt34 c =
    let b = c.args.b in
    c.unicode.ensures ∙ rw (ne_eqb b 13 (λ x. omega arith), ne_eqb b 0 (λ x. omega arith), lt-ltb 127 b (omega arith))

pub returns-then-b-eq13 : goal.returns-then-b-eq13
unfolding raw_plain
returns-then-b-eq13 c = rw (eq-eqb _ _ c.if-b-eq13.true)

pub returns-then-b-eq0 : goal.returns-then-b-eq0
unfolding raw_plain
returns-then-b-eq0 c = c.allow_nul.ensures ∙ rw (ne_eqb _ _ c.if-b-eq13.false, eq-eqb _ _ c.if-b-eq0.true)

pub returns : goal.returns
unfolding raw_plain
returns c =
    let b = c.args.b in
    rw (ne_eqb b 13 c.if-b-eq13.false, ne_eqb b 0 c.if-b-eq0.false, le-ltb 127 b (omega arith))
