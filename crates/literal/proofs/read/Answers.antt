-- `literal::read` meets its contract.
-- Assumes nothing.
use mathlib.Core.Path.{refl, sym}
use native.Mathlib.Omega.{arith}
use borrow.Author.Tests.{ne_eqb, le-leb, lt-leb}
use Rattle.err.specs.Numbers.{number_of}
use Rattle.err.proofs.Positive.{number_positive}
use Rattle.text_check.proofs.Checks.{fault_passed}
use Rattle.literal.specs.Readings.{read_at}
use Rattle.literal.proofs.read.Goals as goal

pub returns-then-code-gt8 : goal.returns-then-code-gt8
unfolding read_at
returns-then-code-gt8 c =
    rw (lt-leb _ _ c.if-code-gt8.true) (record { outcome = c.perr_nowhere.ensures; counts = refl; text_unchanged = refl })

pub returns-in-Err : goal.returns-in-Err
unfolding read_at
returns-in-Err c =
    let n = c.in-Err.kind in
    let bad = ne_eqb (number_of n) 0 (λ z. omega (arith, number_positive n)) in
    rw (le-leb _ _ c.if-code-gt8.false, ← c.in-Err.ensures, bad) (record { outcome = c.perr_nowhere-in-Err.ensures; counts = refl; text_unchanged = refl })

pub entry-requires : goal.entry-requires
entry-requires c = (c.if-code-gt8.false, (fault_passed _ (sym c.in_default.ensures)).0)

pub returns : goal.returns
unfolding read_at
returns c =
    rw (le-leb _ _ c.if-code-gt8.false, ← c.in_default.ensures)
    (record { outcome = c.entry.ensures.outcome; counts = c.entry.ensures.counts; text_unchanged = refl })
