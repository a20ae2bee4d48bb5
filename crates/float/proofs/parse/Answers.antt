-- `float::parse` meets its contract.
-- Assumes nothing.
use mathlib.Core.Path.{◌≡◌, refl, ap, sym, ◌∙◌}
use native.Mathlib.Nat.{sub-zero}
use native.Mathlib.Omega.{arith}
use Rattle.err.specs.Outcome.{refused, between}
use Rattle.scan.proofs.Runs.{run_le}
use Rattle.parse.specs.Sets.{digit}
use Rattle.digits.specs.Counts.{digit_counts}
use Rattle.float.specs.Float.{after_integer, float_read}
use Rattle.float.proofs.Start.{read_nothing, read_byte}
use Rattle.float.proofs.parse.Goals as goal

pub returns-in-None-clause-outcome : goal.returns-in-None-clause-outcome
returns-in-None-clause-outcome c = c.perr_nowhere.ensures ∙ read_nothing _ (omega (arith, c.in-None.ensures.item))

pub returns-in-None-clause-counts : goal.returns-in-None-clause-counts
returns-in-None-clause-counts c = ap (digit_counts _) (read_nothing _ (omega (arith, c.in-None.ensures.item)))

pub after_integer-requires : goal.after_integer-requires
after_integer-requires c =
    let e = c.end_dec_digits.ensures in
    record {
      end = refl;
      inside = rw e.end (run_le (digit 10) c.args.text.now);
      count = e.count ∙ rw (← e.end, sub-zero);
    }

-- the first byte decides: digits at the front
from_digit : (c : goal.After-after_integer) → after_integer c.args.text.now c.end_dec_digits.result.end ≡ float_read c.args.text.now
from_digit c =
    let b = c.in-Some.ensures.item.3 in
    rw (read_byte _ b.0, ← b.1 0, sym c.if-is_decimal.ensures, c.end_dec_digits.ensures.end)

-- or another byte
other : (c : goal.After-perr) → refused 4 (between 0 1) ≡ float_read c.args.text.now
other c =
    let b = c.in-Some.ensures.item.3 in
    rw (read_byte _ b.0, ← b.1 0, sym c.if-is_decimal.ensures)

pub returns-in-Some-clause-outcome : goal.returns-in-Some-clause-outcome
returns-in-Some-clause-outcome c = c.after_integer.ensures.outcome ∙ from_digit c

pub returns-in-Some-clause-counts : goal.returns-in-Some-clause-counts
returns-in-Some-clause-counts c = c.after_integer.ensures.counts ∙ ap (digit_counts _) (c.after_integer.ensures.outcome ∙ from_digit c)

pub returns-in-Some-2-clause-outcome : goal.returns-in-Some-2-clause-outcome
returns-in-Some-2-clause-outcome c = c.perr.ensures ∙ other c

pub returns-in-Some-2-clause-counts : goal.returns-in-Some-2-clause-counts
returns-in-Some-2-clause-counts c = ap (digit_counts _) (other c)
