-- `integer::parse` meets its contract.
-- Assumes nothing.
use mathlib.Core.Path.{◌≡◌, sym, ap, ◌∙◌}
use native.Mathlib.Omega.{arith}
use Rattle.err.specs.Outcome.{refused, between}
use Rattle.digits.specs.Counts.{digit_counts}
use Rattle.parse.specs.Sets.{dec_digit}
use Rattle.integer.specs.Integer.{integer_at, integer_read}
use Rattle.integer.proofs.Read.{read_none, read_digit, read_other}
use Rattle.integer.proofs.parse.Goals as goal

digit : (c : goal.After-parse_impl) → integer_at c.args.text.now ≡ integer_read c.args.text.now
digit c = read_digit _ (ap dec_digit (sym (c.in-Some.ensures.item.3.1 0)) ∙ sym c.if-is_decimal.ensures)

other : (c : goal.After-perr) → refused 4 (between 0 1) ≡ integer_read c.args.text.now
other c = read_other _ c.in-Some.ensures.item.3.0 (ap dec_digit (sym (c.in-Some.ensures.item.3.1 0)) ∙ sym c.if-is_decimal.ensures)

pub returns-in-None-clause-outcome : goal.returns-in-None-clause-outcome
returns-in-None-clause-outcome c = c.perr_nowhere.ensures ∙ read_none _ (omega (arith, c.in-None.ensures.item))

pub returns-in-None-clause-counts : goal.returns-in-None-clause-counts
returns-in-None-clause-counts c = ap (digit_counts _) (read_none _ (omega (arith, c.in-None.ensures.item)))

pub returns-in-Some-clause-outcome : goal.returns-in-Some-clause-outcome
returns-in-Some-clause-outcome c = c.parse_impl.ensures.outcome ∙ digit c

pub returns-in-Some-clause-counts : goal.returns-in-Some-clause-counts
returns-in-Some-clause-counts c = c.parse_impl.ensures.counts ∙ ap (digit_counts _) (c.parse_impl.ensures.outcome ∙ digit c)

pub returns-in-Some-2-clause-outcome : goal.returns-in-Some-2-clause-outcome
returns-in-Some-2-clause-outcome c = c.perr.ensures ∙ other c

pub returns-in-Some-2-clause-counts : goal.returns-in-Some-2-clause-counts
returns-in-Some-2-clause-counts c = ap (digit_counts _) (other c)
