-- `form_decimal::last_end` meets its contract.
-- Assumes nothing.
use borrow.Author.Rules.{rules}
use Rattle.form_decimal.proofs.Digits.{found_last, found_none}
use Rattle.form_decimal.proofs.last_end.Goals as goal

pub returns-in-Some : goal.returns-in-Some
returns-in-Some c = found_last c.args.s.now c.in-Some.i (search rules) (search rules) (search rules)

pub returns-in-None : goal.returns-in-None
returns-in-None c = found_none c.args.s.now (search rules)
