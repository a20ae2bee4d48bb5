-- `utf8::last_len` meets its contract.
-- Assumes nothing.
use borrow.Author.Rules.{rules}
use Rattle.utf8.proofs.Cuts.{found_last, found_none}
use Rattle.utf8.proofs.last_len.Goals as goal

pub returns-in-Some : goal.returns-in-Some
returns-in-Some c = found_last c.args.text.now c.in-Some.start (search rules) (search rules) (search rules)

pub returns-in-None : goal.returns-in-None
returns-in-None c = found_none c.args.text.now (search rules)
