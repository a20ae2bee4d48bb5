-- `body_plain::two_plain_in_all` meets its contract.
-- Assumes nothing.
use Rattle.body_plain.specs.PlainInAll.{plain_in_all}
use Rattle.body_plain.proofs.Eights.{all_pair}
use Rattle.body_plain.proofs.two_plain_in_all.Goals as goal

pub returns : goal.returns
returns c = all_pair plain_in_all c.args.s.now c.args.at c.requires c.contains.ensures c.contains-2.ensures
