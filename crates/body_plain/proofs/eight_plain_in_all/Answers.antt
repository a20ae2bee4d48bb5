-- `body_plain::eight_plain_in_all` meets its contract.
-- Assumes nothing.
use Rattle.body_plain.specs.PlainInAll.{plain_in_all}
use Rattle.body_plain.proofs.Eights.{all_twos}
use Rattle.body_plain.proofs.eight_plain_in_all.Goals as goal

pub returns : goal.returns
returns c =
    let a = c.args in
    all_twos plain_in_all a.s.now a.at c.two_plain_in_all.ensures c.two_plain_in_all-2.ensures c.two_plain_in_all-3.ensures c.two_plain_in_all-4.ensures
