-- `buffer::decimal_len` meets its contract.
-- Assumes nothing.
use borrow.Author.Rules.{rules}
use Rattle.buffer.proofs.Decimals as laws
use Rattle.buffer.proofs.decimal_len.Goals as goal

pub returns : goal.returns
returns c =
    let log = c.checked_ilog10.ensures in
    laws.measured _ _ c.checked_ilog10.result _ log.none log.power_le log.next_power_gt c.map_or.ensures (λ k q. search rules)
