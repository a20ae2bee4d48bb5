-- `form_float::put_block` meets its contract.
-- Assumes nothing.
use borrow.Author.Rules.{rules}
use Rattle.form_decimal.proofs.Digits.{digits_whole}
use Rattle.form_float.proofs.put_block.Goals as goal

pub returns-then-count-s : goal.returns-then-count-s
returns-then-count-s c = rw (digits_whole c.args.s.now (search rules)) c.put_bytes.ensures
