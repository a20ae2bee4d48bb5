-- `escape::put_value` meets its contract.
-- Assumes nothing.
use Rattle.buffer.proofs.Laws.{nothing}
use Rattle.escape.proofs.put_value.Goals as goal

pub returns-in-Nothing : goal.returns-in-Nothing
returns-in-Nothing c = rw c.in-Nothing.is (nothing _)
