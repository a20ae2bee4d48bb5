-- `escape_packed::packed_scalar` meets its contract.
-- Assumes nothing.
use Rattle.std.proofs.Common.{arith}
use Rattle.utf8.proofs.Laws.{scalar_lt}
use Rattle.escape.proofs.Within.{scalar_right}
use Rattle.escape_packed.proofs.packed_scalar.Goals as goal

pub overflow_add-result-2 : goal.overflow_add-result-2
overflow_add-result-2 c = omega (arith, scalar_lt c.args.v ((scalar_right c.args.v).0 (cc)))
