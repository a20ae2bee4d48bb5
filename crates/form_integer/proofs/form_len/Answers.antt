-- `form_integer::form_len` meets its contract.
-- Assumes nothing.
use mathlib.Core.Path.{sym, ap, ◌∙◌}
use native.Mathlib.Omega.{arith}
use lib.ListN.{length}
use Rattle.buffer.proofs.Decimals.{decimal_u64}
use Rattle.form_integer.proofs.Zeros.{twice, once}
use Rattle.form_integer.proofs.form_len.Goals as goal

pub returns-then-is_doubled : goal.returns-then-is_doubled
returns-then-is_doubled c = (sym (ap length (twice _ _ (sym c.is_doubled.ensures ∙ c.if-is_doubled.true))), omega arith)

pub returns : goal.returns
returns c =
    let e = c.decimal_len.ensures in
    let one = once _ _ (sym c.is_doubled.ensures ∙ c.if-is_doubled.false) in
    (e ∙ sym (ap length one), omega (arith, e, decimal_u64 c.args.n c.ranges.n.fits))
