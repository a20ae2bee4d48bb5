-- `form_integer::put_form` meets its contract.
-- Assumes nothing.
use mathlib.Core.Path.{sym, ◌∙◌}
use Rattle.form_integer.proofs.Zeros.{twice, once}
use Rattle.form_integer.proofs.put_form.Goals as goal

pub put_bytes-requires : goal.put_bytes-requires
put_bytes-requires c = rw (twice _ _ (sym c.is_doubled.ensures ∙ c.if-is_doubled.true)) at c.requires

pub returns-then-is_doubled : goal.returns-then-is_doubled
returns-then-is_doubled c = rw (twice _ _ (sym c.is_doubled.ensures ∙ c.if-is_doubled.true)) c.put_bytes.ensures

pub put_decimal-requires : goal.put_decimal-requires
put_decimal-requires c = rw (once _ _ (sym c.is_doubled.ensures ∙ c.if-is_doubled.false)) at c.requires

pub returns : goal.returns
returns c = rw (once _ _ (sym c.is_doubled.ensures ∙ c.if-is_doubled.false)) c.put_decimal.ensures
