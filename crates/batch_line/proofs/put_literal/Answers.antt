-- `batch_line::put_literal` meets its contract.
-- Assumes nothing.
use mathlib.Core.Path.{◌≡◌, refl, ◌∙◌}
use mathlib.Core.Bool.{Bool, true, false, cond}
use Rattle.std.specs.Int.{from_bool}
use Rattle.batch_line.proofs.Laws as laws
use borrow.Author.Rules.{rules}
use Rattle.batch_line.proofs.put_literal.Goals as goal

one_or_zero : (t : Bool) → from_bool t ≡ cond t 1 0
one_or_zero true = refl
one_or_zero false = refl

pub returns-in-Bool : goal.returns-in-Bool
returns-in-Bool c =
    rw (c.in-Bool.is, ← (c.from.ensures ∙ one_or_zero c.in-Bool.l.value)) (laws.also c.put_kind-at.ensures.0 c.add_number.ensures.0, search rules)

pub returns-in-Integer : goal.returns-in-Integer
returns-in-Integer c =
    rw (c.in-Integer.is, ← c.value.ensures, ← c.from-base.ensures) (laws.also c.put_kind-at-in-Integer.ensures.0 c.add_three.ensures.0, search rules)

pub returns-in-Float : goal.returns-in-Float
returns-in-Float c =
    rw c.in-Float.is (laws.also c.put_kind-at-in-Float.ensures.0 c.add_three-in-Float.ensures.0, search rules)

pub returns-in-Char : goal.returns-in-Char
returns-in-Char c =
    rw (c.in-Char.is, ← c.from-in-Char.ensures) (laws.also c.put_kind-at-in-Char.ensures.0 c.add_number-in-Char.ensures.0, search rules)

pub returns-in-Byte : goal.returns-in-Byte
returns-in-Byte c =
    rw (c.in-Byte.is, ← c.from-in-Byte.ensures) (laws.also c.put_kind-at-in-Byte.ensures.0 c.add_number-in-Byte.ensures.0, search rules)
