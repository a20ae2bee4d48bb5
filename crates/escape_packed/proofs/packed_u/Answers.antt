-- `escape_packed::packed_u` meets its contract.
-- Assumes nothing.
use Rattle.std.proofs.Common.{ap, ◌∙◌, arith}
use Rattle.escape.proofs.Hexes.{small}
use Rattle.escape_packed.specs.Packed.{packed_escape}
use Rattle.escape.proofs.Escapes as laws
use Rattle.escape_packed.proofs.Braced as braced
use Rattle.escape_packed.proofs.packed_u.Goals as goal

pub returns-then-not-unicode : goal.returns-then-not-unicode
returns-then-not-unicode c = ap packed_escape (laws.u_barred _ _ (cc))

pub returns-then-byte_at-ne123 : goal.returns-then-byte_at-ne123
returns-then-byte_at-ne123 c = ap packed_escape (laws.u_no_brace _ _ (cc) (λ e. c.if-byte_at-ne123.true (c.byte_at.ensures ∙ e)))

pub loop-i-init : goal.loop-i-init
loop-i-init c = (omega arith, omega arith, braced.digits_code_lem _ _ (cc) (cc))

pub overflow_mul-v : goal.overflow_mul-v
overflow_mul-v c = let i = c.loop-i.invariant in omega (arith, small _ _ i.0 c.if-n-eq6.false i.1)

pub overflow_add-v : goal.overflow_add-v
overflow_add-v c = let i = c.loop-i.invariant in omega (arith, small _ _ i.0 c.if-n-eq6.false i.1)

pub returns : goal.returns
returns c = braced.at_end _ _ _ _ _ c.loop-i-test.false ∙ c.loop-i.invariant.2
