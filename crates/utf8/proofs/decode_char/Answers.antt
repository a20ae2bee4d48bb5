-- `utf8::decode_char` meets its contract.
-- Assumes nothing.
use mathlib.Core.Path.{sym, ap, ◌∙◌}
use Prim.Native.Nat.{ℕ}
use native.Mathlib.Omega.{arith}
use Rattle.std.specs.Prelude.{Some}
use borrow.Author.Rules.{rules}
use Rattle.utf8.proofs.At.{decode_past, decode_one, decode_short, decode_two, decode_three, decode_four, decode_none}
use Rattle.utf8.proofs.decode_char.Goals as goal

pub returns-then-text-at : goal.returns-then-text-at
returns-then-text-at c = sym (decode_past _ _ c.if-text-at.true)

pub returns-then-text-at-2 : goal.returns-then-text-at-2
returns-then-text-at-2 c = let within = c.if-text-at.false in
    sym (decode_short _ _ _ within c.char_len-n.ensures (λ e. omega (arith, within, e, c.if-text-at-2.true)) c.if-text-at-2.true)

pub returns-in-1 : goal.returns-in-1
returns-in-1 c = ap (λ (x : ℕ). Some (x, 1)) c.from.ensures ∙ sym (decode_one _ _ _ c.if-text-at.false c.char_len-n.ensures c.in-1.is)

pub returns-in-2 : goal.returns-in-2
returns-in-2 c = c.two.ensures ∙ sym (decode_two _ _ _ c.if-text-at.false c.char_len-n.ensures c.in-2.is)

pub returns-in-3 : goal.returns-in-3
returns-in-3 c = c.three.ensures ∙ sym (decode_three _ _ _ c.if-text-at.false c.char_len-n.ensures c.in-3.is)

pub returns-in-4 : goal.returns-in-4
returns-in-4 c = c.four.ensures ∙ sym (decode_four _ _ _ c.if-text-at.false c.char_len-n.ensures c.in-4.is)

pub returns-in_default : goal.returns-in_default
returns-in_default c = sym (decode_none _ _ _ c.if-text-at.false c.char_len-n.ensures (search rules) (search rules) (search rules) (search rules))
