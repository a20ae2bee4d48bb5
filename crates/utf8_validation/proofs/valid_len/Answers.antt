-- `utf8_validation::valid_len` meets its contract.
-- Assumes nothing.
use mathlib.Core.Path.{sym, ap, ◌∙◌}
use borrow.Author.Rules.{rules}
use Rattle.utf8.specs.Decode.{len_of}
use Rattle.utf8.proofs.At.{decode_one, decode_short, decode_two, decode_three, decode_four, decode_none}
use Rattle.utf8_validation.proofs.valid_len.Goals as goal

pub returns-then-n-eq1 : goal.returns-then-n-eq1
returns-then-n-eq1 c = ap len_of (sym (decode_one _ _ _ c.requires c.char_len-n.ensures c.if-n-eq1.true))

pub returns-then-text-at : goal.returns-then-text-at
returns-then-text-at c = ap len_of (sym (decode_short _ _ _ c.requires c.char_len-n.ensures c.if-n-eq1.false c.if-text-at.true))

pub returns-in-2 : goal.returns-in-2
returns-in-2 c = c.found_len.ensures ∙ ap len_of (c.two.ensures ∙ sym (decode_two _ _ _ c.requires c.char_len-n.ensures c.in-2.is))

pub returns-in-3 : goal.returns-in-3
returns-in-3 c = c.found_len-in-3.ensures ∙ ap len_of (c.three.ensures ∙ sym (decode_three _ _ _ c.requires c.char_len-n.ensures c.in-3.is))

pub returns-in-4 : goal.returns-in-4
returns-in-4 c = c.found_len-in-4.ensures ∙ ap len_of (c.four.ensures ∙ sym (decode_four _ _ _ c.requires c.char_len-n.ensures c.in-4.is))

pub returns-in_default : goal.returns-in_default
returns-in_default c =
    ap len_of (sym (decode_none _ _ _ c.requires c.char_len-n.ensures c.if-n-eq1.false (search rules) (search rules) (search rules)))
