-- `form_byte::spelling_of` meets its contract.
-- Assumes nothing.
use mathlib.Core.Path.{sym, ◌∙◌}
use mathlib.Core.Logic.{inl, inr}
use native.Mathlib.Omega.{arith}
use Rattle.form_byte.proofs.Styles as styles
use Rattle.form_byte.proofs.spelling_of.Goals as goal

pub returns-then-style : goal.returns-then-style
returns-then-style c = rw (styles.is_high _ _ _ c.if-b-gt127.true, c.if-style.true)

pub returns-else-style : goal.returns-else-style
returns-else-style c = rw (styles.is_high _ _ _ c.if-b-gt127.true, c.if-style.false)

pub returns-in-Some : goal.returns-in-Some
returns-in-Some c = sym (styles.is_letter _ _ _ _ c.if-b-gt127.false (sym c.escape_letter.ensures ∙ c.in-Some.is))

pub returns-in-32-to-126 : goal.returns-in-32-to-126
returns-in-32-to-126 c = sym (styles.is_plain _ _ _ (omega arith) (omega arith) (sym c.escape_letter.ensures ∙ c.in-None.is))

pub returns-in_default : goal.returns-in_default
returns-in_default c = sym (styles.is_x _ _ _ c.if-b-gt127.false (inl (omega arith)) (sym c.escape_letter.ensures ∙ c.in-None.is))

pub returns-in_default-2 : goal.returns-in_default-2
returns-in_default-2 c = sym (styles.is_x _ _ _ c.if-b-gt127.false (inr (omega arith)) (sym c.escape_letter.ensures ∙ c.in-None.is))
