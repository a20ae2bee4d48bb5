-- `form_value::put_char_form` meets its contract.
-- Assumes nothing.
use Rattle.form_byte.proofs.Styles as styles
use Rattle.form_value.proofs.put_char_form.Goals as goal

pub put_form-requires : goal.put_form-requires
put_form-requires c = rw (styles.forms_ascii _ _ _ c.if-c-lt128.true) at c.requires.1

pub returns-then-c-lt128 : goal.returns-then-c-lt128
returns-then-c-lt128 c = rw (styles.forms_ascii _ _ _ c.if-c-lt128.true) c.put_form.ensures

pub encode_char-requires : goal.encode_char-requires
encode_char-requires c =
    let p = c.requires in (p.0, rw (c.if-style.true, styles.char_wide _ _ c.if-c-lt128.false) at p.1)

pub returns-then-style : goal.returns-then-style
returns-then-style c =
    rw (c.if-style.true, styles.char_wide _ _ c.if-c-lt128.false) c.encode_char.ensures
