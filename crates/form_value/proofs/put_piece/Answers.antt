-- `form_value::put_piece` meets its contract.
-- Assumes nothing.
use Rattle.buffer.proofs.Laws as laws
use Rattle.form_byte.proofs.Styles as styles
use Rattle.form_value.proofs.put_piece.Goals as goal

pub put_form-requires : goal.put_form-requires
put_form-requires c = rw (c.in-Byte.is, styles.forms_one) at c.requires.1

pub put_char_form-requires : goal.put_char_form-requires
put_char_form-requires c = rw c.in-Unicode.is at c.requires

pub returns-in-Nothing : goal.returns-in-Nothing
returns-in-Nothing c = rw c.in-Nothing.is (laws.nothing _)

pub returns-in-Byte : goal.returns-in-Byte
returns-in-Byte c = rw (c.in-Byte.is, styles.forms_one) c.put_form.ensures

pub returns-in-Unicode : goal.returns-in-Unicode
returns-in-Unicode c = rw c.in-Unicode.is c.put_char_form.ensures
