-- `form_reading::float_len` meets its contract.
-- Assumes nothing.
use Rattle.std.proofs.Common.{ap, ◌∙◌}
use Rattle.form_reading.specs.Bare.{bare_of}
use Rattle.form_reading.proofs.Readings.{short, float_read_lem}
use Rattle.form_reading.proofs.Lengths.{bare_in, float_bare, length_or}
use Rattle.form_reading.proofs.float_len.Goals as goal

pub float_len-requires : goal.float_len-requires
float_len-requires c = (short _ c.requires, float_read_lem _ c.args.lit c.requires)

pub returns : goal.returns
returns c =
    ap bare_of c.ok_or.ensures.value ∙ length_or _ _ c.perr_nowhere.ensures ∙ ap bare_in c.float_len.ensures ∙ float_bare _ _
