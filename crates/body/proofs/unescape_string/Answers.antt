-- `body::unescape_string` meets its contract.
-- Assumes nothing.
use mathlib.Core.Path.{refl, ◌∙◌}
use Rattle.scan.proofs.Parts.{part_to_end}
use Rattle.err.specs.Outcome.{not_raw}
use Rattle.body.specs.Step.{step_of}
use Rattle.body.proofs.Within.{step_in}
use Rattle.body.proofs.Strings as strings
use Rattle.body.proofs.unescape_string.Goals as goal

pub after_body-requires : goal.after_body-requires
after_body-requires c =
    (refl, strings.fitting (step_of c.args.k) 1 (step_in c.args.k) c.args.text.now c.args.offset c.requires.0 _ (rw part_to_end at c.measure-m.ensures))

pub returns : goal.returns
returns c =
    c.after_body.ensures
    ∙ strings.measured c.args.text.now not_raw c.args.offset _ _ (rw part_to_end at c.measure-m.ensures)
    ∙ strings.string_is _ _ _
