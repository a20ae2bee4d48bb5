-- `character::parse` meets its contract.
-- Assumes nothing.
use mathlib.Core.Path.{◌≡◌, sym, ◌∙◌}
use native.Mathlib.Omega.{arith}
use Rattle.std.proofs.lemmas.Grind.{common_steps}
use Rattle.character.specs.Single.{single_at, read_by}
use Rattle.character.proofs.Start.{read_some}
use Rattle.character.proofs.Values.{value_fits}
use Rattle.character.proofs.parse.Goals as goal

pub literal-requires : goal.literal-requires
literal-requires c =
    let a = c.args in
    let single : read_by a.q a.text.now ≡ single_at a.q a.text.now = grind (arith, common_steps, read_some) in
    value_fits a.q a.text.now (single ∙ sym c.in_ok-value.ensures)
