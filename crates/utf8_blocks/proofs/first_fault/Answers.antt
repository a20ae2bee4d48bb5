-- `utf8_blocks::first_fault` meets its contract.
-- Assumes nothing.
use mathlib.Core.Path.{sym, ap, ◌∙◌}
use mathlib.Core.List.{List}
use Prim.Native.Nat.{ℕ}
use lib.ListN.{take}
use Rattle.utf8_blocks.specs.Faults.{worst_from}
use Rattle.utf8_blocks.proofs.Faults.{first_three}
use Rattle.utf8_blocks.proofs.first_fault.Goals as goal

pub returns : goal.returns
returns c =
    c.worst_fault.ensures ∙ ap (λ (s : List ℕ). worst_from 0 0 0 0 (take 3 s)) (sym (first_three c.args.text.now c.requires))
