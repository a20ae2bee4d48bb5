-- `utf8_blocks::long_utf8` meets its contract.
-- Assumes nothing.
use mathlib.Core.Path.{sym, ◌∙◌}
use native.Mathlib.Omega.{arith}
use Rattle.scan.proofs.Runs.{run_le}
use Rattle.scan.specs.Sets.{ascii}
use Rattle.utf8_blocks.proofs.HighBytes.{ascii_each}
use Rattle.utf8.proofs.Valid.{is_utf8_ascii}
use Rattle.utf8_blocks.proofs.Clean.{clean_text}
use Rattle.utf8_blocks.proofs.Faults.{part_passed, part_refused, after_ascii}
use Rattle.utf8_blocks.proofs.long_utf8.Goals as goal

pub returns-then-at-text : goal.returns-then-at-text
returns-then-at-text c =
    let t = c.args.text.now in
    is_utf8_ascii t (λ k h. ascii_each t _ c.ascii_front-at.ensures k (omega arith))

pub clean_from-requires : goal.clean_from-requires
clean_from-requires c =
    (c.if-at-ge3.true, omega (arith, c.ascii_front-at.ensures, run_le ascii c.args.text.now))

pub returns-then-at-ge3 : goal.returns-then-at-ge3
returns-then-at-ge3 c =
    let t = c.args.text.now in
    c.clean_from.ensures ∙ after_ascii t _ c.if-at-ge3.true (ascii_each t _ c.ascii_front-at.ensures)

pub returns-then-first_fault-ne0 : goal.returns-then-first_fault-ne0
returns-then-first_fault-ne0 c =
    let t = c.args.text.now in
    sym (part_refused 3 0 0 0 t (λ z. c.if-first_fault-ne0.true (c.first_fault.ensures ∙ z))) ∙ clean_text t

pub returns : goal.returns
returns c =
    let t = c.args.text.now in
    c.clean_from-2.ensures ∙
    sym (part_passed 3 0 0 0 t c.requires (sym c.first_fault.ensures ∙ c.if-first_fault-ne0.false)) ∙ clean_text t
