-- `raw::scan_raw_string` meets its contract.
-- Assumes nothing.
use mathlib.Core.Path.{◌≡◌, refl, ◌∙◌}
use mathlib.Core.List.{List}
use Prim.Native.Nat.{ℕ, ◌≤◌, ◌+◌}
use native.Mathlib.Omega.{arith}
use lib.ListN.{length, drop, length-drop}
use Rattle.err.specs.Outcome.{raw}
use Rattle.scan.specs.Run.{run}
use Rattle.scan.specs.Sets.{only}
use Rattle.scan.proofs.Parts.{part_to_end}
use Rattle.scan.proofs.Runs.{run_le}
use Rattle.body.proofs.Strings.{refused_quote, fitting, measured}
use Rattle.raw.specs.Raw.{raw_step_of}
use Rattle.raw.proofs.Steps.{raw_in}
use Rattle.raw.proofs.Strings as strings
use Rattle.raw.proofs.scan_raw_string.Goals as goal

-- the hashes end in the text
hashes : (s : List ℕ) (i h : ℕ) → h ≡ run (only 35) (drop i s) → i ≤ length s → i + h ≤ length s
hashes s i h e l = omega (arith, run_le (only 35) (drop i s), length-drop i s)

pub overflow_add-at : goal.overflow_add-at
overflow_add-at c =
    let a = c.args in
    omega (arith, hashes a.text.now a.offset _ (rw part_to_end at c.run_len-h.ensures) c.requires, c.well_formed)

pub returns-then-at-text : goal.returns-then-at-text
returns-then-at-text c =
    refused_quote c.perr_nowhere.ensures ∙ strings.only_hashes _ _ _ _ (rw part_to_end at c.run_len-h.ensures) c.if-at-text.true

pub returns-then-h-gt255 : goal.returns-then-h-gt255
returns-then-h-gt255 c =
    refused_quote c.perr.ensures ∙ strings.too_many _ _ _ _ (rw part_to_end at c.run_len-h.ensures) c.if-at-text.false c.if-h-gt255.true

pub bounds-text-at : goal.bounds-text-at
bounds-text-at c =
    let a = c.args in
    omega (arith, hashes a.text.now a.offset _ (rw part_to_end at c.run_len-h.ensures) c.requires, c.if-at-text.false)

pub returns-then-text-at-ne34 : goal.returns-then-text-at-ne34
returns-then-text-at-ne34 c =
    refused_quote c.perr_nowhere-then-text-at-ne34.ensures
    ∙ strings.no_quote _ _ _ _ (rw part_to_end at c.run_len-h.ensures) c.if-at-text.false c.if-h-gt255.false c.if-text-at-ne34.true

pub after_body-requires : goal.after_body-requires
after_body-requires c =
    let a = c.args in
    let h = c.run_len-h.result in
    let l : a.offset + h + 1 ≤ length a.text.now = omega (arith, hashes a.text.now a.offset _ (rw part_to_end at c.run_len-h.ensures) c.requires, c.if-at-text.false) in
    (refl, fitting (raw_step_of a.k h) (h + 1) (raw_in a.k h) a.text.now (a.offset + h + 1) l _ (rw part_to_end at c.measure_raw-m.ensures))

pub returns : goal.returns
returns c =
    let a = c.args in
    let h = c.run_len-h.result in
    c.after_body.ensures
    ∙ measured a.text.now (raw h) (a.offset + h + 1) _ _ (rw part_to_end at c.measure_raw-m.ensures)
    ∙ strings.raw_is _ _ _ _ (rw part_to_end at c.run_len-h.ensures) c.if-at-text.false c.if-h-gt255.false c.if-text-at-ne34.false
