-- `form_reading::integer_len` meets its contract.
-- Assumes nothing.
use Rattle.std.proofs.Common.{rules, ◌≡◌, sym, ap, ◌∙◌}
use Rattle.std.specs.Prelude.{None, Err}
use Rattle.scan.proofs.Parts.{part_to_end}
use Rattle.form_reading.specs.Bare.{len}
use Rattle.form_reading.proofs.Readings.{integer_ends}
use Rattle.form_reading.proofs.Lengths.{is_within, is_over, no_value}
use Rattle.form_reading.proofs.integer_len.Goals as goal

pub returns-in_err-n : goal.returns-in_err-n
returns-in_err-n c =
    let gone : c.from_residual.result ≡ Err c.in_err-n.field-0.0 = search rules in
    let none : c.number_of.result ≡ None = c.in_err-n.ensures.ok_part in
    rw gone (no_value _ _ _ c.in_err-n.ensures.value none c.perr_nowhere.ensures ∙ is_over _ _ (sym none ∙ c.number_of.ensures))

pub slice_bounds-form_len-count : goal.slice_bounds-form_len-count
slice_bounds-form_len-count c = (integer_ends _ c.args.lit c.requires).1

pub slice_bounds-form_len-start : goal.slice_bounds-form_len-start
slice_bounds-form_len-start c = (integer_ends _ c.args.lit c.requires).1

pub returns : goal.returns
returns c =
    ap len (rw part_to_end at c.form_len.ensures.0) ∙ is_within _ _ (sym c.in_ok-n.ensures.ok_part ∙ c.number_of.ensures)
