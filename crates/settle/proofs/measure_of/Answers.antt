-- `settle::measure_of` meets its contract.
-- Assumes nothing.
use Rattle.std.proofs.Common.{rules, ◌≡◌, ◌≤◌, length, sym, ◌∙◌, arith}
use Rattle.std.specs.Prelude.{Ok, Err}
use Rattle.err.specs.Reading.{outcome_of, suffix_in}
use Rattle.settle.proofs.Forms.{form_inside, measure_refused, measure_long, measure_formed, refusing}
use Rattle.settle.proofs.measure_of.Goals.{In_ok-n}
use Rattle.settle.proofs.measure_of.Goals as goal

inside : (c : In_ok-n) → (suffix_in (outcome_of (Ok c.args.found)) ≤ length c.args.text.now) × (length c.args.text.now ≤ 65536)
inside c = form_inside _ _ c.requires (sym c.in_ok-n.ensures)

pub returns-in_err-n : goal.returns-in_err-n
returns-in_err-n c =
    let gone : c.from_residual.result ≡ Err c.in_err-n.field-0.0 = search rules in
    rw gone (sym (measure_refused _ _ (sym c.in_err-n.ensures)))

pub overflow_sub-rest : goal.overflow_sub-rest
overflow_sub-rest c = omega (arith, (inside (goal.at.overflow_sub-rest c).In_ok-n).0, c.start_suffix.ensures)

pub overflow_sub-rest-2 : goal.overflow_sub-rest-2
overflow_sub-rest-2 c = omega (arith, (inside (goal.at.overflow_sub-rest-2 c).In_ok-n).1)

pub returns-then-rest-n : goal.returns-then-rest-n
returns-then-rest-n c =
    refusing 47 _ c.perr_nowhere.ensures
    ∙ sym (measure_long _ _ (sym c.in_ok-n.ensures) (omega (arith, c.if-rest-n.true, c.start_suffix.ensures, (inside (goal.at.returns-then-rest-n c).In_ok-n).1)))

pub returns : goal.returns
returns c =
    rw (c.kind.ensures, c.start_suffix.ensures)
    (sym (measure_formed _ _ (sym c.in_ok-n.ensures) (omega (arith, c.if-rest-n.false, c.start_suffix.ensures, (inside (goal.at.returns c).In_ok-n).1))))
