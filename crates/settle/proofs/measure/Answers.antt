-- `settle::measure` meets its contract.
-- Assumes nothing.
use Rattle.std.proofs.Common.{rules, ◌≡◌, refl, sym, ap, ◌∙◌}
use Rattle.std.specs.Prelude.{Err}
use Rattle.settle.specs.Settled.{measure_of, measure_at}
use Rattle.settle.proofs.Forms.{read_refused}
use Rattle.settle.proofs.measure.Goals as goal

pub returns-in_err-found : goal.returns-in_err-found
returns-in_err-found c =
    let gone : c.from_residual.result ≡ Err c.in_err-found.field-0.0 = search rules in
    record { answer = rw gone (sym (read_refused _ (sym c.in_err-found.ensures.outcome)).0); text_unchanged = refl }

pub returns : goal.returns
unfolding measure_at
returns c = record { answer = c.measure_of.ensures ∙ ap (measure_of c.args.text.now) c.in_ok-found.ensures.outcome; text_unchanged = refl }
