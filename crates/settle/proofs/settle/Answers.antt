-- `settle::settle` meets its contract.
-- Assumes nothing.
use Rattle.std.proofs.Common.{rules, ◌≡◌, refl, sym}
use Rattle.std.specs.Prelude.{Err}
use Rattle.settle.proofs.Forms.{read_refused}
use Rattle.settle.proofs.settle.Goals as goal

pub returns-in_err-found : goal.returns-in_err-found
returns-in_err-found c =
    let gone : c.from_residual.result ≡ Err c.in_err-found.field-0.0 = search rules in
    let e = read_refused _ (sym c.in_err-found.ensures.outcome) in
    record { answer = rw gone (sym (e.1 _)); out_after = sym (e.2 _); text_unchanged = refl }
