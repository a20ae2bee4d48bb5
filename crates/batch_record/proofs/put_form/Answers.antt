-- `batch_record::put_form` meets its contract.
-- Assumes nothing.
use mathlib.Core.Path.{sym}
use native.Mathlib.Omega.{arith}
use Rattle.batch_record.proofs.Laws as laws
use Rattle.batch_record.proofs.put_form.Goals as goal

pub returns-in-Err : goal.returns-in-Err
returns-in-Err c =
    let d = c.in-Err.ensures in
    let p = c.put_refusal.ensures in
    record { wrote = (rw (← d.answer) p.0, omega (arith, p.1)); out_after = d.out_after }

pub put_formed-requires : goal.put_formed-requires
put_formed-requires c = omega (arith, laws.settled_fits _ _ (sym c.in-Ok.ensures.answer), c.requires)

pub returns-in-Ok : goal.returns-in-Ok
returns-in-Ok c =
    let d = c.in-Ok.ensures in
    let a = c.args in
    let p = c.put_formed.ensures in
    let is = sym d.answer in
    record {
      wrote = (
        rw (is, ← laws.form_written a.text.now a.out.now is, ← d.out_after) p.0,
        omega (arith, p.1, laws.settled_fits _ _ is),
      );
      out_after = d.out_after;
    }
