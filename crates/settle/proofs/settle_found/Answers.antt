-- `settle::settle_found` meets its contract.
-- Assumes nothing.
use Rattle.std.proofs.Common.{rules, ◌≡◌, length, sym, ◌∙◌}
use Rattle.std.specs.Prelude.{Ok, Err}
use Rattle.err.specs.Reading.{outcome_of}
use Rattle.settle.proofs.Forms.{Ready, formed_fits, bound_ready, settle_refused, settle_small, settle_written, refusing}
use Rattle.settle.proofs.settle_found.Goals.{then-not-fits_by_bound+in_ok-n+else-out-n, else-not-fits_by_bound}
use Rattle.settle.proofs.settle_found.Goals as goal

pub returns-in_err-n : goal.returns-in_err-n
returns-in_err-n c =
    let gone : c.from_residual.result ≡ Err c.in_err-n.field-0.0 = search rules in
    let a = settle_refused _ _ _ c.requires c.in_err-n.ensures in
    record { answer = rw gone a.0; out_after = a.1 }

pub returns-then-out-n : goal.returns-then-out-n
returns-then-out-n c =
    let a = settle_small _ _ _ c.requires c.in_ok-n.ensures c.if-out-n.true in
    record { answer = refusing 48 _ c.perr_nowhere.ensures ∙ a.0; out_after = a.1 }

pub put_reading-n-requires : goal.put_reading-n-requires
put_reading-n-requires c =
    -- measured or not, the form is there and fits
    let f : Ready c.args.text.now (outcome_of (Ok c.args.found)) (length c.args.out.now) =
    elim c.if-not-fits_by_bound.branch [
      | then-not-fits_by_bound+in_ok-n+else-out-n w ↦ formed_fits _ _ (sym w.in_ok-n.ensures) w.if-out-n.false
      | else-not-fits_by_bound w ↦ bound_ready _ _ c.args.found c.requires (sym c.fits_by_bound.ensures ∙ w.if-not-fits_by_bound.false)
    ] in
    (c.requires, f.0)

pub returns : goal.returns
returns c =
    -- measured or not, the form is there and fits
    let f : Ready c.args.text.now (outcome_of (Ok c.args.found)) (length c.args.out.now) =
    elim c.if-not-fits_by_bound.branch [
      | then-not-fits_by_bound+in_ok-n+else-out-n w ↦ formed_fits _ _ (sym w.in_ok-n.ensures) w.if-out-n.false
      | else-not-fits_by_bound w ↦ bound_ready _ _ c.args.found c.requires (sym c.fits_by_bound.ensures ∙ w.if-not-fits_by_bound.false)
    ] in
    let a = settle_written _ _ _ c.requires f.1 f.0.fits in
    record {
      answer = rw (c.kind.ensures, c.put_reading-n.ensures.count) a.0;
      out_after = c.put_reading-n.ensures.bytes ∙ a.1;
    }
