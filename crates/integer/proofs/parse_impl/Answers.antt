-- `integer::parse_impl` meets its contract.
-- Assumes nothing.
use Prim.Native.Nat.{◌-◌}
use mathlib.Core.Path.{◌≡◌, ap, sym, ◌∙◌}
use mathlib.Core.List.{List}
use Prim.Native.Nat.{ℕ}
use native.Mathlib.Omega.{arith}
use Rattle.std.specs.Prelude.{Ok}
use Rattle.std.proofs.lemmas.Grind.{common_steps}
use Rattle.err.specs.Counts.{integer_count}
use Rattle.err.specs.Reading.{refusal_of}
use Rattle.err.specs.declared.IntegerLit.{IntegerLit}
use Rattle.integer.specs.Integer.{Scanned, parsed_of, after_suffix, after_digits, integer_at}
use Rattle.integer.proofs.Suffixed.{after_good, after_refused, suffix_passed}
use Rattle.integer.proofs.Read.{at_scan}
use Rattle.integer.proofs.Scans.{lone, some, scanned_again}
use Rattle.integer.proofs.parse_impl.Goals as goal

pub returns-in_err-lit-clause-outcome : goal.returns-in_err-lit-clause-outcome
returns-in_err-lit-clause-outcome c =
    let h : refusal_of c.in_err-lit.field-0.0 ≡ integer_at c.args.text.now = after_refused _ _ _ _ _ _ c.in_err-lit.ensures.outcome ∙ sym (at_scan _ _ c.scan.ensures) in
    grind (arith, common_steps)

-- once the suffix is good: the literal is what the scan found, and what comes next is the answer
record Passed (m : IntegerLit) (s : List ℕ) : Type 0 where
  scanned : Scanned m s
  rest : after_digits s m.start_main_part m.end_main_part (m.end_main_part - m.start_main_part) (parsed_of (Ok m)) ≡ integer_at s

passed : (l m : IntegerLit) (s : List ℕ) → Scanned l s → parsed_of (Ok m) ≡ after_suffix s l.end_main_part (parsed_of (Ok l)) → integer_count m.digits ≡ integer_count l.digits → Passed m s
passed l m s h e d =
    let g = suffix_passed _ _ _ (sym e) in
    let again = scanned_again l m s h (sym g.1) cc in
    let z : m.end_main_part ≡ l.end_main_part = cc in
    record { scanned = again; rest = after_good _ _ _ (rw z (sym g.0)) ∙ sym (at_scan _ _ again) }

pub overflow_sub-n : goal.overflow_sub-n
overflow_sub-n c =
    let e = c.in_ok-lit.ensures in
    let p = passed c.scan.result c.in_ok-lit.lit _ c.scan.ensures e.outcome e.counts in
    omega (arith, p.scanned.end)

pub overflow_add-n : goal.overflow_add-n
overflow_add-n c =
    let e = c.in_ok-lit.ensures in
    let p = passed c.scan.result c.in_ok-lit.lit _ c.scan.ensures e.outcome e.counts in
    omega (arith, p.scanned.fits, c.well_formed)

pub returns-then-has_e-clause-outcome : goal.returns-then-has_e-clause-outcome
unfolding after_digits
returns-then-has_e-clause-outcome c =
    let e = c.in_ok-lit.ensures in
    let p = passed c.scan.result c.in_ok-lit.lit _ c.scan.ensures e.outcome e.counts in
    c.perr.ensures ∙ rw (← p.rest, sym c.if-has_e.ensures)

pub returns-then-lit-eq0-clause-outcome : goal.returns-then-lit-eq0-clause-outcome
unfolding after_digits
returns-then-lit-eq0-clause-outcome c =
    let e = c.in_ok-lit.ensures in
    let p = passed c.scan.result c.in_ok-lit.lit _ c.scan.ensures e.outcome e.counts in
    c.perr-then-lit-eq0.ensures ∙ rw (← p.rest, sym c.if-has_e.ensures, lone _ _ p.scanned c.if-lit-eq0.true)

pub returns-clause-outcome : goal.returns-clause-outcome
unfolding after_digits
returns-clause-outcome c =
    let e = c.in_ok-lit.ensures in
    let p = passed c.scan.result c.in_ok-lit.lit _ c.scan.ensures e.outcome e.counts in
    rw (← p.rest, sym c.if-has_e.ensures, some _ _ p.scanned c.if-lit-eq0.false)

pub returns-clause-counts : goal.returns-clause-counts
returns-clause-counts c =
    let e = c.in_ok-lit.ensures in
    ap integer_count (passed c.scan.result c.in_ok-lit.lit _ c.scan.ensures e.outcome e.counts).scanned.count
