-- `float::after_number` meets its contract.
-- Assumes nothing.
use mathlib.Core.Path.{◌≡◌, sym, ◌∙◌}
use native.Mathlib.Omega.{arith}
use lib.ListN.{drop}
use borrow.Author.Tests.{ne_eqb}
use Rattle.err.specs.Numbers.{number_of}
use Rattle.err.proofs.Positive.{number_positive}
use Rattle.scan.proofs.Parts.{part_to_end}
use Rattle.suffix.specs.Suffix.{suffix_fault}
use Rattle.suffix.proofs.Suffixes.{no_suffix}
use Rattle.float.specs.Float.{after_number}
use Rattle.float.proofs.after_number.Goals as goal

pub returns-then-end-text-clause-outcome : goal.returns-then-end-text-clause-outcome
unfolding after_number
returns-then-end-text-clause-outcome c = rw (no_suffix _ _ c.if-end-text.true) c.not_integer.ensures.outcome

pub returns-in_default-clause-outcome : goal.returns-in_default-clause-outcome
unfolding after_number
returns-in_default-clause-outcome c =
    let a = c.args in
    let good : suffix_fault (drop a.lit.end_number_part a.text.now) ≡ 0 = sym (c.in_default.ensures ∙ rw part_to_end) in
    rw good c.not_integer-in_default.ensures.outcome

pub returns-clause-outcome : goal.returns-clause-outcome
unfolding after_number
returns-clause-outcome c =
    let a = c.args in
    let k = c.in-Err.kind in
    let fault : number_of k ≡ suffix_fault (drop a.lit.end_number_part a.text.now) = c.in-Err.ensures ∙ rw part_to_end in
    c.perr.ensures ∙ rw (← fault, ne_eqb (number_of k) 0 (λ e. omega (arith, number_positive k)))
