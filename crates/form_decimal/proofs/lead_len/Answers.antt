-- `form_decimal::lead_len` meets its contract.
-- Assumes nothing.
use Rattle.std.proofs.Common.{◌≡◌, true, false, refl, arith, rules, tests}
use Rattle.std.proofs.lemmas.Iterator.{YieldsList-from_slice, IsFirst-from_position, index_from_first}
use Rattle.scan.specs.Run.{run}
use Rattle.form_decimal.specs.Digits.{significant, insignificant}
use Rattle.form_decimal.proofs.lead_len.Goals as goal

pub returns : goal.returns
unfolding insignificant
returns c =
    let at = IsFirst-from_position _ _ _ (λ b. significant b ≡ true) (λ b. significant b ≡ false) c.position.ensures.ran (YieldsList-from_slice c.args.s.now cc) (λ x q k. search (rules, tests)) (λ x q k. search (rules, tests)) in
    let is = index_from_first (run insignificant) (λ b. significant b ≡ true) (λ b. significant b ≡ false) refl (λ x xs h. rw h) (λ x xs h. rw h (omega arith)) c.args.s.now c.position.result at in
    cc (c.unwrap_or.ensures, is)
