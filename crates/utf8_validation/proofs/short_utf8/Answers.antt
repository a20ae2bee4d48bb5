-- `utf8_validation::short_utf8` meets its contract.
-- Assumes nothing.
use mathlib.Core.Path.{◌≡◌, sym, ◌∙◌}
use Prim.Native.Nat.{◌+◌, ◌≤◌, ◌<◌}
use native.Mathlib.Omega.{arith}
use lib.ListN.{length, drop}
use Rattle.utf8.specs.Valid.{is_utf8}
use Rattle.utf8.proofs.Valid.{is_utf8_char, is_utf8_bad, is_utf8_end}
use Rattle.utf8_validation.proofs.Ascii.{ascii_utf8}
use Rattle.utf8_validation.proofs.short_utf8.Goals as goal

pub returns-then-is_ascii : goal.returns-then-is_ascii
returns-then-is_ascii c = ascii_utf8 c.args.text.now (sym c.is_ascii.ensures ∙ c.if-is_ascii.true)

pub returns-then-n-eq0 : goal.returns-then-n-eq0
returns-then-n-eq0 c =
    sym (is_utf8_bad c.args.text.now c.loop-at.at _ c.valid_len-n.ensures c.loop-at-test.true c.if-n-eq0.true) ∙ c.loop-at.invariant

-- the character that a turn finds
found : (c : goal.Else-n-eq0) →
    let t = c.args.text.now in
    let n = c.valid_len-n.result in
    (0 < n) × (c.loop-at.at + n ≤ length t) × (is_utf8 (drop (c.loop-at.at + n) t) ≡ is_utf8 (drop c.loop-at.at t))
found c = is_utf8_char c.args.text.now c.loop-at.at _ c.valid_len-n.ensures c.if-n-eq0.false

pub overflow_add-at : goal.overflow_add-at
overflow_add-at c = omega (arith, found c)

pub loop-at-smaller : goal.loop-at-smaller
loop-at-smaller c = omega (arith, found c)

pub loop-at-preserved : goal.loop-at-preserved
loop-at-preserved c = (found c).2 ∙ c.loop-at.invariant

pub returns : goal.returns
returns c = sym (is_utf8_end c.args.text.now c.loop-at.at c.loop-at-test.false) ∙ c.loop-at.invariant
