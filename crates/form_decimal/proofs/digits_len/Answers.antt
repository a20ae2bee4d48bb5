-- `form_decimal::digits_len` meets its contract.
-- Assumes nothing.
use mathlib.Core.Path.{◌≡◌, ap, ◌∙◌}
use mathlib.Core.List.{List}
use Prim.Native.Nat.{ℕ, ◌+◌}
use native.Mathlib.Omega.{arith}
use borrow.Author.Rules.{rules}
use lib.ListN.{length, length-append}
use Rattle.std.specs.Slice.Iter.{chunks_rest}
use Rattle.form_decimal.specs.Digits.{digits_of}
use Rattle.form_decimal.proofs.Digits.{digits_append, digits_short}
use Rattle.form_decimal.proofs.digits_len.Goals as goal

-- the block's digits are the first of those left
first : (c : goal.After-from-n) → length (digits_of (chunks_rest c.loop-block.block-iterator)) ≡ c.count.result + length (digits_of (chunks_rest c.next.new.self))
first c =
    let e = ap (λ (u : List ℕ). length (digits_of u)) c.in-Some.ensures.steps.1.0 in
    omega (arith, simp (digits_append, length-append) at e, c.count.ensures)

pub loop-block-init : goal.loop-block-init
loop-block-init c = (search rules, tt, search rules, search rules)

pub count-requires : goal.count-requires
count-requires c = omega (arith, c.in-Some.ensures.steps.1.1, c.loop-block.invariant.2)

pub overflow_add-n : goal.overflow_add-n
overflow_add-n c = omega (arith, first c, c.loop-block.invariant.3, digits_short c.args.s.now, c.well_formed)

pub loop-block-preserved : goal.loop-block-preserved
loop-block-preserved c =
    let s = c.in-Some.ensures.steps in
    (omega (arith, s.0, c.loop-block.invariant.2), tt, s.0 ∙ c.loop-block.invariant.2, omega (arith, first c, c.loop-block.invariant.3))

pub returns : goal.returns
returns c =
    let none = digits_short (chunks_rest c.loop-block.block-iterator) in
    let all : c.loop-block.n ≡ length (digits_of c.args.s.now) = omega (arith, none, c.in-None.ensures.steps.1.0, c.loop-block.invariant.3) in
    (all, omega (arith, all, digits_short c.args.s.now))
