-- `form_float::put_digits` meets its contract.
-- Assumes nothing.
use borrow.Author.Rules.{rules}
use mathlib.Core.Path.{◌≡◌, sym, ap, ◌∙◌}
use mathlib.Core.List.{List, [], ◌++◌, append_assoc}
use Prim.Native.Nat.{ℕ, ◌+◌, ◌≤◌}
use native.Mathlib.Omega.{arith}
use lib.ListN.{length, length-append}
use Rattle.buffer.proofs.Laws as laws
use Rattle.form_decimal.specs.Digits.{digits_of}
use Rattle.form_decimal.proofs.Digits.{digits_append}
use Rattle.form_float.proofs.put_digits.Goals as goal

-- a block's digits fit after those before it
fits : (done block rest all s : List ℕ) (n : ℕ) → all ≡ block ++ rest → done ++ all ≡ s → length (digits_of s) ≤ n → length (digits_of done) + length (digits_of block) ≤ n
fits done block rest all s n p e r =
    let q = ap (λ (u : List ℕ). length (digits_of (done ++ u))) (sym p) ∙ ap (λ (u : List ℕ). length (digits_of u)) e in
    omega (arith, simp (digits_append, length-append) at q)

pub loop-block-init : goal.loop-block-init
loop-block-init c = (search rules, tt, search rules, ([], search rules, laws.nothing _))

pub slice_bounds-put_block-count : goal.slice_bounds-put_block-count
slice_bounds-put_block-count c =
    let i = c.loop-block.invariant.3 in
    let f = fits i.0 c.in-Some.block.now _ _ c.args.s.now (length c.args.out.now) c.in-Some.ensures.steps.1.0 i.1 c.requires in
    laws.within i.2 (omega (arith, f))

pub slice_bounds-put_block-start : goal.slice_bounds-put_block-start
slice_bounds-put_block-start c =
    let i = c.loop-block.invariant.3 in
    let f = fits i.0 c.in-Some.block.now _ _ c.args.s.now (length c.args.out.now) c.in-Some.ensures.steps.1.0 i.1 c.requires in
    laws.within i.2 (omega (arith, f))

pub put_block-at-requires : goal.put_block-at-requires
put_block-at-requires c =
    let i = c.loop-block.invariant.3 in
    let s = c.in-Some.ensures.steps in
    (omega (arith, s.1.1, c.loop-block.invariant.2), laws.room _ i.2 (fits _ _ _ _ _ _ s.1.0 i.1 c.requires))

pub overflow_add-at : goal.overflow_add-at
overflow_add-at c =
    let i = c.loop-block.invariant.3 in
    let f = fits i.0 c.in-Some.block.now _ _ c.args.s.now (length c.args.out.now) c.in-Some.ensures.steps.1.0 i.1 c.requires in
    omega (arith, f, i.2.count, c.put_block-at.ensures.count, c.well_formed)

pub loop-block-preserved : goal.loop-block-preserved
loop-block-preserved c =
    let i = c.loop-block.invariant.3 in
    let s = c.in-Some.ensures.steps in (
      omega (arith, s.0, c.loop-block.invariant.2),
      tt,
      s.0 ∙ c.loop-block.invariant.2,
      (
        i.0 ++ c.in-Some.block.now,
        append_assoc i.0 _ _ ∙ ap (λ (u : List ℕ). i.0 ++ u) (sym s.1.0) ∙ i.1,
        rw digits_append (laws.past i.2 c.put_block-at.ensures (fits _ _ _ _ _ _ s.1.0 i.1 c.requires)),
      ),
    )
