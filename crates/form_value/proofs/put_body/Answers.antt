-- `form_value::put_body` meets its contract.
-- Assumes nothing.
use Rattle.std.proofs.Common.{◌≡◌, ℕ, ◌+◌, ◌-◌, ◌≤◌, List, [], ◌++◌, length, take, drop, sym, ap, ◌∙◌, length-append, arith}
use mathlib.Core.Path.{subst}
use borrow.Rule.Slice.PartMut.{put_mid}
use Rattle.buffer.specs.Buffer.{Wrote}
use Rattle.buffer.proofs.Laws as laws
use Rattle.utf8.proofs.Cuts.{last_le}
use Rattle.escape.specs.Escape.{bytes_of}
use Rattle.body.specs.Body.{Body, body_by, body}
use Rattle.body.specs.Step.{step_of}
use Rattle.body.proofs.Bodies.{Passed, start}
use Rattle.form_byte.specs.Styled.{styled_forms}
use Rattle.form_byte.proofs.Styles as styles
use Rattle.form_value.proofs.Passing as passing
use Rattle.form_value.proofs.put_body.Goals.{At-loop-c}
use Rattle.form_value.proofs.put_body.Goals as goal

module _ (l : At-loop-c) where
  abbrev forms : List ℕ → List ℕ
  forms v = styled_forms l.args.style.verbatim l.args.style.quote v

  abbrev so_far : List ℕ
  so_far = l.loop-c.invariant.0

  -- the form of what is passed is a part of the whole, so it fits
  part : {i : ℕ} {v : List ℕ} → Passed (step_of l.args.k) l.args.s.now i v → length (forms v) ≤ length l.args.out.now
  part {i} {v} p =
      let rest = (body_by (step_of l.args.k) (drop i l.args.s.now)).value in
      omega (
        arith,
        ap (λ (x : Body). length (forms x.value)) p.is,
        ap length (styles.forms_append l.args.style.verbatim l.args.style.quote v rest),
        length-append (forms v) (forms rest),
        l.requires.1,
      )

  past : l.loop-c.at ≤ length l.loop-c.out
  past = laws.within l.loop-c.invariant.2 (part l.loop-c.invariant.1)

  -- where the body ends, the whole form is written
  ended : so_far ≡ (body l.args.k l.args.s.now).value
      → Wrote (forms (body l.args.k l.args.s.now).value) l.loop-c.at l.args.out.now l.loop-c.out
  ended e = subst (λ (v : List ℕ). Wrote (forms v) l.loop-c.at l.args.out.now l.loop-c.out) e l.loop-c.invariant.2

  module _ (v : List ℕ) {i : ℕ} (p : Passed (step_of l.args.k) l.args.s.now i (so_far ++ v)) where
    -- a piece more fits
    fits : length (forms so_far) + length (forms v) ≤ length l.args.out.now
    fits =
        omega (
          arith,
          part p,
          ap length (styles.forms_append l.args.style.verbatim l.args.style.quote so_far v),
          length-append (forms so_far) (forms v),
        )

    -- and is written after what is passed
    further : (n : ℕ) (ys : List ℕ) → Wrote (forms v) n (take (length l.loop-c.out - l.loop-c.at) (drop l.loop-c.at l.loop-c.out)) ys
        → Wrote (forms (so_far ++ v)) (l.loop-c.at + n) l.args.out.now
        (put_mid l.loop-c.at (length l.loop-c.out - l.loop-c.at) l.loop-c.out ys)
    further n ys w =
        rw (styles.forms_append l.args.style.verbatim l.args.style.quote so_far v) (laws.past l.loop-c.invariant.2 w fits)

    -- so the place after it fits its type
    counts : (n : ℕ) (ys : List ℕ) → Wrote (forms v) n (take (length l.loop-c.out - l.loop-c.at) (drop l.loop-c.at l.loop-c.out)) ys
        → l.loop-c.at + n ≤ length l.args.out.now
    counts n ys w = omega (arith, fits, l.loop-c.invariant.2.count, w.count)

pub overflow_sub-end : goal.overflow_sub-end
overflow_sub-end c = omega (arith, c.last_len.ensures, last_le c.args.s.now)

pub loop-c-init : goal.loop-c-init
loop-c-init c = ([], start _ _, laws.nothing _)

pub returns-then-c-eq0 : goal.returns-then-c-eq0
returns-then-c-eq0 c =
    ended (goal.at.returns-then-c-eq0 c).At-loop-c
    (passing.ends_at_code _ _ _ _ c.loop-c.invariant.1 _ c.packed_at-c.ensures (sym c.byte_at.ensures ∙ c.if-byte_at-eq92.true) c.if-c-eq0.true)

pub slice_bounds-put_piece-count : goal.slice_bounds-put_piece-count
slice_bounds-put_piece-count c = past (goal.at.slice_bounds-put_piece-count c).At-loop-c

pub slice_bounds-put_piece-start : goal.slice_bounds-put_piece-start
slice_bounds-put_piece-start c = past (goal.at.slice_bounds-put_piece-start c).At-loop-c

pub put_piece-at-requires : goal.put_piece-at-requires
put_piece-at-requires c =
    let l = (goal.at.put_piece-at-requires c).At-loop-c in
    let r = passing.piece_room _ _ _ _ l.loop-c.invariant.1 _ c.packed_at-c.ensures c.if-c-eq0.false _ c.packed_value.ensures in
    let p = passing.piece_passed _ _ _ _ l.loop-c.invariant.1 _ c.packed_at-c.ensures c.if-c-eq0.false _ c.packed_value.ensures in
    (r.2, laws.room _ l.loop-c.invariant.2 (fits l (bytes_of c.packed_value.result) p))

pub overflow_add-at : goal.overflow_add-at
overflow_add-at c =
    let l = (goal.at.overflow_add-at c).At-loop-c in
    let p = passing.piece_passed _ _ _ _ l.loop-c.invariant.1 _ c.packed_at-c.ensures c.if-c-eq0.false _ c.packed_value.ensures in
    omega (arith, counts l (bytes_of c.packed_value.result) p _ _ c.put_piece-at.ensures, c.well_formed)

pub overflow_add-i : goal.overflow_add-i
overflow_add-i c =
    let r = passing.piece_room _ _ _ _ c.loop-c.invariant.1 _ c.packed_at-c.ensures c.if-c-eq0.false _ c.packed_value.ensures in
    omega (arith, r.1, c.packed_len-i.ensures, c.requires)

pub loop-c-smaller-then-byte_at-eq92 : goal.loop-c-smaller-then-byte_at-eq92
loop-c-smaller-then-byte_at-eq92 c =
    let r = passing.piece_room _ _ _ _ c.loop-c.invariant.1 _ c.packed_at-c.ensures c.if-c-eq0.false _ c.packed_value.ensures in
    omega (arith, r.0, r.1, c.packed_len-i.ensures)

pub loop-c-preserved-then-byte_at-eq92 : goal.loop-c-preserved-then-byte_at-eq92
loop-c-preserved-then-byte_at-eq92 c =
    let l = (goal.at.loop-c-preserved-then-byte_at-eq92 c).At-loop-c in
    let v = bytes_of c.packed_value.result in
    let p = passing.piece_passed _ _ _ _ l.loop-c.invariant.1 _ c.packed_at-c.ensures c.if-c-eq0.false _ c.packed_value.ensures in
    (so_far l ++ v, rw c.packed_len-i.ensures p, further l v p _ _ c.put_piece-at.ensures)

pub returns-then-e-i : goal.returns-then-e-i
returns-then-e-i c =
    ended (goal.at.returns-then-e-i c).At-loop-c
    (passing.ends_at_run _ _ _ _ c.loop-c.invariant.1 _ c.plain_end-e.ensures (λ x. c.if-byte_at-eq92.false (c.byte_at.ensures ∙ x)) c.if-e-i.true)

pub slice_bounds-put_forms-count : goal.slice_bounds-put_forms-count
slice_bounds-put_forms-count c = past (goal.at.slice_bounds-put_forms-count c).At-loop-c

pub slice_bounds-put_forms-start : goal.slice_bounds-put_forms-start
slice_bounds-put_forms-start c = past (goal.at.slice_bounds-put_forms-start c).At-loop-c

pub slice_bounds-put_forms-end-in-loop-c : goal.slice_bounds-put_forms-end-in-loop-c
slice_bounds-put_forms-end-in-loop-c c = (passing.run_counts _ _ _ _ c.loop-c.invariant.1 _ c.plain_end-e.ensures).1

pub put_forms-at-requires : goal.put_forms-at-requires
put_forms-at-requires c =
    let l = (goal.at.put_forms-at-requires c).At-loop-c in
    let v = take (c.plain_end-e.result - c.loop-c.i) (drop c.loop-c.i c.args.s.now) in
    laws.room _ l.loop-c.invariant.2 (fits l v (passing.run_passed _ _ _ _ l.loop-c.invariant.1 _ c.plain_end-e.ensures))

pub overflow_add-at-in-loop-c : goal.overflow_add-at-in-loop-c
overflow_add-at-in-loop-c c =
    let l = (goal.at.overflow_add-at-in-loop-c c).At-loop-c in
    let v = take (c.plain_end-e.result - c.loop-c.i) (drop c.loop-c.i c.args.s.now) in
    omega (
      arith,
      counts l v (passing.run_passed _ _ _ _ l.loop-c.invariant.1 _ c.plain_end-e.ensures) _ _ c.put_forms-at.ensures,
      c.well_formed,
    )

pub loop-c-preserved : goal.loop-c-preserved
loop-c-preserved c =
    let l = (goal.at.loop-c-preserved c).At-loop-c in
    let v = take (c.plain_end-e.result - c.loop-c.i) (drop c.loop-c.i c.args.s.now) in
    let p = passing.run_passed _ _ _ _ l.loop-c.invariant.1 _ c.plain_end-e.ensures in
    (so_far l ++ v, p, further l v p _ _ c.put_forms-at.ensures)
