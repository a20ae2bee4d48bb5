-- `form_value::body_len` meets its contract.
-- Assumes nothing.
use Rattle.std.proofs.Common.{◌≡◌, ℕ, ◌+◌, ◌-◌, ◌*◌, ◌≤◌, Bool, List, ◌++◌, length, take, drop, sym, ap, ◌∙◌, length-append, arith}
use Rattle.utf8.proofs.Cuts.{last_le}
use Rattle.escape.specs.Escape.{bytes_of}
use Rattle.body.specs.Body.{body}
use Rattle.form_byte.specs.Styled.{styled_forms}
use Rattle.form_byte.proofs.Styles as styles
use Rattle.form_value.proofs.Passing as passing
use Rattle.form_value.proofs.body_len.Goals.{At-loop-c}
use Rattle.form_value.proofs.body_len.Goals as goal

-- a piece more: the form of what is passed is as much longer
longer : (w : Bool) (q : ℕ) (v u : List ℕ) (n m : ℕ)
    → n ≡ length (styled_forms w q v) → m ≡ length (styled_forms w q u) → n + m ≡ length (styled_forms w q (v ++ u))
longer w q v u n m e f = rw (styles.forms_append w q v u, length-append) (omega arith)

-- it has at most four bytes for each that was read
short : (l : At-loop-c) → l.loop-c.n ≤ 4 * length l.args.s.now
short l =
    let i = l.loop-c.invariant in
    omega (arith, i.2, styles.forms_short l.args.style.verbatim l.args.style.quote i.0, i.1.short, i.1.within)

-- at the end of the body it is the whole form
at_end : (l : At-loop-c) → l.loop-c.invariant.0 ≡ (body l.args.k l.args.s.now).value →
    (l.loop-c.n ≡ length (styled_forms l.args.style.verbatim l.args.style.quote (body l.args.k l.args.s.now).value))
    × (l.loop-c.n ≤ 4 * length l.args.s.now)
at_end l e =
    (l.loop-c.invariant.2 ∙ ap (λ (v : List ℕ). length (styled_forms l.args.style.verbatim l.args.style.quote v)) e, short l)

pub overflow_sub-end : goal.overflow_sub-end
overflow_sub-end c = omega (arith, c.last_len.ensures, last_le c.args.s.now)

pub returns-then-c-eq0 : goal.returns-then-c-eq0
returns-then-c-eq0 c =
    at_end (goal.at.returns-then-c-eq0 c).At-loop-c
    (passing.ends_at_code _ _ _ _ c.loop-c.invariant.1 _ c.packed_at-c.ensures (sym c.byte_at.ensures ∙ c.if-byte_at-eq92.true) c.if-c-eq0.true)

pub overflow_add-n : goal.overflow_add-n
overflow_add-n c = omega (arith, short (goal.at.overflow_add-n c).At-loop-c, c.piece_len-n.ensures.1, c.requires)

pub overflow_add-i : goal.overflow_add-i
overflow_add-i c =
    let r = passing.piece_room _ _ _ _ c.loop-c.invariant.1 _ c.packed_at-c.ensures c.if-c-eq0.false _ c.packed_value.ensures in
    omega (arith, r.1, c.packed_len-i.ensures, c.requires)

pub loop-c-smaller-then-byte_at-eq92 : goal.loop-c-smaller-then-byte_at-eq92
loop-c-smaller-then-byte_at-eq92 c =
    let r = passing.piece_room _ _ _ _ c.loop-c.invariant.1 _ c.packed_at-c.ensures c.if-c-eq0.false _ c.packed_value.ensures in
    omega (arith, r.0, r.1, c.packed_len-i.ensures)

pub loop-c-preserved-then-byte_at-eq92 : goal.loop-c-preserved-then-byte_at-eq92
loop-c-preserved-then-byte_at-eq92 c =
    let i = c.loop-c.invariant in
    let p = passing.piece_passed _ _ _ _ i.1 _ c.packed_at-c.ensures c.if-c-eq0.false _ c.packed_value.ensures in
    (i.0 ++ bytes_of c.packed_value.result, rw c.packed_len-i.ensures p, longer _ _ i.0 (bytes_of c.packed_value.result) _ _ i.2 c.piece_len-n.ensures.0)

pub returns-then-e-i : goal.returns-then-e-i
returns-then-e-i c =
    at_end (goal.at.returns-then-e-i c).At-loop-c
    (passing.ends_at_run _ _ _ _ c.loop-c.invariant.1 _ c.plain_end-e.ensures (λ x. c.if-byte_at-eq92.false (c.byte_at.ensures ∙ x)) c.if-e-i.true)

pub slice_bounds-forms_len-end : goal.slice_bounds-forms_len-end
slice_bounds-forms_len-end c = (passing.run_counts _ _ _ _ c.loop-c.invariant.1 _ c.plain_end-e.ensures).1

pub overflow_add-n-in-loop-c : goal.overflow_add-n-in-loop-c
overflow_add-n-in-loop-c c =
    let i = c.loop-c.invariant in
    omega (
      arith,
      short (goal.at.overflow_add-n-in-loop-c c).At-loop-c,
      passing.run_counts _ _ _ _ i.1 _ c.plain_end-e.ensures,
      length-append i.0 (take (c.plain_end-e.result - c.loop-c.i) (drop c.loop-c.i c.args.s.now)),
      c.forms_len-n.ensures.1,
      c.requires,
    )

pub loop-c-preserved : goal.loop-c-preserved
loop-c-preserved c =
    let i = c.loop-c.invariant in
    let run = take (c.plain_end-e.result - c.loop-c.i) (drop c.loop-c.i c.args.s.now) in
    (i.0 ++ run, passing.run_passed _ _ _ _ i.1 _ c.plain_end-e.ensures, longer _ _ i.0 run _ _ i.2 c.forms_len-n.ensures.0)
