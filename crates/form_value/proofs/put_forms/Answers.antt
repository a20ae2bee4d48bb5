-- `form_value::put_forms` meets its contract.
-- Assumes nothing.
use Rattle.std.proofs.Common.{◌≡◌, ℕ, ◌+◌, ◌-◌, ◌<◌, ◌≤◌, List, [], ◌++◌, length, take, drop, get_or, arith}
use lib.Seq.{take_all}
use borrow.Rule.Slice.PartMut.{put_mid}
use Rattle.buffer.specs.Buffer.{Wrote}
use Rattle.buffer.proofs.Laws as laws
use Rattle.body.proofs.Runs.{counts}
use Rattle.form_byte.specs.Styled.{styled_form, styled_forms}
use Rattle.form_byte.proofs.Styles as styles
use Rattle.form_value.proofs.put_forms.Goals.{After-run_end-e}
use Rattle.form_value.proofs.put_forms.Goals as goal

-- the forms of the first n bytes
abbrev front : After-run_end-e → ℕ → List ℕ
front b n = styled_forms b.args.style.verbatim b.args.style.quote (take n b.args.s.now)

abbrev passed : After-run_end-e → List ℕ
passed b = take (b.run_end-e.result - b.loop-i.i) (drop b.loop-i.i b.args.s.now)

counted : (b : After-run_end-e) → (b.loop-i.i ≤ b.run_end-e.result) × (b.run_end-e.result ≤ length b.args.s.now)
counted b =
    let n = counts _ b.args.s.now b.loop-i.i [] b.run_end-e.result (omega arith) b.run_end-e.ensures in
    (n.0, n.1)

-- a piece after forms fits, where the two are forms of the slice's front
fit : (b : After-run_end-e) (e : ℕ) (p r : List ℕ) → front b e ≡ p ++ r → length p + length r ≤ length b.args.out.now
fit b e p r h =
    omega (arith, styles.forms_fit b.args.style.verbatim b.args.style.quote b.args.s.now e p r h, b.requires)

-- the run stands as it is after the forms so far, and fits there
ran : (b : After-run_end-e) → front b b.run_end-e.result ≡ front b b.loop-i.i ++ passed b
ran b = styles.forms_run _ _ b.args.s.now b.loop-i.i b.run_end-e.result b.run_end-e.ensures

fits : (b : After-run_end-e) → length (front b b.loop-i.i) + length (passed b) ≤ length b.args.out.now
fits b = fit b b.run_end-e.result (front b b.loop-i.i) (passed b) (ran b)

-- so it is written after them
written : (b : After-run_end-e) (n : ℕ) (ys : List ℕ)
    → Wrote (passed b) n (take (length b.loop-i.out - b.loop-i.at) (drop b.loop-i.at b.loop-i.out)) ys
    → Wrote (front b b.run_end-e.result) (b.loop-i.at + n) b.args.out.now
    (put_mid b.loop-i.at (length b.loop-i.out - b.loop-i.at) b.loop-i.out ys)
written b n ys w = rw (ran b) (laws.past b.loop-i.invariant w (fits b))

-- the byte after it, whose form fits too
module _ (b : After-run_end-e) (more : b.run_end-e.result ≡ length b.args.s.now → ⊥) where
  inside : b.run_end-e.result < length b.args.s.now
  inside = omega (arith, (counted b).1)

  abbrev form : List ℕ
  form = styled_form b.args.style.verbatim b.args.style.quote (get_or b.args.s.now b.run_end-e.result 0)

  one_more : front b (b.run_end-e.result + 1) ≡ front b b.run_end-e.result ++ form
  one_more = styles.forms_more _ _ b.args.s.now b.run_end-e.result inside

  form_fits : length (front b b.run_end-e.result) + length form ≤ length b.args.out.now
  form_fits = fit b (b.run_end-e.result + 1) (front b b.run_end-e.result) form one_more

pub loop-i-init : goal.loop-i-init
loop-i-init c = laws.nothing _

pub slice_bounds-put_bytes-count : goal.slice_bounds-put_bytes-count
slice_bounds-put_bytes-count c = laws.within c.loop-i.invariant (omega (arith, fits c))

pub slice_bounds-put_bytes-start : goal.slice_bounds-put_bytes-start
slice_bounds-put_bytes-start c = laws.within c.loop-i.invariant (omega (arith, fits c))

pub slice_bounds-put_bytes-end-in-loop-i : goal.slice_bounds-put_bytes-end-in-loop-i
slice_bounds-put_bytes-end-in-loop-i c = (counted (goal.at.slice_bounds-put_bytes-end-in-loop-i c).After-run_end-e).1

pub put_bytes-at-requires : goal.put_bytes-at-requires
put_bytes-at-requires c = laws.room _ c.loop-i.invariant (fits (goal.at.put_bytes-at-requires c).After-run_end-e)

pub overflow_add-at : goal.overflow_add-at
overflow_add-at c =
    omega (arith, fits (goal.at.overflow_add-at c).After-run_end-e, c.loop-i.invariant.count, c.put_bytes-at.ensures.count, c.well_formed)

pub returns-then-e-s : goal.returns-then-e-s
returns-then-e-s c =
    rw (take_all c.run_end-e.result c.args.s.now (omega (arith, c.if-e-s.true)))
    at (written (goal.at.returns-then-e-s c).After-run_end-e _ _ c.put_bytes-at.ensures)

pub slice_bounds-put_form-count : goal.slice_bounds-put_form-count
slice_bounds-put_form-count c =
    let b = (goal.at.slice_bounds-put_form-count c).After-run_end-e in
    laws.within (written b _ _ c.put_bytes-at.ensures) (omega (arith, form_fits b c.if-e-s.false))

pub slice_bounds-put_form-start : goal.slice_bounds-put_form-start
slice_bounds-put_form-start c =
    let b = (goal.at.slice_bounds-put_form-start c).After-run_end-e in
    laws.within (written b _ _ c.put_bytes-at.ensures) (omega (arith, form_fits b c.if-e-s.false))

pub put_form-at-requires : goal.put_form-at-requires
put_form-at-requires c =
    let b = (goal.at.put_form-at-requires c).After-run_end-e in
    laws.room _ (written b _ _ c.put_bytes-at.ensures) (form_fits b c.if-e-s.false)

pub overflow_add-at-in-loop-i : goal.overflow_add-at-in-loop-i
overflow_add-at-in-loop-i c =
    let b = (goal.at.overflow_add-at-in-loop-i c).After-run_end-e in
    omega (
      arith,
      form_fits b c.if-e-s.false,
      (written b _ _ c.put_bytes-at.ensures).count,
      c.put_form-at.ensures.count,
      c.well_formed,
    )

pub overflow_add-i : goal.overflow_add-i
overflow_add-i c = omega (arith, inside (goal.at.overflow_add-i c).After-run_end-e c.if-e-s.false, c.well_formed)

pub loop-i-smaller : goal.loop-i-smaller
loop-i-smaller c =
    let b = (goal.at.loop-i-smaller c).After-run_end-e in
    omega (arith, inside b c.if-e-s.false, (counted b).0)

pub loop-i-preserved : goal.loop-i-preserved
loop-i-preserved c =
    let b = (goal.at.loop-i-preserved c).After-run_end-e in
    rw (one_more b c.if-e-s.false) (laws.past (written b _ _ c.put_bytes-at.ensures) c.put_form-at.ensures (form_fits b c.if-e-s.false))

pub returns : goal.returns
returns c = rw (take_all c.loop-i.i c.args.s.now c.loop-i-test.false) at c.loop-i.invariant
