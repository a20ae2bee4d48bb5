-- `form_reading::put_char_literal` meets its contract.
-- Assumes nothing.
use Rattle.std.proofs.Common.{◌≡◌, ℕ, ◌+◌, ◌-◌, ◌≤◌, List, [], ◌∷◌, ◌++◌, length, take, drop, ap, length-append, arith}
use borrow.Rule.Slice.PartMut.{put_mid}
use Rattle.buffer.specs.Buffer.{Wrote}
use Rattle.buffer.proofs.Laws as laws
use Rattle.utf8.specs.Utf8.{encode}
use Rattle.form.specs.Escapes.{char_form}
use Rattle.form_byte.specs.Styled.{styled_forms}
use Rattle.form_byte.proofs.Styles.{char_style}
use Rattle.form_reading.proofs.put_char_literal.Goals.{After-char_style}
use Rattle.form_reading.proofs.put_char_literal.Goals as goal

module _ (b : After-char_style) where
  abbrev styled : List ℕ
  styled = styled_forms b.char_style.result.verbatim b.char_style.result.quote (encode b.args.lit.value)

  -- in this style it is its form, and fits between two quotes
  form : styled ≡ char_form 39 b.args.lit.value
  form = rw (b.char_style.ensures.0, b.char_style.ensures.1) (char_style 39 b.args.lit.value b.requires.0)

  fits : 1 + length styled + 1 ≤ length b.args.out.now
  fits = omega (arith, ap length form, length-append (char_form 39 b.args.lit.value) (39 ∷ []), b.requires.1)

  -- it stands after the first quote
  joined : (n : ℕ) (ys : List ℕ)
      → Wrote styled n (take (length b.put_bytes-start.new.out - b.put_bytes-start.result) (drop b.put_bytes-start.result b.put_bytes-start.new.out)) ys
      → Wrote ((39 ∷ []) ++ styled) (b.put_bytes-start.result + n) b.args.out.now
      (put_mid b.put_bytes-start.result (length b.put_bytes-start.new.out - b.put_bytes-start.result) b.put_bytes-start.new.out ys)
  joined n ys w = laws.past b.put_bytes-start.ensures w (omega (arith, fits))

pub put_char_form-requires : goal.put_char_form-requires
put_char_form-requires c =
    let b = (goal.at.put_char_form-requires c).After-char_style in
    (c.requires.0, laws.room _ c.put_bytes-start.ensures (omega (arith, fits b)))

pub overflow_add-at : goal.overflow_add-at
overflow_add-at c =
    let b = (goal.at.overflow_add-at c).After-char_style in
    omega (arith, fits b, simp length-append at (joined b _ _ c.put_char_form.ensures).count, c.well_formed)

pub slice_bounds-put_bytes-count : goal.slice_bounds-put_bytes-count
slice_bounds-put_bytes-count c =
    let b = (goal.at.slice_bounds-put_bytes-count c).After-char_style in
    laws.within (joined b _ _ c.put_char_form.ensures) (simp length-append (omega (arith, fits b)))

pub slice_bounds-put_bytes-start : goal.slice_bounds-put_bytes-start
slice_bounds-put_bytes-start c =
    let b = (goal.at.slice_bounds-put_bytes-start c).After-char_style in
    laws.within (joined b _ _ c.put_char_form.ensures) (simp length-append (omega (arith, fits b)))

pub put_bytes-requires : goal.put_bytes-requires
put_bytes-requires c =
    let b = (goal.at.put_bytes-requires c).After-char_style in
    laws.room 1 (joined b _ _ c.put_char_form.ensures) (simp length-append (omega (arith, fits b)))

pub overflow_add-result : goal.overflow_add-result
overflow_add-result c =
    let b = (goal.at.overflow_add-result c).After-char_style in
    omega (arith, fits b, simp length-append at (joined b _ _ c.put_char_form.ensures).count, c.put_bytes.ensures.count, c.well_formed)

pub returns : goal.returns
returns c =
    let b = (goal.at.returns c).After-char_style in
    rw (form b) at (laws.past (joined b _ _ c.put_char_form.ensures) c.put_bytes.ensures (simp length-append (omega (arith, fits b))))
