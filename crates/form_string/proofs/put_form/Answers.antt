-- `form_string::put_form` meets its contract.
-- Assumes nothing.
use Rattle.std.proofs.Common.{ℕ, ◌+◌, ◌-◌, ◌≤◌, List, ◌++◌, length, take, drop, append_assoc, length-append, arith}
use borrow.Rule.Slice.PartMut.{put_mid}
use Rattle.buffer.specs.Buffer.{Wrote}
use Rattle.buffer.proofs.Laws as laws
use Rattle.form_byte.specs.Styled.{styled_forms}
use Rattle.string.specs.String.{string_value}
use Rattle.form_string.specs.Strings.{opening_of, verbatim_in}
use Rattle.form_string.proofs.Bare.{bare_read, read_length}
use Rattle.form_string.proofs.put_form.Goals.{After-put_bytes-start}
use Rattle.form_string.proofs.put_form.Goals as goal

module _ (b : After-put_bytes-start) where
  abbrev value : List ℕ
  value = styled_forms (verbatim_in b.args.k) 34 (string_value b.args.k b.args.text.now)

  -- the parts fit
  fits : length (opening_of b.args.k) + length value + 1 ≤ length b.args.out.now
  fits = omega (arith, b.requires.1, read_length b.args.k b.args.text.now b.args.lit b.requires.0.0.1 b.requires.0.1)

  -- the opening is written
  opened : Wrote (opening_of b.args.k) b.put_bytes-start.result b.args.out.now b.put_bytes-start.new.out
  opened = rw b.opening.ensures at b.put_bytes-start.ensures

  past : b.put_bytes-start.result ≤ length b.put_bytes-start.new.out
  past = laws.within opened (omega (arith, fits))

  -- and the value after it
  module _ (n : ℕ) (ys : List ℕ) where
    abbrev at : List ℕ
    at = put_mid b.put_bytes-start.result (length b.put_bytes-start.new.out - b.put_bytes-start.result) b.put_bytes-start.new.out ys

    joined : Wrote value n (take (length b.put_bytes-start.new.out - b.put_bytes-start.result) (drop b.put_bytes-start.result b.put_bytes-start.new.out)) ys
        → Wrote (opening_of b.args.k ++ value) (b.put_bytes-start.result + n) b.args.out.now at
    joined w = laws.past opened w (omega (arith, fits))

pub slice_bounds-put_content-count : goal.slice_bounds-put_content-count
slice_bounds-put_content-count c = past (goal.at.slice_bounds-put_content-count c).After-put_bytes-start

pub slice_bounds-put_content-start : goal.slice_bounds-put_content-start
slice_bounds-put_content-start c = past (goal.at.slice_bounds-put_content-start c).After-put_bytes-start

pub put_content-requires : goal.put_content-requires
put_content-requires c =
    let b = (goal.at.put_content-requires c).After-put_bytes-start in
    ((c.requires.0.0.0, c.requires.0.1), laws.room _ (opened b) (omega (arith, fits b)))

pub overflow_add-at : goal.overflow_add-at
overflow_add-at c =
    let b = (goal.at.overflow_add-at c).After-put_bytes-start in
    omega (arith, fits b, simp length-append at (joined b _ _ c.put_content.ensures).count, c.well_formed)

pub slice_bounds-put_bytes-count : goal.slice_bounds-put_bytes-count
slice_bounds-put_bytes-count c =
    let b = (goal.at.slice_bounds-put_bytes-count c).After-put_bytes-start in
    laws.within (joined b _ _ c.put_content.ensures) (simp length-append (omega (arith, fits b)))

pub slice_bounds-put_bytes-start : goal.slice_bounds-put_bytes-start
slice_bounds-put_bytes-start c =
    let b = (goal.at.slice_bounds-put_bytes-start c).After-put_bytes-start in
    laws.within (joined b _ _ c.put_content.ensures) (simp length-append (omega (arith, fits b)))

pub put_bytes-requires : goal.put_bytes-requires
put_bytes-requires c =
    let b = (goal.at.put_bytes-requires c).After-put_bytes-start in
    laws.room 1 (joined b _ _ c.put_content.ensures) (simp length-append (omega (arith, fits b)))

pub overflow_add-result : goal.overflow_add-result
overflow_add-result c =
    let b = (goal.at.overflow_add-result c).After-put_bytes-start in
    omega (arith, fits b, simp length-append at (joined b _ _ c.put_content.ensures).count, c.put_bytes.ensures.count, c.well_formed)

pub returns : goal.returns
returns c =
    let b = (goal.at.returns c).After-put_bytes-start in
    rw (bare_read c.args.k c.args.text.now c.args.lit c.requires.0.0.1 c.requires.0.1, ← append_assoc (opening_of c.args.k))
    (laws.past (joined b _ _ c.put_content.ensures) c.put_bytes.ensures (simp length-append (omega (arith, fits b))))
