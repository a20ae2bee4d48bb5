-- `string::put_decoded` meets its contract.
-- Assumes nothing.
use mathlib.Core.Path.{sym, ◌∙◌}
use native.Mathlib.Omega.{arith}
use lib.ListN.{length-drop}
use Rattle.scan.proofs.Parts.{part_to_end}
use Rattle.string.proofs.Literals.{stands_in, len_inside, value_length}
use Rattle.string.proofs.put_decoded.Goals as goal

pub inner_range-requires : goal.inner_range-requires
inner_range-requires c = let p = c.requires.0 in omega (arith, len_inside _ _ c.args.lit p.1, p.0)

pub slice_bounds-put_bytes-end : goal.slice_bounds-put_bytes-end
slice_bounds-put_bytes-end c = (stands_in _ _ c.args.lit c.requires.0.1 (sym c.inner_range.ensures ∙ c.in-AsItIs.is)).1

pub slice_bounds-write_value-count : goal.slice_bounds-write_value-count
slice_bounds-write_value-count c = (stands_in _ _ c.args.lit c.requires.0.1 (sym c.inner_range.ensures ∙ c.in-Escaped.is)).0

pub slice_bounds-write_value-start : goal.slice_bounds-write_value-start
slice_bounds-write_value-start c = (stands_in _ _ c.args.lit c.requires.0.1 (sym c.inner_range.ensures ∙ c.in-Escaped.is)).0

pub write_value-requires : goal.write_value-requires
write_value-requires c =
    let p = c.requires in
    let s = stands_in _ _ c.args.lit p.0.1 (sym c.inner_range.ensures ∙ c.in-Escaped.is) in (
      rw part_to_end (simp length-drop (omega (arith, p.0.0))),
      rw (part_to_end, ← s.1) (omega (arith, value_length _ _ (sym p.0.1), p.1)),
    )

pub returns-in-AsItIs : goal.returns-in-AsItIs
returns-in-AsItIs c =
    let s = stands_in _ _ c.args.lit c.requires.0.1 (sym c.inner_range.ensures ∙ c.in-AsItIs.is) in
    rw s.2 c.put_bytes.ensures

pub returns-in-Escaped : goal.returns-in-Escaped
returns-in-Escaped c =
    let s = stands_in _ _ c.args.lit c.requires.0.1 (sym c.inner_range.ensures ∙ c.in-Escaped.is) in
    rw s.1 (rw part_to_end at c.write_value.ensures)
