-- `form_string::put_content` meets its contract.
-- Assumes nothing.
use Rattle.std.proofs.Common.{sym, ◌∙◌, length-drop, arith}
use Rattle.scan.proofs.Parts.{part_to_end}
use Rattle.string.specs.String.{string_value}
use Rattle.string.specs.declared.Inner.TheVariants.{AsItIs, Escaped}
use Rattle.string.proofs.Literals.{Stands, stands_in, len_inside}
use Rattle.form_string.proofs.put_content.Goals.{In-AsItIs, In-Escaped}
use Rattle.form_string.proofs.put_content.Goals as goal

-- where the value stands, by the case
as_is : (c : In-AsItIs) → Stands c.args.k c.args.text.now (string_value c.args.k c.args.text.now) (AsItIs c.in-AsItIs.start c.in-AsItIs.end)
as_is c = stands_in _ _ c.args.lit c.requires.0.1 (sym c.inner_range.ensures ∙ c.in-AsItIs.is)

escaped : (c : In-Escaped) → Stands c.args.k c.args.text.now (string_value c.args.k c.args.text.now) (Escaped c.in-Escaped.start)
escaped c = stands_in _ _ c.args.lit c.requires.0.1 (sym c.inner_range.ensures ∙ c.in-Escaped.is)

pub inner_range-requires : goal.inner_range-requires
inner_range-requires c = let p = c.requires.0 in omega (arith, len_inside _ _ c.args.lit p.1, p.0)

pub slice_bounds-put_forms-end : goal.slice_bounds-put_forms-end
slice_bounds-put_forms-end c = (as_is (goal.at.slice_bounds-put_forms-end c).In-AsItIs).1

pub put_forms-requires : goal.put_forms-requires
put_forms-requires c =
    let s = c.style_of.ensures in
    rw (s.0, s.1, ← (as_is (goal.at.put_forms-requires c).In-AsItIs).2) c.requires.1

pub slice_bounds-put_body-count : goal.slice_bounds-put_body-count
slice_bounds-put_body-count c = (escaped (goal.at.slice_bounds-put_body-count c).In-Escaped).0

pub slice_bounds-put_body-start : goal.slice_bounds-put_body-start
slice_bounds-put_body-start c = (escaped (goal.at.slice_bounds-put_body-start c).In-Escaped).0

pub put_body-requires : goal.put_body-requires
put_body-requires c =
    let s = c.style_of-in-Escaped.ensures in
    let p = c.requires in (
      rw part_to_end (simp length-drop (omega (arith, p.0.0))),
      rw (s.0, s.1, part_to_end, ← (escaped (goal.at.put_body-requires c).In-Escaped).1) p.1,
    )

pub returns-in-AsItIs : goal.returns-in-AsItIs
returns-in-AsItIs c =
    let s = c.style_of.ensures in
    rw (as_is (goal.at.returns-in-AsItIs c).In-AsItIs).2 (rw (s.0, s.1) at c.put_forms.ensures)

pub returns-in-Escaped : goal.returns-in-Escaped
returns-in-Escaped c =
    let s = c.style_of-in-Escaped.ensures in
    rw (escaped (goal.at.returns-in-Escaped c).In-Escaped).1 (rw (s.0, s.1, part_to_end) at c.put_body.ensures)
