-- `form_string::content_len` meets its contract.
-- Assumes nothing.
use Rattle.std.proofs.Common.{sym, ◌∙◌, length-take, length-drop, arith}
use Rattle.scan.proofs.Parts.{part_to_end}
use Rattle.string.specs.String.{string_value}
use Rattle.string.specs.declared.Inner.TheVariants.{AsItIs, Escaped}
use Rattle.string.proofs.Literals.{Stands, stands_in, len_inside}
use Rattle.form_string.proofs.content_len.Goals.{In-AsItIs, In-Escaped}
use Rattle.form_string.proofs.content_len.Goals as goal

-- where the value stands, by the case
as_is : (c : In-AsItIs) → Stands c.args.k c.args.text.now (string_value c.args.k c.args.text.now) (AsItIs c.in-AsItIs.start c.in-AsItIs.end)
as_is c = stands_in _ _ c.args.lit c.requires.1 (sym c.inner_range.ensures ∙ c.in-AsItIs.is)

escaped : (c : In-Escaped) → Stands c.args.k c.args.text.now (string_value c.args.k c.args.text.now) (Escaped c.in-Escaped.start)
escaped c = stands_in _ _ c.args.lit c.requires.1 (sym c.inner_range.ensures ∙ c.in-Escaped.is)

pub inner_range-requires : goal.inner_range-requires
inner_range-requires c = omega (arith, len_inside _ _ c.args.lit c.requires.1, c.requires.0)

pub slice_bounds-forms_len-end : goal.slice_bounds-forms_len-end
slice_bounds-forms_len-end c = (as_is (goal.at.slice_bounds-forms_len-end c).In-AsItIs).1

pub slice_bounds-body_len-count : goal.slice_bounds-body_len-count
slice_bounds-body_len-count c = (escaped (goal.at.slice_bounds-body_len-count c).In-Escaped).0

pub slice_bounds-body_len-start : goal.slice_bounds-body_len-start
slice_bounds-body_len-start c = (escaped (goal.at.slice_bounds-body_len-start c).In-Escaped).0

pub returns-in-AsItIs : goal.returns-in-AsItIs
returns-in-AsItIs c =
    let s = c.style_of.ensures in (
      rw (as_is (goal.at.returns-in-AsItIs c).In-AsItIs).2 (rw (s.0, s.1) at c.forms_len.ensures.0),
      omega (arith, simp (length-take, length-drop) at c.forms_len.ensures.1, c.requires.0),
    )

pub returns-in-Escaped : goal.returns-in-Escaped
returns-in-Escaped c =
    let s = c.style_of-in-Escaped.ensures in (
      rw (escaped (goal.at.returns-in-Escaped c).In-Escaped).1 (rw (s.0, s.1, part_to_end) at c.body_len.ensures.0),
      omega (arith, rw part_to_end at c.body_len.ensures.1, length-drop c.in-Escaped.start c.args.text.now, c.requires.0),
    )
