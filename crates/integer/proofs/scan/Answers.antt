-- `integer::scan` meets its contract.
-- Assumes nothing.
use Prim.Native.Nat.{◌+◌, ◌≤◌}
use mathlib.Core.Path.{◌≡◌, ap, ◌∙◌}
use native.Mathlib.Nat.{add-sub_cancel_left}
use native.Mathlib.Omega.{arith}
use lib.ListN.{length, drop, length-drop}
use Rattle.err.specs.Reading.{base_of}
use Rattle.scan.specs.Part.{part}
use Rattle.scan.proofs.Runs.{run_le}
use Rattle.scan.proofs.Parts.{part_to_end}
use Rattle.parse.specs.Sets.{digit}
use Rattle.parse.specs.Digits.{digit_count}
use Rattle.integer.specs.Integer.{base_at, prefix_len, main_len}
use Rattle.integer.proofs.Bases.{prefix_len_lem}
use Rattle.integer.proofs.scan.Goals as goal

start : (c : goal.After-struct_known-1) → length c.prefix-start.result.now ≡ prefix_len (base_at c.args.text.now)
start c = ap length c.prefix-start.ensures ∙ prefix_len_lem c.base_of-base.result ∙ ap prefix_len c.base_of-base.ensures.0

count : (c : goal.After-struct_known-1) → c.main_part-main.result.end ≡ main_len c.args.text.now
unfolding main_len
count c = c.main_part-main.ensures.end ∙ rw (part_to_end, start c, c.base_of-base.ensures.0)

within : (c : goal.After-struct_known-1) → length c.prefix-start.result.now + c.main_part-main.result.end ≤ length c.args.text.now
unfolding main_len
within c =
    let s = c.args.text.now in
    let base = base_at s in
    omega (arith, start c, count c, run_le (digit base) (drop (prefix_len base) s), length-drop (prefix_len base) s, ap length c.prefix-start.ensures, c.base_of-base.ensures.1)

number : (c : goal.After-struct_known-1) →
    let s = c.args.text.now in
    let n = length c.prefix-start.result.now in
    c.main_part-main.result.digits ≡ digit_count (base_of c.base_of-base.result) (part n (n + c.main_part-main.result.end) s)
number c = c.main_part-main.ensures.count ∙ rw (← c.main_part-main.ensures.end, part_to_end, add-sub_cancel_left)

pub overflow_add-result : goal.overflow_add-result
overflow_add-result c = omega (arith, within c, c.well_formed)

pub returns : goal.returns
returns c =
    record { base = c.base_of-base.ensures.0; start = start c; end = rw (count c); fits = within c; count = number c }
