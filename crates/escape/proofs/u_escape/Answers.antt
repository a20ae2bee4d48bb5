-- `escape::u_escape` meets its contract.
-- Assumes nothing.
use Rattle.std.proofs.Common.{◌≡◌, sym, ◌∙◌, arith, ℕ, List, ◌+◌, ◌≤◌, length, get_or, drop, length-drop}
use Rattle.scan.specs.Run.{run}
use Rattle.scan.specs.Sets.{except}
use Rattle.scan.proofs.Parts.{part_to_end}
use Rattle.scan.proofs.Runs.{run_le}
use Rattle.escape.proofs.Escapes.{brace_there}
use Rattle.escape.proofs.u_escape.Goals as goal

-- the run ends in the text
closed : (s : List ℕ) (n : ℕ) → get_or s 2 0 ≡ 123 → n ≡ run (except 125) (drop 3 s) → n + 3 ≤ length s
closed s n brace is = omega (arith, run_le (except 125) (drop 3 s), length-drop 3 s, brace_there s brace)

pub overflow_add-closing : goal.overflow_add-closing
overflow_add-closing c =
    omega (arith, closed c.args.s.now _ (sym c.byte_at.ensures ∙ c.if-byte_at-ne123.false) (c.run_len-n.ensures ∙ rw part_to_end), c.well_formed)

pub slice_bounds-u_inner-end : goal.slice_bounds-u_inner-end
slice_bounds-u_inner-end c = closed _ _ (sym c.byte_at.ensures ∙ c.if-byte_at-ne123.false) (c.run_len-n.ensures ∙ rw part_to_end)
