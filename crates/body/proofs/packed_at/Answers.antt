-- `body::packed_at` meets its contract.
-- Assumes nothing.
use mathlib.Core.Path.{◌≡◌, ◌∙◌}
use mathlib.Core.List.{List}
use Prim.Native.Nat.{ℕ, ◌+◌, ◌-◌, ◌≤◌}
use native.Mathlib.Omega.{arith}
use lib.ListN.{length, drop, length-drop}
use Rattle.scan.specs.Run.{run}
use Rattle.scan.proofs.Parts.{part_to_end}
use Rattle.scan.proofs.Runs.{run_le}
use Rattle.parse.specs.Sets.{blank}
use Rattle.body.proofs.Codes as codes
use Rattle.body.proofs.packed_at.Goals as goal

-- n blanks after a line break are in the text
blanks_in : (s : List ℕ) (i n : ℕ) → n ≡ run blank (drop (i + 2) s) → 2 ≤ length s - i → i + 2 + n ≤ length s
blanks_in s i n e l = omega (arith, run_le blank (drop (i + 2) s), length-drop (i + 2) s)

pub returns-then-s-at-lt2 : goal.returns-then-s-at-lt2
returns-then-s-at-lt2 c = let a = c.args in codes.at_short _ a.s.now a.at c.if-s-at-lt2.true

pub returns-then-s-at-ne92 : goal.returns-then-s-at-ne92
returns-then-s-at-ne92 c = codes.at_other _ c.args.s.now _ (omega arith) c.if-s-at-ne92.true

pub overflow_add-from-then-s-next-eq10 : goal.overflow_add-from-then-s-next-eq10
overflow_add-from-then-s-next-eq10 c = omega (arith, blanks_in c.args.s.now c.args.at _ (rw part_to_end at c.run_len-n.ensures) (omega arith), c.requires)

pub returns-then-from-n : goal.returns-then-from-n
returns-then-from-n c =
    codes.at_open _ _ _ (omega arith) c.if-s-at-ne92.false c.if-s-next-eq10.true _ (rw part_to_end at c.run_len-n.ensures) c.if-from-n.true

pub overflow_add-n : goal.overflow_add-n
overflow_add-n c = omega (arith, blanks_in c.args.s.now c.args.at _ (rw part_to_end at c.run_len-n.ensures) (omega arith), c.requires)

pub packed_nothing-requires : goal.packed_nothing-requires
packed_nothing-requires c = omega (arith, blanks_in c.args.s.now c.args.at _ (rw part_to_end at c.run_len-n.ensures) (omega arith), c.requires)

pub returns-then-s-next-eq10 : goal.returns-then-s-next-eq10
returns-then-s-next-eq10 c =
    c.packed_nothing.ensures
    ∙ codes.at_blanks _ _ _ (omega arith) c.if-s-at-ne92.false c.if-s-next-eq10.true _ (rw part_to_end at c.run_len-n.ensures) c.if-from-n.false

pub returns-then-end-next : goal.returns-then-end-next
returns-then-end-next c =
    codes.at_cut _ _ _ (omega arith) c.if-s-at-ne92.false c.if-s-next-eq10.false _ c.requires.1.1 c.if-end-next.true

pub returns : goal.returns
returns c =
    codes.at_escape _ _ _ (omega arith) c.if-s-at-ne92.false c.if-s-next-eq10.false _ c.requires.1.1 _ c.packed.ensures
