-- `form_decimal::exponent_of` meets its contract.
-- Assumes nothing.
use mathlib.Core.Path.{◌≡◌, ap, ◌∙◌}
use mathlib.Core.List.{List}
use Prim.Native.Nat.{ℕ, ◌-◌}
use native.Mathlib.Omega.{arith}
use lib.ListN.{length, take, drop}
use Rattle.std.proofs.lemmas.Bool.Decides.{nat_tests}
use Rattle.std.proofs.lemmas.Grind.{common_steps}
use Rattle.scan.proofs.Bytes.{byte_inside}
use Rattle.scan.proofs.Parts.{part_to_end}
use Rattle.integer_value.specs.Value.{number}
use Rattle.form_decimal.specs.Scaled.{clamped}
use Rattle.form_decimal.proofs.Signs as signs
use Rattle.form_decimal.proofs.exponent_of.Goals as goal
use Rattle.form_decimal.proofs.exponent_of.Goals.{in_default-via-then-ex-lt1, in_default-via-else-ex-lt1+in_default-1}

to_end : (s : List ℕ) → clamped (number 10 (take (length s - 1) (drop 1 s))) ≡ clamped (number 10 (drop 1 s))
to_end s = ap (λ (u : List ℕ). clamped (number 10 u)) (part_to_end 1 s)

pub returns-in-45 : goal.returns-in-45
returns-in-45 c =
    let s = c.args.ex.now in
    let g = signs.minus s (grind arith) in
    (g.0, c.size_of.ensures ∙ rw g.1 (to_end s))

pub returns-in-43 : goal.returns-in-43
returns-in-43 c =
    let s = c.args.ex.now in
    let g = signs.plus s (grind arith) in
    (g.0, c.size_of-in-43.ensures ∙ rw g.1 (to_end s))

pub returns-in_default : goal.returns-in_default
returns-in_default c =
    let s = c.args.ex.now in
    let g = signs.none s
    (λ m. let l = byte_inside s 0 45 m (omega arith) in elim c.in_default.branch [ in_default-via-then-ex-lt1 w ↦ grind (arith, nat_tests, common_steps) | in_default-via-else-ex-lt1+in_default-1 w ↦ grind arith ])
    (λ m. let l = byte_inside s 0 43 m (omega arith) in elim c.in_default.branch [ in_default-via-then-ex-lt1 w ↦ grind (arith, nat_tests, common_steps) | in_default-via-else-ex-lt1+in_default-1 w ↦ grind arith ]) in
    (g.0, c.size_of-in_default.ensures ∙ rw g.1)
