-- `parse::class_of` meets its contract.
-- Assumes nothing.
use mathlib.Core.Path.{sym}
use native.Mathlib.Omega.{arith}
use Rattle.parse.specs.Class.{class_of}
use Rattle.parse.proofs.Classes.{class_from, class_digit, class_upper_hex, class_lower_hex, class_above}
use Rattle.parse.proofs.class_of.Goals as goal

pub returns-then-b-le57 : goal.returns-then-b-le57
returns-then-b-le57 c = sym (class_digit _ (omega arith) (omega arith))

pub returns-then-b-lt65 : goal.returns-then-b-lt65
unfolding class_of
returns-then-b-lt65 c = sym (class_from (λ b. 19) 58 7 tt c.args.b (omega arith) (omega arith))

pub returns-then-b-le70 : goal.returns-then-b-le70
returns-then-b-le70 c = sym (class_upper_hex _ (omega arith) (omega arith))

pub returns-then-b-le90 : goal.returns-then-b-le90
unfolding class_of
returns-then-b-le90 c = sym (class_from (λ b. 17) 71 20 tt c.args.b (omega arith) (omega arith))

pub returns-then-b-le102 : goal.returns-then-b-le102
returns-then-b-le102 c = sym (class_lower_hex _ (omega arith) (omega arith))

pub returns-then-b-le122 : goal.returns-then-b-le122
unfolding class_of
returns-then-b-le122 c = sym (class_from (λ b. 17) 103 20 tt c.args.b (omega arith) (omega arith))

pub returns-then-b-lt128 : goal.returns-then-b-lt128
unfolding class_of
returns-then-b-lt128 c = sym (class_from (λ b. 19) 123 5 tt c.args.b (omega arith) (omega arith))

pub returns-else-b-lt128 : goal.returns-else-b-lt128
returns-else-b-lt128 c = sym (class_above _ c.if-b-lt128.false)
