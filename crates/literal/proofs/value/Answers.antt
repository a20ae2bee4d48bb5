-- `literal::value` meets its contract.
-- Assumes nothing.
use mathlib.Core.Path.{◌≡◌, sym, ap, ◌∙◌}
use Rattle.std.specs.Prelude.{Ok}
use Rattle.err.specs.Reading.{outcome_of}
use Rattle.err.specs.declared.Literal.{Literal}
use Rattle.err.specs.declared.Literal.TheVariants as literal
use Rattle.literal.specs.Readings.{read_at}
use Rattle.literal.specs.Values.{value_at}
use Rattle.literal.proofs.Calls.{integer_alone, value_typed, value_refused, value_ends, value_given}
use Rattle.literal.proofs.value.Goals as goal

pub returns-in_default-clause-answer : goal.returns-in_default-clause-answer
unfolding value_at
returns-in_default-clause-answer c = let e = c.perr_nowhere.ensures in rw (← c.largest_coded.ensures, c.in_default.is) cc

pub returns-in-Err-clause-answer : goal.returns-in-Err-clause-answer
returns-in-Err-clause-answer c = rw (value_typed _ _ c.args.text.now c.in-Some.ensures) (value_refused _ _ c.in-Err.ensures.outcome)

pub unreachable-requires : goal.unreachable-requires
unreachable-requires c = integer_alone _ _ c.in-Ok.ensures.outcome c.in_default-found.not-Integer

pub value_of-requires : goal.value_of-requires
value_of-requires c =
    let is : read_at 2 c.args.text.now ≡ outcome_of (Ok (literal.Integer c.in-Integer.lit)) =
    sym c.in-Ok.ensures.outcome ∙ ap (λ (l : Literal). outcome_of (Ok l)) c.in-Integer.is in
    value_ends 0 _ is

pub returns-clause-answer : goal.returns-clause-answer
returns-clause-answer c =
    let is : read_at 2 c.args.text.now ≡ outcome_of (Ok (literal.Integer c.in-Integer.lit)) =
    sym c.in-Ok.ensures.outcome ∙ ap (λ (l : Literal). outcome_of (Ok l)) c.in-Integer.is in
    rw (value_typed _ _ c.args.text.now c.in-Some.ensures) (c.value_of.ensures ∙ value_given _ _ is)
