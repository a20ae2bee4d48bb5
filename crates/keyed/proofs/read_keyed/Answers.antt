-- `keyed::read_keyed` meets its contract.
-- Assumes nothing.
use mathlib.Core.Path.{◌≡◌, refl, sym, ap, ◌∙◌}
use mathlib.Core.Bool.{true, false}
use Rattle.std.proofs.Common.{rules}
use Rattle.std.specs.Prelude.{Err}
use Rattle.digits.specs.Counts.{digit_counts}
use Rattle.err_added.specs.declared.AddedErrorKind.TheVariants.{TooManyDigits}
use Rattle.literal.specs.Readings.{read_at}
use Rattle.keyed.specs.Keyed.{overlong, keyed_at}
use Rattle.keyed.specs.declared.KeyedError.TheVariants.{Parse, Added}
use Rattle.keyed.proofs.read_keyed.Goals as goal

pub returns-in_err-found : goal.returns-in_err-found
unfolding keyed_at
returns-in_err-found c =
    let gone : c.from_residual.result ≡ Err (Parse c.in_err-found.field-0.0) = search rules in
    rw (gone, ← c.in_err-found.ensures.outcome) (record { outcome = refl; counts = refl; text_unchanged = refl })

pub returns-then-is_overlong : goal.returns-then-is_overlong
unfolding keyed_at
returns-then-is_overlong c =
    let s = c.args.text.now in
    let over : overlong (digit_counts s (read_at 0 s)) ≡ true = ap overlong (sym c.in_ok-found.ensures.counts) ∙ sym c.is_overlong.ensures ∙ c.if-is_overlong.true in
    let is : c.into.result ≡ Added TooManyDigits = search rules in
    rw (over, is) (record { outcome = refl; counts = refl; text_unchanged = refl })

pub returns : goal.returns
unfolding keyed_at
returns c =
    let s = c.args.text.now in
    let few : overlong (digit_counts s (read_at 0 s)) ≡ false = ap overlong (sym c.in_ok-found.ensures.counts) ∙ sym c.is_overlong.ensures ∙ c.if-is_overlong.false in
    rw few (record { outcome = c.in_ok-found.ensures.outcome; counts = c.in_ok-found.ensures.counts; text_unchanged = refl })
