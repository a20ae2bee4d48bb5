-- Meanings that are the same have one form, and a form is its own form.
-- Assumes nothing.
use mathlib.Core.Path.{◌≡◌, refl, ap}
use mathlib.Core.List.{List, ◌++◌}
use Prim.Native.Nat.{ℕ}
use Rattle.grammar.specs.Meaning.{Worth, SameWorth, same, same_float}
use Rattle.form.specs.Form.{reduced_form, form_of}
use Rattle.grammar.specs.Decimal.{Decimal}
use Rattle.form.proofs.Reduce.{same_iff}

pub same_form : (v w : Worth) (x : List ℕ) → SameWorth v w → form_of v x ≡ form_of w x
unfolding form_of
same_form _ _ x same = refl
same_form _ _ x (same_float {a} {b} s) = ap (λ (r : Decimal). reduced_form r ++ x) ((same_iff a b).0 s)
