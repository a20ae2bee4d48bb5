-- `form_float::float_len` meets its contract.
-- Assumes nothing.
use mathlib.Core.Path.{sym, ap}
use native.Mathlib.Omega.{arith}
use Rattle.form_decimal.proofs.Reducing.{inside}
use Rattle.form_decimal.proofs.Texts.{mantissa_length, order}
use Rattle.form_float.specs.Floats.{known}
use Rattle.form_float.proofs.Forms as forms
use Rattle.form_float.proofs.float_len.Goals as goal

pub slice_bounds-scaled_len-end : goal.slice_bounds-scaled_len-end
slice_bounds-scaled_len-end c = sym (mantissa_length _ _ _ _ c.requires.0 c.requires.1)

pub scaled_len-requires : goal.scaled_len-requires
scaled_len-requires c =
    let found = forms.found _ _ _ c.scale.ensures _ c.in-To.is in
    (omega (arith, mantissa_length _ _ _ _ c.requires.0 c.requires.1, order _ _ _ _ c.requires.0 c.requires.1, c.requires.0), inside _ _ _ found)

pub returns-in-Zero : goal.returns-in-Zero
returns-in-Zero c =
    let e = c.scale.ensures in
    let g = c.in-Zero.is in
    rw (forms.zero_in_range _ _ _ e g, forms.zero_form _ _ _ e g)

pub returns-in-To : goal.returns-in-To
returns-in-To c =
    let found = forms.found _ _ _ c.scale.ensures _ c.in-To.is in
    rw (forms.found_in_range _ _ _ found, forms.found_form _ _ _ found) (ap known c.scaled_len.ensures.0)
