-- `form_float::put_float` meets its contract.
-- Assumes nothing.
use mathlib.Core.Path.{sym}
use native.Mathlib.Omega.{arith}
use Rattle.form_decimal.proofs.Reducing.{inside}
use Rattle.form_decimal.proofs.Texts.{mantissa_length}
use Rattle.form_float.proofs.Forms as forms
use Rattle.form_float.proofs.put_float.Goals as goal

pub put_bytes-requires : goal.put_bytes-requires
put_bytes-requires c = omega (arith, rw (forms.zero_form _ _ _ c.scale.ensures c.in-Zero.is) at c.requires.1.1)

pub slice_bounds-put_scaled-end : goal.slice_bounds-put_scaled-end
slice_bounds-put_scaled-end c = sym (mantissa_length _ _ _ _ c.requires.0.0 c.requires.0.1)

pub put_scaled-requires : goal.put_scaled-requires
put_scaled-requires c =
    let found = forms.found _ _ _ c.scale.ensures _ c.in-To.is in
    (inside _ _ _ found, rw (forms.found_form _ _ _ found) at c.requires.1.1)

pub returns-in-Zero : goal.returns-in-Zero
returns-in-Zero c = rw (forms.zero_form _ _ _ c.scale.ensures c.in-Zero.is) c.put_bytes.ensures

pub returns-in-To : goal.returns-in-To
returns-in-To c =
    let found = forms.found _ _ _ c.scale.ensures _ c.in-To.is in
    rw (forms.found_form _ _ _ found) c.put_scaled.ensures
