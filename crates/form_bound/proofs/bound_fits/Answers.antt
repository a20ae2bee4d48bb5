-- `form_bound::bound_fits` meets its contract.
-- Assumes nothing.
use borrow.Author.Tests.{le-leb, lt-leb}
use Prim.Native.Nat.{◌+◌, ◌*◌}
use native.Mathlib.Omega.{arith}
use Rattle.form_bound.specs.Bound.{bound_fits}
use Rattle.form_bound.proofs.bound_fits.Goals as goal

pub returns-then-value_len-gt-MAX_LEN : goal.returns-then-value_len-gt-MAX_LEN
unfolding bound_fits
returns-then-value_len-gt-MAX_LEN c = let a = c.args in rw (lt-leb (4 * a.«value_len» + 3 + a.rest) 65536 (omega arith))

pub returns-then-rest-gt-MAX_LEN : goal.returns-then-rest-gt-MAX_LEN
unfolding bound_fits
returns-then-rest-gt-MAX_LEN c = let a = c.args in rw (lt-leb (4 * a.«value_len» + 3 + a.rest) 65536 (omega arith))

pub returns-then-n-gt-MAX_LEN : goal.returns-then-n-gt-MAX_LEN
unfolding bound_fits
returns-then-n-gt-MAX_LEN c = rw (lt-leb _ 65536 c.if-n-gt-MAX_LEN.true)

pub returns : goal.returns
unfolding bound_fits
returns c = rw (le-leb _ 65536 c.if-n-gt-MAX_LEN.false)
