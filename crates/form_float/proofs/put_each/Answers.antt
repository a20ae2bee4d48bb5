-- `form_float::put_each` meets its contract.
-- Assumes nothing.
use mathlib.Core.Path.{◌≡◌, sym, ap}
use mathlib.Core.Bool.{true}
use mathlib.Core.List.{List}
use Prim.Native.Nat.{ℕ, ◌+◌, ◌≤◌, ◌<◌}
use native.Mathlib.Omega.{arith}
use lib.ListN.{length, take, get_or, length-append}
use Rattle.buffer.proofs.Laws as laws
use Rattle.parse.specs.Sets.{dec_digit}
use Rattle.form_decimal.specs.Digits.{digits_of}
use Rattle.form_decimal.proofs.Digits.{digits_front, digits_one, digits_pass}
use Rattle.form_float.proofs.put_each.Goals as goal
use Rattle.form_float.proofs.put_each.Goals.{then-is_decimal, else-is_decimal}

-- a digit at i has room after those before it
room : (s : List ℕ) (i at n : ℕ) → i < length s → dec_digit (get_or s i 0) ≡ true → length (digits_of s) ≤ n → at ≡ length (digits_of (take i s)) → at < n
room s i at n h t l e = omega (arith, simp length-append at (ap length (digits_one s i h t)), digits_front (i + 1) s)

pub loop-b-init : goal.loop-b-init
loop-b-init c = laws.nothing _

pub bounds-out-at : goal.bounds-out-at
bounds-out-at c =
    let l = c.loop-b in
    let s = c.args.s.now in
    omega (arith, room s l.b-index l.at _ c.loop-b-test.true (sym c.if-is_decimal.ensures) c.requires l.invariant.count, laws.wrote_length l.invariant (omega (arith, digits_front l.b-index s, c.requires)))

pub overflow_add-at : goal.overflow_add-at
overflow_add-at c =
    let l = c.loop-b in
    omega (arith, room c.args.s.now l.b-index l.at _ c.loop-b-test.true (sym c.if-is_decimal.ensures) c.requires l.invariant.count, c.well_formed)

pub loop-b-preserved : goal.loop-b-preserved
loop-b-preserved c =
    let l = c.loop-b in
    let s = c.args.s.now in
    elim c.if-is_decimal.branch [ then-is_decimal w ↦ rw (w.out-is, w.at-is, digits_one s l.b-index c.loop-b-test.true (sym w.if-is_decimal.ensures)) (laws.stored _ l.invariant (room s l.b-index l.at _ c.loop-b-test.true (sym w.if-is_decimal.ensures) c.requires l.invariant.count)) | else-is_decimal w ↦ rw (w.out-is, w.at-is, digits_pass s l.b-index c.loop-b-test.true (sym w.if-is_decimal.ensures)) l.invariant ]
