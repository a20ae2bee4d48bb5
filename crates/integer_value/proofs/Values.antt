-- The value of a text by its parts and by its reading.
-- Assumes nothing.
use mathlib.Core.Path.{◌≡◌, refl, ap}
use mathlib.Core.Bool.{Bool, true, false, cond}
use mathlib.Core.List.{List, [], ◌∷◌, ◌++◌}
use Prim.Native.Nat.{ℕ, zero, suc, ◌+◌, ◌-◌}
use native.Mathlib.Nat.{sub-zero, zero-sub, suc-sub-suc}
use lib.Dec.{leb}
use lib.ListN.{length, take, drop}
use lib.Seq.{slice, take-nil, take-append-add, take-append_seam, drop-append_seam}
use Rattle.err.specs.Outcome.{IntegerValues, accepted, none, digits}
use Rattle.err.proofs.Values.{digits_same}
use Rattle.integer.specs.Integer.{integer_read}
use Rattle.integer.specs.Parts.{IntegerParts}
use Rattle.integer.proofs.Parts.{sound, complete, main_part_lem}
use Rattle.std.specs.Prelude.{Option, Some, None}
use Rattle.integer_value.specs.Value.{number, number_within, Valued, returned, refusal, bounded, integer_lit_value}

-- a number that is given or above the largest, as a value
abbrev pub valued_in : Option ℕ → Valued
valued_in (Some n) = returned n
valued_in None = refusal 45 none

pub bounded_is : (largest n : ℕ) → valued_in (number_within largest n) ≡ bounded largest n
bounded_is largest n = by_test (leb n largest)
  where
    by_test : (t : Bool) → valued_in (cond t (Some n) None) ≡ cond t (returned n) (refusal 45 none)
    by_test true = refl
    by_test false = refl

-- a part of a slice, told by its ends
pub part_slice : (a e : ℕ) (s : List ℕ) → take (e - a) (drop a s) ≡ slice a e s
part_slice zero e s = rw sub-zero
part_slice (suc a) zero s = rw zero-sub
part_slice (suc a) (suc e) [] = rw take-nil
part_slice (suc a) (suc e) (b ∷ s) = rw suc-sub-suc (part_slice a e s)

-- the value is the number of the digits
pub value_of_parts : {base : ℕ} {pre main suf : List ℕ} (largest : ℕ) → IntegerParts base pre main suf → integer_lit_value largest (pre ++ (main ++ suf)) ≡ bounded largest (number base main)
unfolding integer_lit_value
value_of_parts largest h = rw (complete h, main_part_lem h, h.plain)

-- ---- by a reading

pub read_value : (largest : ℕ) (s : List ℕ) {k n : ℕ} {d : IntegerValues} → integer_read s ≡ accepted k n (digits d) → bounded largest (number d.base (slice d.start d.end s)) ≡ integer_lit_value largest s
read_value largest s {k} {n} {d} h =
    let t = sound s k n (digits d) h in
    let v = digits_same t.values in
    let b : d.base ≡ t.base = ap (λ (d : IntegerValues). d.base) v in
    let p : d.start ≡ length t.pre = ap (λ (d : IntegerValues). d.start) v in
    let q : d.end ≡ n = ap (λ (d : IntegerValues). d.end) v in
    cc (b, p, q, t.end, t.text, slice_main t.pre t.main t.suf, value_of_parts largest t.parts)
  where
    slice_main : (pre main suf : List ℕ) → slice (length pre) (length pre + length main) (pre ++ (main ++ suf)) ≡ main
    slice_main pre main suf = rw (take-append-add, take-append_seam, drop-append_seam)
