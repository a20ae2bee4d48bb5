-- What the scan of base and digits has found: the main part's bytes are digits and `_`, and whether one of them is a digit.
-- Assumes nothing.
use Prim.Native.Nat.{ℕ, ◌-◌, ◌≤◌}
use mathlib.Core.Path.{◌≡◌, ap, sym, ◌∙◌}
use mathlib.Core.Bool.{true, false}
use mathlib.Core.List.{List}
use native.Mathlib.Nat.{add-sub_cancel_left}
use native.Mathlib.Omega.{arith}
use lib.Dec.{eqb}
use lib.ListN.{length, drop, length-take, length-drop}
use borrow.Author.Tests.{eq-eqb, ne_eqb}
use Rattle.std.specs.Prelude.{Ok}
use Rattle.err.specs.Outcome.{IntegerValues}
use Rattle.err.proofs.Values.{digits_same}
use Rattle.err.specs.Reading.{base_of}
use Rattle.err.specs.declared.IntegerBase.{IntegerBase}
use Rattle.err.specs.declared.IntegerBase.TheVariants.{Binary, Octal, Decimal, Hexadecimal}
use Rattle.err.specs.declared.IntegerLit.{IntegerLit}
use Rattle.scan.specs.Run.{run, All}
use Rattle.scan.specs.Sets.{only}
use Rattle.scan.specs.Part.{part}
use Rattle.scan.proofs.Runs.{run_all}
use Rattle.parse.specs.Sets.{digit}
use Rattle.parse.proofs.Digits.{no_digits, some_digits}
use Rattle.integer.specs.Integer.{Scanned, parsed_of, base_at, prefix_len, main_len}

base_le : (b : IntegerBase) → base_of b ≤ 16
base_le Binary = omega arith
base_le Octal = omega arith
base_le Decimal = omega arith
base_le Hexadecimal = omega arith

module _ (l : IntegerLit) (s : List ℕ) (h : Scanned l s) where
  abbrev main : List ℕ
  main = part l.start_main_part l.end_main_part s

  digits_only : All (digit (base_of l.base)) main
  unfolding main_len
  digits_only = rw (h.end, h.start, h.base, add-sub_cancel_left) (run_all (digit (base_at s)) (drop (prefix_len (base_at s)) s))

  as_long : length main ≡ l.end_main_part - l.start_main_part
  as_long = omega (arith, length-take (l.end_main_part - l.start_main_part) (drop l.start_main_part s), length-drop l.start_main_part s, h.fits)

  -- litrs's test for `_` alone, by the count
  -- 95 is `_`
  pub lone : l.digits ≡ 0 → eqb (run (only 95) main) (l.end_main_part - l.start_main_part) ≡ true
  lone z = eq-eqb _ _ (no_digits (base_of l.base) main (base_le l.base) digits_only (sym h.count ∙ z) ∙ as_long)

  pub some : (l.digits ≡ 0 → ⊥) → eqb (run (only 95) main) (l.end_main_part - l.start_main_part) ≡ false
  some z = ne_eqb _ _ (λ e. z (h.count ∙ some_digits (base_of l.base) main (base_le l.base) digits_only (e ∙ sym as_long)))

-- the same literal as the check of its suffix hands it on
module _ (l m : IntegerLit) (s : List ℕ) (h : Scanned l s) where
  pub scanned_again : parsed_of (Ok m) ≡ parsed_of (Ok l) → m.digits ≡ l.digits → Scanned m s
  scanned_again e d =
      let v : ◌≡◌ {A = IntegerValues} (record { base = base_of m.base; start = m.start_main_part; end = m.end_main_part }) (record { base = base_of l.base; start = l.start_main_part; end = l.end_main_part }) = digits_same cc in
      let b : base_of m.base ≡ base_of l.base = ap (λ (d : IntegerValues). d.base) v in
      let a : m.start_main_part ≡ l.start_main_part = ap (λ (d : IntegerValues). d.start) v in
      let z : m.end_main_part ≡ l.end_main_part = ap (λ (d : IntegerValues). d.end) v in
      record {
        base = b ∙ h.base;
        start = a ∙ h.start;
        end = rw (a, z) h.end;
        fits = rw z h.fits;
        count = rw (d, b, a, z) h.count;
      }
