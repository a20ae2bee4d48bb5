-- The scan of hex digits: one law for each way on, how large its number is, and where a fault stands.
-- Assumes nothing.
use mathlib.Core.Path.{◌≡◌, sym}
use mathlib.Core.Bool.{true, false}
use mathlib.Core.List.{List, [], ◌∷◌}
use Prim.Native.Nat.{ℕ, ◌+◌, ◌*◌, ◌^◌, ◌≤◌, ◌<◌}
use native.Mathlib.Nat.{pow-le-pow_right, pow-succ'}
use native.Mathlib.Numerals.{add-one}
use native.Mathlib.Omega.{arith}
use borrow.Author.Tests.{lt-ltb, le-ltb, eq-eqb, ne_eqb}
use lib.Dec.{ltb}
use lib.ListN.{length, get_or, drop, drop_of_length-le}
use lib.Seq.{drop-cons}
use Rattle.std.specs.Prelude.{Option, Some, None}
use Rattle.scan.proofs.Cases.{cond_eq, cond_lt}
use Rattle.parse.specs.Class.{class_of}
use Rattle.parse.specs.Sets.{hex_digit_of}
use Rattle.parse.proofs.Classes.{hex_class}
use Rattle.escape.specs.Escape.{Hex, number, fault, hex_from}

-- ---- what `hex_digit_value` says of a byte's class

pub is_hex : (b v : ℕ) → hex_digit_of b ≡ Some v → (class_of b ≡ v) × (ltb (class_of b) 16 ≡ true)
is_hex b v e = let h = hex_class b v e in (sym h.0, lt-ltb (class_of b) 16 (omega (arith, h.0, h.1)))

pub hex_value : (b : ℕ) → class_of b < 16 → hex_digit_of b ≡ Some (class_of b)
unfolding hex_digit_of
hex_value b h = rw (lt-ltb (class_of b) 16 h)

pub not_hex : (b : ℕ) → hex_digit_of b ≡ None → ltb (class_of b) 16 ≡ false
unfolding hex_digit_of
not_hex b =
    cond_lt (λ (h : Option ℕ). h ≡ None → ltb (class_of b) 16 ≡ false) (class_of b) 16
    (λ l e. let z : ◌≡◌ {A = ℕ} 0 1 = cc in absurd (omega arith))
    (λ l e. le-ltb (class_of b) 16 l)

-- a hex digit is no `_` and no brace
other : (x : ℕ) → 16 ≤ class_of x → (b : ℕ) → class_of b < 16 → b ≡ x → ⊥
other x g b h e = let z : class_of x < 16 = rw e at h in omega arith

pub not_underscore : (b : ℕ) → class_of b < 16 → b ≡ 95 → ⊥
unfolding class_of
not_underscore b h e = other 95 (omega arith) b h e

pub not_brace : (b : ℕ) → class_of b < 16 → b ≡ 125 → ⊥
unfolding class_of
not_brace b h e = other 125 (omega arith) b h e

-- ---- the scan at offset i of d, after n digits worth v

module _ (d : List ℕ) (i n v : ℕ) where
  pub at_end : length d ≤ i → hex_from i n v (drop i d) ≡ number v
  at_end h = rw (drop_of_length-le d h)

  module _ (h : i < length d) (e : get_or d i 0 ≡ 95 → ⊥) where
    pub no_digit : hex_digit_of (get_or d i 0) ≡ None → hex_from i n v (drop i d) ≡ fault 15 i
    no_digit g = rw (drop-cons d i 0, ne_eqb _ _ e, not_hex _ g)

    module _ (x : ℕ) (is : hex_digit_of (get_or d i 0) ≡ Some x) where
      pub too_many : n ≡ 6 → hex_from i n v (drop i d) ≡ fault 16 i
      too_many s = rw (drop-cons d i 0, ne_eqb _ _ e, (is_hex _ _ is).1, eq-eqb _ _ s)

      pub digit : (n ≡ 6 → ⊥) → hex_from i n v (drop i d) ≡ hex_from (i + 1) (n + 1) (16 * v + x) (drop (i + 1) d)
      digit s = rw (drop-cons d i 0, ne_eqb _ _ e, (is_hex _ _ is).1, ne_eqb _ _ s, (is_hex _ _ is).0, add-one i)

-- fewer than six digits are worth less than 16 ^ 5
pub small : (n v : ℕ) → n ≤ 6 → (n ≡ 6 → ⊥) → v < 16 ^ n → v < 1048576
small n v h e l =
    let five : n ≤ 5 = omega arith in
    omega (arith, pow-le-pow_right {n = 16} (omega arith) {i = n} {j = 5} five)

pub longer : (n v x : ℕ) → x < 16 → v < 16 ^ n → 16 * v + x < 16 ^ (n + 1)
longer n v x h l = rw (add-one, pow-succ') (omega arith)

-- ---- a fault stands inside, with a number of litrs's

abbrev pub FaultBelow : ℕ → Hex → Type 0
FaultBelow m (number v) = Unit {0}
FaultBelow m (fault num i) = (1 ≤ num) × (num ≤ 41) × (i < m)

pub fault_below : (s : List ℕ) (i n v m : ℕ) → i + length s ≤ m → FaultBelow m (hex_from i n v s)
fault_below [] i n v m h = tt
fault_below (b ∷ s) i n v m h =
    let P : Hex → Type 0 = FaultBelow m in
    cond_eq P b 95 (λ e. fault_below s (i + 1) n v m (omega arith)) λ e.
    cond_lt P (class_of b) 16
    (λ l. cond_eq P n 6 (λ g. omega arith) (λ g. fault_below s (i + 1) (n + 1) (16 * v + class_of b) m (omega arith)))
    (λ l. omega arith)
