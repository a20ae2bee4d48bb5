-- What an escape can stand for, so that litrs's `unwrap_char` and `unwrap_byte` meet no value that they panic on.
-- Assumes nothing.
use mathlib.Core.Path.{◌≡◌}
use mathlib.Core.Bool.{Bool, true, false, not, ◌&&◌}
use mathlib.Core.List.{List}
use Prim.Native.Nat.{ℕ, ◌+◌, ◌*◌, ◌<◌}
use native.Mathlib.Omega.{arith}
use borrow.Author.Tests.{ltb-true, ltb-false}
use lib.Dec.{eqb, ltb}
use lib.ListN.{length, get_or, take, drop}
use Rattle.scan.specs.Run.{run}
use Rattle.scan.specs.Sets.{except}
use Rattle.scan.proofs.Cases.{cond_in, cond_eq, cond_lt}
use Rattle.parse.specs.Class.{class_of}
use Rattle.parse.proofs.Classes.{both}
use Rattle.utf8.specs.Utf8.{Scalar}
use Rattle.utf8.specs.Cut.{is_boundary}
use Rattle.escape.specs.Allows.{unicode, byte_escapes, allow_nul}
use Rattle.escape.specs.declared.Allowed.{Allowed}
use Rattle.escape.specs.declared.Unescaped.{Unescaped}
use Rattle.escape.specs.declared.Unescaped.TheVariants.{Nothing, Byte, Unicode}
use Rattle.escape.specs.Escape.{Escaped, value, bad, simple_escape_of, x_byte, x_escape, Hex, number, fault, hex_from, is_scalar, u_scalar, bad_start, u_hex, u_inner, u_braced, u_escape, escape_by, escape_of}
use Rattle.escape.proofs.Within.{scalar_right}

-- An escape is never a dropped line break. A byte value is a byte, and below 128 where the kind has no byte escapes (`unwrap_char`). A character is a scalar value, and there is
-- one only where the kind has Unicode escapes (`unwrap_byte`).
abbrev pub Unwraps : Allowed → Unescaped → Type 0
Unwraps k Nothing = ⊥
Unwraps k (Byte b) = (b < 256) × (byte_escapes k ≡ false → b < 128)
Unwraps k (Unicode c) = Scalar c × (unicode k ≡ true)

abbrev pub EscapeUnwraps : Allowed → Escaped → Type 0
EscapeUnwraps k (value u n) = Unwraps k u
EscapeUnwraps k (bad num p) = Unit {0}

letter_small : (b : ℕ) → simple_escape_of b < 128
unfolding simple_escape_of
letter_small b =
    let P : ℕ → Type 0 = λ l. l < 128 in
    cond_eq P b 39 (λ e. omega arith) λ e.
    cond_eq P b 34 (λ e. omega arith) λ e.
    cond_eq P b 110 (λ e. omega arith) λ e.
    cond_eq P b 114 (λ e. omega arith) λ e.
    cond_eq P b 116 (λ e. omega arith) λ e.
    cond_eq P b 92 (λ e. omega arith) λ e. omega arith

x_unwraps : (k : Allowed) (s : List ℕ) → EscapeUnwraps k (x_escape k s)
unfolding x_escape x_byte
x_unwraps k s =
    let P : Escaped → Type 0 = EscapeUnwraps k in
    let a : ℕ = class_of (get_or s 2 0) in
    let b : ℕ = class_of (get_or s 3 0) in
    cond_in P (is_boundary s 4) (λ e.
    cond_in P (ltb a 16 && ltb b 16) (λ f.
    let d = both (ltb a 16) (ltb b 16) f in
    cond_in P (not (byte_escapes k) && ltb 127 (b + 16 * a)) (λ g. tt) λ g.
    cond_in P (not (allow_nul k) && eqb (b + 16 * a) 0) (λ h. tt) λ h.
    (omega (arith, ltb-true a 16 d.0, ltb-true b 16 d.1), λ n. low (byte_escapes k) (b + 16 * a) n g)) λ f. tt) λ e. tt
  where
    low : (t : Bool) (v : ℕ) → t ≡ false → (not t && ltb 127 v) ≡ false → v < 128
    low t v n g = omega (arith, ltb-false 127 v (rw n at g))

u_unwraps : (k : Allowed) (s : List ℕ) → EscapeUnwraps k (u_escape k s)
unfolding u_escape u_braced u_inner u_scalar
u_unwraps k s =
    let P : Escaped → Type 0 = EscapeUnwraps k in
    let n : ℕ = run (except 125) (drop 3 s) in
    let d : List ℕ = take n (drop 3 s) in
    cond_in P (unicode k) (λ u.
    cond_eq P (get_or s 2 0) 123 (λ e.
    cond_eq P (n + 3) (length s) (λ f. tt) λ f.
    cond_in P (bad_start d) (λ g. tt) λ g. of_hex u (length d + 4) (hex_from 0 0 0 d)) λ e. tt) λ u. tt
  where
    of_hex : unicode k ≡ true → (n : ℕ) (h : Hex) → EscapeUnwraps k (u_hex k n h)
    of_hex u n (number v) =
        cond_in (EscapeUnwraps k) (not (allow_nul k) && eqb v 0) (λ f. tt) λ f.
        cond_in (EscapeUnwraps k) (is_scalar v) (λ g. ((scalar_right v).0 g, u)) (λ g. tt)
    of_hex u n (fault num i) = tt

-- THE LAW, for every byte list
pub escape_unwraps : (k : Allowed) (s : List ℕ) → EscapeUnwraps k (escape_of k s)
unfolding escape_of escape_by
escape_unwraps k s =
    let P : Escaped → Type 0 = EscapeUnwraps k in
    let b : ℕ = get_or s 1 0 in
    cond_lt P (length s) 2 (λ h. tt) λ h.
    cond_eq P (simple_escape_of b) 0 (λ f.
    cond_eq P b 48 (λ g. cond_in P (allow_nul k) (λ a. (omega arith, λ n. omega arith)) (λ a. tt)) λ g.
    cond_eq P b 120 (λ x. x_unwraps k s) λ x.
    cond_eq P b 117 (λ u. u_unwraps k s) λ u. tt) λ f. (omega (arith, letter_small b), λ n. letter_small b)
