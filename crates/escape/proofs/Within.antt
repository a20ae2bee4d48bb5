-- An escape's bytes and its refusal lie in what it was given; its value has fewer bytes than it, and a character is a scalar value.
-- Assumes nothing.
use mathlib.Core.Path.{◌≡◌, refl}
use mathlib.Core.Bool.{Bool, true, false, not, ◌&&◌, ◌||◌}
use mathlib.Core.Logic.{◌↔◌, inl, inr}
use mathlib.Core.List.{List, [], ◌∷◌}
use Prim.Native.Nat.{ℕ, ◌+◌, ◌*◌, ◌≤◌, ◌<◌}
use native.Mathlib.Omega.{arith}
use borrow.Author.Tests.{ltb-true, leb-true, eqb-true, lt-ltb, le-ltb, le-leb}
use lib.Dec.{eqb, ltb, leb}
use lib.ListN.{length, get_or, take, drop, length-take, length-drop}
use Rattle.err.specs.Outcome.{RefusedIn}
use Rattle.scan.specs.Run.{run}
use Rattle.scan.specs.Sets.{except}
use Rattle.scan.proofs.Cases.{cond_in, cond_eq, cond_lt, clash, by_lt}
use Rattle.scan.proofs.Runs.{run_le}
use Rattle.parse.specs.Class.{class_of}
use Rattle.utf8.specs.Utf8.{Scalar}
use Rattle.utf8.specs.Cut.{is_boundary}
use Rattle.utf8.proofs.Laws.{encode_length}
use Rattle.escape.specs.Allows.{unicode, byte_escapes, allow_nul}
use Rattle.escape.specs.declared.Allowed.{Allowed}
use Rattle.escape.specs.Escape.{Escaped, value, bad, bytes_of, Valid, simple_escape_of, x_byte, x_escape, Hex, number, fault, hex_from, is_scalar, u_scalar, bad_start, u_hex, u_inner, u_braced, u_escape, escape_by, escape_of}
use Rattle.escape.proofs.Hexes.{FaultBelow, fault_below}
use Rattle.escape.proofs.Escapes.{brace_there}

-- `is_scalar` is RFC 3629's `Scalar`
pub scalar_right : (v : ℕ) → (is_scalar v ≡ true) ↔ Scalar v
unfolding is_scalar
scalar_right v = (to (ltb v 0xD800) (leb 0xE000 v) (ltb v 0x110000) refl refl refl, from)
  where
    to : (a b d : Bool) → ltb v 0xD800 ≡ a → leb 0xE000 v ≡ b → ltb v 0x110000 ≡ d → (a || (b && d)) ≡ true → Scalar v
    to true b d x y z e = inl (ltb-true v 0xD800 x)
    to false true true x y z e = inr (leb-true 0xE000 v y, ltb-true v 0x110000 z)
    to false true false x y z e = clash e refl
    to false false d x y z e = clash e refl

    from : Scalar v → (ltb v 0xD800 || (leb 0xE000 v && ltb v 0x110000)) ≡ true
    from (inl h) = rw (lt-ltb v 0xD800 h)
    from (inr (h, g)) = rw (le-ltb v 0xD800 (omega arith), le-leb 0xE000 v h, lt-ltb v 0x110000 g)

-- of an escape that was given m bytes; of no byte at all it says 9 at 0-1
abbrev pub EscapeIn : ℕ → Escaped → Type 0
EscapeIn m (value u n) = (0 < n) × (n ≤ m) × (length (bytes_of u) < n) × Valid u
EscapeIn m (bad num p) = 0 < m → RefusedIn m num p

-- a boundary lies in the text
pub boundary_in : (s : List ℕ) (n : ℕ) → is_boundary s n ≡ true → n ≤ length s
unfolding is_boundary
boundary_in s n e =
    by_lt n (length s) (λ h. omega arith)
    (λ h. omega (arith, eqb-true (length s) n (rw (le-leb (length s) n h) at e)))

x_in : (k : Allowed) (s : List ℕ) → EscapeIn (length s) (x_escape k s)
unfolding x_escape x_byte
x_in k s =
    let P : Escaped → Type 0 = EscapeIn (length s) in
    let v : ℕ = class_of (get_or s 3 0) + 16 * class_of (get_or s 2 0) in
    cond_in P (is_boundary s 4) (λ e.
    let h = boundary_in s 4 e in
    cond_in P (ltb (class_of (get_or s 2 0)) 16 && ltb (class_of (get_or s 3 0)) 16) (λ f.
    cond_in P (not (byte_escapes k) && ltb 127 v) (λ g p. omega arith) λ g.
    cond_in P (not (allow_nul k) && eqb v 0) (λ g p. omega arith) λ g. (omega arith, h, omega arith, tt))
    λ f p. omega arith) λ e p. omega arith

u_scalar_in : (k : Allowed) (n v m : ℕ) → 4 < n → n ≤ m → EscapeIn m (u_scalar k n v)
unfolding u_scalar
u_scalar_in k n v m h l =
    cond_in (EscapeIn m) (not (allow_nul k) && eqb v 0) (λ e p. omega arith) λ e.
    cond_in (EscapeIn m) (is_scalar v) (λ f. (omega arith, l, omega (arith, encode_length v), (scalar_right v).0 f)) λ f p. omega arith

u_hex_in : (k : Allowed) (n m : ℕ) (h : Hex) → 0 < n → n + 4 ≤ m → FaultBelow n h → EscapeIn m (u_hex k (n + 4) h)
u_hex_in k n m (number v) z l f = u_scalar_in k (n + 4) v m (omega arith) l
u_hex_in k n m (fault num i) z l f = λ p. omega arith

u_inner_in : (k : Allowed) (d : List ℕ) (m : ℕ) → length d + 4 ≤ m → EscapeIn m (u_inner k d)
unfolding u_inner bad_start
u_inner_in k d m l =
    cond_in (EscapeIn m) (bad_start d) (λ e p. omega arith) λ e.
    u_hex_in k (length d) m (hex_from 0 0 0 d) (some d e) l (fault_below d 0 0 0 (length d) (omega arith))
  where
    some : (d : List ℕ) → bad_start d ≡ false → 0 < length d
    some [] e = clash refl e
    some (b ∷ d) e = omega arith

u_in : (k : Allowed) (s : List ℕ) → 2 ≤ length s → EscapeIn (length s) (u_escape k s)
unfolding u_escape u_braced
u_in k s h =
    let P : Escaped → Type 0 = EscapeIn (length s) in
    let n : ℕ = run (except 125) (drop 3 s) in
    cond_in P (unicode k) (λ e.
    cond_eq P (get_or s 2 0) 123 (λ f.
    let three = brace_there s f in
    cond_eq P (n + 3) (length s) (λ g p. omega arith) λ g.
    u_inner_in k (take n (drop 3 s)) (length s)
    (omega (arith, run_le (except 125) (drop 3 s), length-drop 3 s, length-take n (drop 3 s)))) λ f p. omega arith) λ e p. omega arith

-- THE LAW
pub escape_in : (k : Allowed) (s : List ℕ) → EscapeIn (length s) (escape_of k s)
unfolding escape_of escape_by
escape_in k s =
    let P : Escaped → Type 0 = EscapeIn (length s) in
    let b : ℕ = get_or s 1 0 in
    cond_lt P (length s) 2 (λ h p. omega arith) λ h.
    cond_eq P (simple_escape_of b) 0 (λ f.
    cond_eq P b 48 (λ g. cond_in P (allow_nul k) (λ a. (omega arith, h, omega arith, tt)) (λ a p. omega arith)) λ g.
    cond_eq P b 120 (λ x. x_in k s) λ x.
    cond_eq P b 117 (λ u. u_in k s h) λ u p. omega arith) λ f. (omega arith, h, omega arith, tt)
