-- One law for each way through an escape.
-- Assumes nothing.
use mathlib.Core.Path.{◌≡◌}
use mathlib.Core.Bool.{true, false, and-false}
use mathlib.Core.List.{List, [], ◌∷◌}
use Prim.Native.Nat.{ℕ, ◌+◌, ◌*◌, ◌≤◌, ◌<◌}
use native.Mathlib.Omega.{arith}
use borrow.Author.Tests.{lt-ltb, le-ltb, le-leb, eq-eqb, ne_eqb}
use lib.ListN.{length, get_or, take, drop}
use Rattle.std.specs.Prelude.{Some, None}
use Rattle.err.specs.Outcome.{Place, refused, between}
use Rattle.scan.specs.Run.{run}
use Rattle.scan.specs.Sets.{except}
use Rattle.parse.specs.Sets.{hex_digit_of}
use Rattle.utf8.specs.Cut.{is_boundary}
use Rattle.escape.specs.Allows.{unicode, allow_nul}
use Rattle.escape.specs.declared.Allowed.{Allowed}
use Rattle.escape.specs.declared.Unescaped.TheVariants.{Byte}
use Rattle.escape.specs.Escape.{value, bad, simple_escape_of, x_byte, x_escape, hex_from, bad_start, u_hex, u_inner, u_braced, u_escape, escape_by, escape_of}
use Rattle.escape.proofs.Hexes.{is_hex, not_hex}

-- ---- a refusal

-- what a refusal says, as an escape's result
pub refused_is_bad : {m n : ℕ} {p q : Place} → refused m p ≡ refused n q → bad m p ≡ bad n q
refused_is_bad e = cc

-- ---- `\x`

module _ (k : Allowed) (s : List ℕ) where
  pub x_cut : is_boundary s 4 ≡ false → bad 9 (between 0 (length s)) ≡ x_escape k s
  unfolding x_escape
  x_cut e = rw e

  pub x_short : length s < 4 → bad 9 (between 0 (length s)) ≡ x_escape k s
  unfolding is_boundary
  x_short h = x_cut (rw (le-leb (length s) 4 (omega arith), ne_eqb (length s) 4 (λ e. omega arith)))

  module _ (there : is_boundary s 4 ≡ true) where
    pub x_first : hex_digit_of (get_or s 2 0) ≡ None → bad 10 (between 0 4) ≡ x_escape k s
    unfolding x_escape
    x_first e = rw (there, not_hex _ e)

    module _ (a : ℕ) (first : hex_digit_of (get_or s 2 0) ≡ Some a) where
      pub x_second : hex_digit_of (get_or s 3 0) ≡ None → bad 10 (between 0 4) ≡ x_escape k s
      unfolding x_escape
      x_second e = rw (there, not_hex _ e, and-false)

      pub x_value : (b : ℕ) → hex_digit_of (get_or s 3 0) ≡ Some b → x_byte k (b + 16 * a) ≡ x_escape k s
      unfolding x_escape
      x_value b e =
          let p = is_hex _ _ first in
          let q = is_hex _ _ e in
          rw (there, p.1, q.1, p.0, q.0)

-- ---- `\u`

module _ (k : Allowed) (d : List ℕ) where
  pub inner_start : bad_start d ≡ true → bad 13 (between 3 4) ≡ u_inner k d
  unfolding u_inner
  inner_start e = rw e

  pub inner_digits : bad_start d ≡ false → u_hex k (length d + 4) (hex_from 0 0 0 d) ≡ u_inner k d
  unfolding u_inner
  inner_digits e = rw e

pub brace_there : (s : List ℕ) → get_or s 2 0 ≡ 123 → 3 ≤ length s
brace_there [] e = absurd (omega arith)
brace_there (a ∷ []) e = absurd (omega arith)
brace_there (a ∷ b ∷ []) e = absurd (omega arith)
brace_there (a ∷ b ∷ c ∷ s) e = omega arith

module _ (k : Allowed) (s : List ℕ) where
  pub u_barred : unicode k ≡ false → bad 12 (between 0 2) ≡ u_escape k s
  unfolding u_escape
  u_barred e = rw e

  module _ (u : unicode k ≡ true) where
    pub u_no_brace : (get_or s 2 0 ≡ 123 → ⊥) → bad 14 (between 0 2) ≡ u_escape k s
    unfolding u_escape
    u_no_brace e = rw (u, ne_eqb _ _ e)

    module _ (brace : get_or s 2 0 ≡ 123) (n : ℕ) (is : n ≡ run (except 125) (drop 3 s)) where
      pub u_open : n + 3 ≡ length s → bad 18 (between 0 (length s)) ≡ u_escape k s
      unfolding u_escape u_braced
      u_open e = rw (u, eq-eqb _ _ brace, ← is, eq-eqb _ _ e)

      pub u_closed : (n + 3 ≡ length s → ⊥) → u_inner k (take n (drop 3 s)) ≡ u_escape k s
      unfolding u_escape u_braced
      u_closed e = rw (u, eq-eqb _ _ brace, ← is, ne_eqb _ _ e)

-- ---- one escape

module _ (k : Allowed) (s : List ℕ) where
  pub too_short : length s < 2 → bad 9 (between 0 1) ≡ escape_of k s
  unfolding escape_of
  too_short h = rw (lt-ltb _ _ h)

  module _ (h : 2 ≤ length s) where
    pub one_letter : (l : ℕ) → l ≡ simple_escape_of (get_or s 1 0) → (l ≡ 0 → ⊥) → value (Byte l) 2 ≡ escape_of k s
    unfolding escape_of escape_by
    one_letter l is e = rw (le-ltb _ _ h, ← is, ne_eqb _ _ e)

    module _ (none : simple_escape_of (get_or s 1 0) ≡ 0) where
      pub nul : get_or s 1 0 ≡ 48 → allow_nul k ≡ true → value (Byte 0) 2 ≡ escape_of k s
      unfolding escape_of escape_by
      nul e a = rw (le-ltb _ _ h, none, eq-eqb _ _ e, a)

      module _ (e : get_or s 1 0 ≡ 48 → ⊥) where
        pub is_x : get_or s 1 0 ≡ 120 → x_escape k s ≡ escape_of k s
        unfolding escape_of escape_by
        is_x x = rw (le-ltb _ _ h, none, ne_eqb _ _ e, eq-eqb _ _ x)

        pub is_u : (get_or s 1 0 ≡ 120 → ⊥) → get_or s 1 0 ≡ 117 → u_escape k s ≡ escape_of k s
        unfolding escape_of escape_by
        is_u x u = rw (le-ltb _ _ h, none, ne_eqb _ _ e, ne_eqb _ _ x, eq-eqb _ _ u)
