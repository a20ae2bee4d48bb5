-- One law for each way through a step of a quoted body.
-- Assumes nothing.
use mathlib.Core.Path.{◌≡◌, ◌∙◌}
use mathlib.Core.Bool.{true, false, not, ◌&&◌}
use mathlib.Core.List.{List}
use Prim.Native.Nat.{ℕ, ◌+◌, ◌≤◌, ◌<◌}
use native.Mathlib.Omega.{arith}
use borrow.Author.Tests.{eq-eqb, ne_eqb}
use lib.Dec.{eqb, ltb}
use lib.ListN.{length, get_or, drop, drop_of_length-le}
use lib.Seq.{drop-cons}
use Rattle.err.specs.Outcome.{Place, none, between, refused}
use Rattle.scan.specs.Run.{run}
use Rattle.parse.specs.Sets.{blank}
use Rattle.utf8.specs.Cut.{front}
use Rattle.escape.specs.Allows.{unicode, allow_nul}
use Rattle.escape.specs.Escape.{escape_of}
use Rattle.escape.specs.declared.Allowed.{Allowed}
use Rattle.escape.specs.declared.Unescaped.TheVariants.{Nothing, Byte}
use Rattle.body.specs.Step.{close, refuse, piece, stop, of_escape, line_break_of, backslash_of, plain_of, step_of}

-- ---- a refusal

-- what an error's contract says of it, as a step
pub refused_stops : {m n : ℕ} {p q : Place} → refused m p ≡ refused n q → stop (refuse m p) ≡ stop (refuse n q)
refused_stops e = cc

-- ---- a dropped line break

module _ (s : List ℕ) (n : ℕ) (is : n ≡ run blank s) where
  pub break_open : n ≡ length s → stop (refuse 30 none) ≡ line_break_of s
  unfolding line_break_of
  break_open e = rw (← is, eq-eqb _ _ e)

  pub break_drops : (n ≡ length s → ⊥) → piece (n + 2) Nothing ≡ line_break_of s
  unfolding line_break_of
  break_drops e = rw (← is, ne_eqb _ _ e)

-- ---- a backslash

module _ (k : Allowed) (s : List ℕ) where
  pub is_break : get_or s 1 0 ≡ 10 → line_break_of (drop 2 s) ≡ backslash_of k s
  unfolding backslash_of
  is_break e = rw (eq-eqb _ _ e)

  pub is_escape : (get_or s 1 0 ≡ 10 → ⊥) → of_escape (escape_of k (front s)) ≡ backslash_of k s
  unfolding backslash_of
  is_escape e = rw (ne_eqb _ _ e)

-- ---- any other byte

module _ (k : Allowed) (b : ℕ) where
  pub is_cr : b ≡ 13 → stop (refuse 37 (between 0 1)) ≡ plain_of k b
  unfolding plain_of
  is_cr e = rw (eq-eqb _ _ e)

  module _ (cr : b ≡ 13 → ⊥) where
    pub is_quote : b ≡ 34 → stop close ≡ plain_of k b
    unfolding plain_of
    is_quote e = rw (ne_eqb _ _ cr, eq-eqb _ _ e)

    module _ (quote : b ≡ 34 → ⊥) where
      pub is_nul : (not (allow_nul k) && eqb b 0) ≡ true → stop (refuse 36 (between 0 1)) ≡ plain_of k b
      unfolding plain_of
      is_nul e = rw (ne_eqb _ _ cr, ne_eqb _ _ quote, e)

      module _ (nul : (not (allow_nul k) && eqb b 0) ≡ false) where
        pub is_high : (not (unicode k) && ltb 127 b) ≡ true → stop (refuse 25 (between 0 1)) ≡ plain_of k b
        unfolding plain_of
        is_high e = rw (ne_eqb _ _ cr, ne_eqb _ _ quote, nul, e)

        pub is_plain : (not (unicode k) && ltb 127 b) ≡ false → piece 1 (Byte b) ≡ plain_of k b
        unfolding plain_of
        is_plain e = rw (ne_eqb _ _ cr, ne_eqb _ _ quote, nul, e)

-- ---- at an offset of a quoted body

module _ (k : Allowed) (s : List ℕ) (i : ℕ) where
  pub at_end : length s ≤ i → stop (refuse 30 none) ≡ step_of k (drop i s)
  unfolding step_of
  at_end h = rw (drop_of_length-le s h)

  pub at_backslash : i < length s → get_or s i 0 ≡ 92 → backslash_of k (drop i s) ≡ step_of k (drop i s)
  unfolding step_of
  at_backslash h e = rw (drop-cons s i 0 h, eq-eqb _ _ e)

  pub at_plain : i < length s → (get_or s i 0 ≡ 92 → ⊥) → plain_of k (get_or s i 0) ≡ step_of k (drop i s)
  unfolding step_of
  at_plain h e = rw (drop-cons s i 0 h, ne_eqb _ _ e)

  pub at_quote : i < length s → get_or s i 0 ≡ 34 → stop close ≡ step_of k (drop i s)
  at_quote h e = is_quote k (get_or s i 0) (λ x. omega arith) e ∙ at_plain h (λ x. omega arith)
