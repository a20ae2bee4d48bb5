-- The code of a step: any but 0 is that of the piece that a backslash starts.
-- Assumes nothing.
use mathlib.Core.Path.{◌≡◌, refl, ap, sym, ◌∙◌}
use mathlib.Core.Bool.{Bool, true, false, cond}
use mathlib.Core.List.{List, [], ◌∷◌}
use Prim.Native.Nat.{ℕ, ◌+◌, ◌-◌, ◌≤◌, ◌<◌}
use native.Mathlib.Omega.{arith}
use borrow.Author.Tests.{eq-eqb, ne_eqb}
use lib.Dec.{eqb}
use lib.ListN.{length, get_or, take, drop, length-take, length-drop}
use lib.Seq.{drop-cons, drop-drop, get_or-drop}
use Rattle.scan.specs.Run.{run}
use Rattle.scan.proofs.Cases.{cond_in, cond_eq}
use Rattle.scan.proofs.Bytes.{byte_inside}
use Rattle.parse.specs.Sets.{blank}
use Rattle.utf8.specs.Cut.{continuation, last_len, front}
use Rattle.utf8.proofs.Cuts.{front_length, front_drop}
use Rattle.escape.specs.Escape.{Escaped, value, bad, escape_of}
use Rattle.escape_packed.specs.Packed.{packed_piece, packed_escape, packed_len, packed_value}
use Rattle.escape.specs.declared.Allowed.{Allowed}
use Rattle.escape.specs.declared.Unescaped.TheVariants.{Nothing}
use Rattle.escape.proofs.Escapes.{too_short}
use Rattle.escape_packed.proofs.Codes.{Coded, code_len, code_value, code_some, EscapeCoded, escape_coded}
use Rattle.body.specs.Step.{Next, piece, stop, of_escape, line_break_of, backslash_of, plain_of, step_of}
use Rattle.body.specs.Packed.{packed_next, packed_backslash, Stopped}
use Rattle.body.proofs.Steps as steps

-- ---- what a code tells

-- a piece is not empty, and what it stands for has a code of its own
abbrev NextCoded : Next → Type 0
NextCoded (piece n u) = (0 < n) × Coded u
NextCoded (stop e) = Unit {0}

backslash_coded : (k : Allowed) (s : List ℕ) → NextCoded (backslash_of k s)
unfolding backslash_of line_break_of
backslash_coded k s =
    let rest : List ℕ = drop 2 s in
    cond_eq NextCoded (get_or s 1 0) 10
    (λ e. cond_in NextCoded (eqb (run blank rest) (length rest)) (λ f. tt) (λ f. (omega arith, tt)))
    (λ e. of_escape_lem (escape_of k (front s)) (escape_coded k (front s)))
  where
    of_escape_lem : (e : Escaped) → EscapeCoded e → NextCoded (of_escape e)
    of_escape_lem (value u n) h = h
    of_escape_lem (bad num p) h = tt

-- THE LAW: a code other than 0 is that of the piece that a backslash starts.
module _ (k : Allowed) (s : List ℕ) (c : ℕ) (e : c ≡ packed_backslash k s) (z : c ≡ 0 → ⊥) where
  pub code_step : step_of k s ≡ piece (packed_len c) (packed_value c)
  unfolding packed_backslash step_of
  code_step = by_front s e
    where
      of_next : (x : Next) → NextCoded x → c ≡ packed_next x → x ≡ piece (packed_len c) (packed_value c)
      of_next (piece n u) h e = rw (e, code_len n u h.1, code_value n u h.1)
      of_next (stop w) h e = absurd (z e)

      by_test : (s : List ℕ) (p : Next) (t : Bool) → c ≡ cond t (packed_next (backslash_of k s)) 0
          → cond t (backslash_of k s) p ≡ piece (packed_len c) (packed_value c)
      by_test s p true e = of_next (backslash_of k s) (backslash_coded k s) e
      by_test s p false e = absurd (z e)

      by_front : (s : List ℕ) → c ≡ packed_backslash k s → step_of k s ≡ piece (packed_len c) (packed_value c)
      by_front [] e = absurd (z e)
      by_front (b ∷ s) e = by_test (b ∷ s) (plain_of k b) (eqb b 92) e

-- ---- one law for each way to a code, at an offset

escape_short : (k : Allowed) (s : List ℕ) → length (front s) < 2 → (get_or s 1 0 ≡ 10 → ⊥) → 0 ≡ packed_next (backslash_of k s)
escape_short k s l e = ap (λ (x : Escaped). packed_next (of_escape x)) (too_short k (front s) l) ∙ ap packed_next (steps.is_escape k s e)

code_short : (k : Allowed) (s : List ℕ) → length s < 2 → 0 ≡ packed_backslash k s
unfolding packed_backslash
code_short k [] h = refl
code_short k (b ∷ []) h =
    cond_in (λ (c : ℕ). 0 ≡ c) (eqb b 92)
    (λ e. escape_short k (b ∷ []) (omega (arith, front_length (b ∷ []))) (λ x. omega arith)) (λ e. refl)
code_short k (a ∷ b ∷ s) h = absurd (omega arith)

module _ (k : Allowed) (s : List ℕ) (i : ℕ) where
  pub at_short : length s - i < 2 → 0 ≡ packed_backslash k (drop i s)
  at_short h = code_short k (drop i s) (omega (arith, length-drop i s))

  module _ (l : i < length s) where
    pub at_other : (get_or s i 0 ≡ 92 → ⊥) → 0 ≡ packed_backslash k (drop i s)
    unfolding packed_backslash
    at_other e = rw (drop-cons s i 0 l, ne_eqb _ _ e)

    module _ (e : get_or s i 0 ≡ 92) where
      at_backslash : packed_next (backslash_of k (drop i s)) ≡ packed_backslash k (drop i s)
      unfolding packed_backslash
      at_backslash = rw (drop-cons s i 0 l, eq-eqb _ _ e)

      -- 0 where the body ends
      pub code_stops : packed_backslash k (drop i s) ≡ 0 → Stopped (step_of k (drop i s))
      code_stops z =
          rw (← (steps.at_backslash k s i l e)) (go (backslash_of k (drop i s)) (backslash_coded k (drop i s)) (at_backslash ∙ z))
        where
          go : (x : Next) → NextCoded x → packed_next x ≡ 0 → Stopped x
          go (piece n u) h g = absurd (code_some n u h.0 g)
          go (stop w) h g = tt

      -- a dropped line break, and n blanks after it
      module _ (f : get_or s (i + 1) 0 ≡ 10) (n : ℕ) (is : n ≡ run blank (drop (i + 2) s)) where
        at_break : packed_next (line_break_of (drop (i + 2) s)) ≡ packed_backslash k (drop i s)
        at_break = rw drop-drop at (ap packed_next (steps.is_break k (drop i s) (get_or-drop i s 1 0 ∙ f))) ∙ at_backslash

        pub at_open : i + 2 + n ≡ length s → 0 ≡ packed_backslash k (drop i s)
        at_open g =
            ap packed_next (steps.break_open (drop (i + 2) s) n is (omega (arith, length-drop (i + 2) s))) ∙ at_break

        pub at_blanks : (i + 2 + n ≡ length s → ⊥) → packed_piece (n + 2) Nothing ≡ packed_backslash k (drop i s)
        at_blanks g =
            let h = byte_inside s (i + 1) 10 f (omega arith) in
            ap packed_next (steps.break_drops (drop (i + 2) s) n is (λ x. g (omega (arith, length-drop (i + 2) s))))
            ∙ at_break

      -- an escape, which sees what stands before `end`
      module _ (f : get_or s (i + 1) 0 ≡ 10 → ⊥) (end : ℕ) (is : end ≡ length s - last_len s) where
        seen : front (drop i s) ≡ take (end - i) (drop i s)
        unfolding continuation
        seen = front_drop s i l (ap continuation e) ∙ ap (λ (n : ℕ). take (n - i) (drop i s)) (sym is)

        other : get_or (drop i s) 1 0 ≡ 10 → ⊥
        other x = f (sym (get_or-drop i s 1 0) ∙ x)

        pub at_cut : end ≤ i + 1 → 0 ≡ packed_backslash k (drop i s)
        at_cut h =
            escape_short k (drop i s) (rw seen (omega (arith, length-take (end - i) (drop i s)))) other ∙ at_backslash

        pub at_escape : (c : ℕ) → c ≡ packed_escape (escape_of k (take (end - i) (drop i s))) → c ≡ packed_backslash k (drop i s)
        at_escape c h =
            h ∙ ap (λ (t : List ℕ). packed_escape (escape_of k t)) (sym seen)
            ∙ of_escape_lem (escape_of k (front (drop i s)))
            ∙ ap packed_next (steps.is_escape k (drop i s) other) ∙ at_backslash
          where
            of_escape_lem : (x : Escaped) → packed_escape x ≡ packed_next (of_escape x)
            of_escape_lem (value u n) = refl
            of_escape_lem (bad num p) = refl
