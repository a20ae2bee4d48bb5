-- The digits between braces, read in one pass from the left: the result is the definition's, which looks for the `}` first.
-- Assumes nothing.
use mathlib.Core.Path.{◌≡◌, refl, ap, ◌∙◌}
use mathlib.Core.Bool.{Bool, true, cond}
use mathlib.Core.List.{List, [], ◌∷◌}
use Prim.Native.Nat.{ℕ, suc, ◌+◌, ◌*◌, ◌≤◌, ◌<◌}
use native.Mathlib.Omega.{arith}
use borrow.Author.Tests.{lt-ltb, le-ltb, eq-eqb, ne_eqb}
use lib.Dec.{eqb, ltb, eqb-suc-suc, eqb-zero-suc}
use lib.ListN.{length, get_or, take, drop, length-drop, drop_of_length-le}
use lib.Seq.{drop-cons, length-take-le}
use Rattle.scan.specs.Run.{run}
use Rattle.scan.specs.Sets.{except}
use Rattle.scan.proofs.Cases.{cond_in, cond_eq, cond_lt}
use Rattle.scan.proofs.Runs.{run_le}
use Rattle.parse.specs.Class.{class_of}
use Rattle.escape.specs.Allows.{unicode}
use Rattle.escape.specs.declared.Allowed.{Allowed}
use Rattle.escape_packed.specs.Packed.{packed_escape}
use Rattle.escape.specs.Escape.{Hex, hex_from, u_scalar, u_hex, bad_start, u_inner, u_escape}
use Rattle.escape.proofs.Hexes.{not_underscore}
use Rattle.escape.proofs.Escapes as laws

-- where nothing is accepted either way
none : (t : Bool) → ◌≡◌ {A = ℕ} 0 (cond t 0 0)
none t = cond_in (λ (x : ℕ). 0 ≡ x) t (λ e. refl) (λ e. refl)

module _ (k : Allowed) where
  -- the code of an escape, read on from its byte at i, after n digits worth v
  abbrev pub digits_code : ℕ → ℕ → ℕ → List ℕ → ℕ
  digits_code i n v [] = 0
  digits_code i n v (b ∷ s) =
      cond (eqb b 125) (cond (eqb i 3) 0 (packed_escape (u_scalar k (i + 1) v)))
      (cond (ltb (class_of b) 16)
      (cond (eqb n 6) 0 (digits_code (i + 1) (n + 1) (16 * v + class_of b) s))
      (cond (eqb i 3) 0
      (cond (eqb b 95) (digits_code (i + 1) n v s) 0)))

  -- this by the definition, with n of len bytes before the `}`: 0 where there is none, or else the code of m bytes whose digits are h
  abbrev closed_code : ℕ → ℕ → ℕ → Hex → ℕ
  closed_code n len m h = cond (eqb n len) 0 (packed_escape (u_hex k m h))

  -- after the first byte; j is where the definition counts a fault
  past : (s : List ℕ) (i j n v : ℕ) → 3 < i
      → digits_code i n v s ≡ closed_code (run (except 125) s) (length s) (i + 1 + run (except 125) s) (hex_from j n v (take (run (except 125) s) s))
  unfolding except
  past [] i j n v h = refl
  past (b ∷ s) i j n v h =
      let r : ℕ = run (except 125) s in
      let P : ℕ → Type 0 =
      λ x. x ≡ closed_code (run (except 125) (b ∷ s)) (length (b ∷ s)) (i + 1 + run (except 125) (b ∷ s)) (hex_from j n v (take (run (except 125) (b ∷ s)) (b ∷ s))) in
      let next : (n v : ℕ) → digits_code (i + 1) n v s ≡ closed_code r (length s) (i + 1 + suc r) (hex_from (j + 1) n v (take r s)) =
      λ n v. past s (i + 1) (j + 1) n v (omega arith) ∙ ap (λ (m : ℕ). closed_code r (length s) m (hex_from (j + 1) n v (take r s))) (omega arith) in
      cond_eq P b 125 (λ f.
      cond_eq P i 3 (λ e. absurd (omega arith)) λ e.
      rw (eq-eqb b 125 f, eqb-zero-suc) (ap (λ (m : ℕ). packed_escape (u_scalar k m v)) (omega arith))) λ f.
      cond_lt P (class_of b) 16 (λ l.
      cond_eq P n 6 (λ e. rw (ne_eqb b 125 f, eqb-suc-suc, ne_eqb b 95 (not_underscore b l), lt-ltb (class_of b) 16 l, eq-eqb n 6 e) (none (eqb r (length s)))) λ e.
      rw (ne_eqb b 125 f, eqb-suc-suc, ne_eqb b 95 (not_underscore b l), lt-ltb (class_of b) 16 l, ne_eqb n 6 e) (next (n + 1) (16 * v + class_of b))) λ l.
      cond_eq P i 3 (λ e. absurd (omega arith)) λ e.
      cond_eq P b 95 (λ g. rw (ne_eqb b 125 f, eqb-suc-suc, eq-eqb b 95 g) (next n v)) λ g.
      rw (ne_eqb b 125 f, eqb-suc-suc, ne_eqb b 95 g, le-ltb (class_of b) 16 l) (none (eqb r (length s)))

  -- from the first byte on, which must be a digit
  from_first : (s : List ℕ)
      → digits_code 3 0 0 s ≡ cond (eqb (run (except 125) s) (length s)) 0
      (cond (bad_start (take (run (except 125) s) s)) 0 (packed_escape (u_hex k (4 + run (except 125) s) (hex_from 0 0 0 (take (run (except 125) s) s)))))
  unfolding except bad_start
  from_first [] = refl
  from_first (b ∷ s) =
      let r : ℕ = run (except 125) s in
      let n : ℕ = run (except 125) (b ∷ s) in
      let d : List ℕ = take n (b ∷ s) in
      let P : ℕ → Type 0 = λ x. x ≡ cond (eqb n (length (b ∷ s))) 0 (cond (bad_start d) 0 (packed_escape (u_hex k (4 + n) (hex_from 0 0 0 d)))) in
      cond_eq P b 125 (λ f. rw (eq-eqb b 125 f, eqb-zero-suc)) λ f.
      cond_lt P (class_of b) 16 (λ l.
      rw (ne_eqb b 125 f, eqb-suc-suc, ne_eqb b 95 (not_underscore b l), lt-ltb (class_of b) 16 l)
      (past s 4 1 1 (16 * 0 + class_of b) (omega arith) ∙ ap (λ (m : ℕ). closed_code r (length s) m (hex_from 1 1 (16 * 0 + class_of b) (take r s))) (omega arith))) λ l.
      cond_eq (λ (x : ℕ). P 0) b 95 {x = 0} {y = 0} (λ g. rw (ne_eqb b 125 f, eqb-suc-suc, eq-eqb b 95 g) (none (eqb r (length s)))) λ g.
      rw (ne_eqb b 125 f, eqb-suc-suc, ne_eqb b 95 g, le-ltb (class_of b) 16 l) (none (eqb r (length s)))

  -- THE LAW: after `\u{` one pass gives the code of the escape
  pub digits_code_lem : (s : List ℕ) → unicode k ≡ true → get_or s 2 0 ≡ 123 → digits_code 3 0 0 (drop 3 s) ≡ packed_escape (u_escape k s)
  digits_code_lem s u e =
      let r : List ℕ = drop 3 s in
      let n : ℕ = run (except 125) r in
      let d : List ℕ = take n r in
      let P : ℕ → Type 0 = λ x. x ≡ packed_escape (u_escape k s) in
      let whole : length s ≡ length r + 3 = omega (arith, laws.brace_there s e, length-drop 3 s) in
      from_first r
      ∙ cond_eq P n (length r) (λ f. ap packed_escape (laws.u_open k s u e n refl (omega arith))) λ f.
      rw (← laws.u_closed k s u e n refl (λ x. f (omega arith)))
      (cond_in (λ (x : ℕ). x ≡ packed_escape (u_inner k d)) (bad_start d) (λ g. ap packed_escape (laws.inner_start k d g)) λ g.
      ap (λ (m : ℕ). packed_escape (u_hex k m (hex_from 0 0 0 d))) (omega (arith, length-take-le n r (run_le (except 125) r))) ∙ ap packed_escape (laws.inner_digits k d g))

  -- past the text's last byte there is no `}`
  pub at_end : (s : List ℕ) (i n v : ℕ) → length s ≤ i → 0 ≡ digits_code i n v (drop i s)
  at_end s i n v h = rw (drop_of_length-le s h)

  -- the first byte after `\u{`, at offset 3, has to be a digit
  pub first : (s : List ℕ) (i n v : ℕ) → i < length s → 16 ≤ class_of (get_or s i 0) → i ≡ 3 → 0 ≡ digits_code i n v (drop i s)
  first s i n v h l e = rw (drop-cons s i 0, le-ltb _ _ l, eq-eqb _ _ e) (none (eqb (get_or s i 0) 125))
