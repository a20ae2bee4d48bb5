-- An escape is read exactly where its parts stand.
-- Assumes nothing.
use mathlib.Core.Path.{◌≡◌, refl, ap, sym, ◌∙◌, subst}
use mathlib.Core.Bool.{Bool, true, false, not, ◌&&◌}
use mathlib.Core.List.{List, [], ◌∷◌, ◌++◌, append_assoc, append-nil}
use Prim.Native.Nat.{ℕ, suc, ◌+◌, ◌*◌, ◌≤◌, ◌<◌}
use native.Mathlib.Nat.{add-zero}
use native.Mathlib.Omega.{arith}
use borrow.Author.Tests.{ne_eqb, lt-ltb, eqb-true, ltb-true, lt-leb, not-false}
use lib.Dec.{eqb, ltb}
use lib.ListN.{length, get_or, take, length-append}
use lib.Seq.{take-append_seam, length-take-le, take-suc, drop-cons}
use Rattle.scan.specs.Run.{run, All, Stops}
use Rattle.scan.specs.Sets.{except, only}
use Rattle.scan.proofs.Cases.{cond_in, cond_eq, cond_lt, clash, by_lt}
use Rattle.scan.proofs.Runs.{run_le, run_stops, run_is, all_append}
use Rattle.parse.specs.Class.{class_of}
use Rattle.parse.proofs.Classes.{class_above, both}
use Rattle.utf8.specs.Cut.{continuation, is_boundary, Aligned}
use Rattle.utf8.proofs.Aligned.{aligned_at}
use Rattle.escape.specs.Allows.{unicode, byte_escapes, allow_nul}
use Rattle.escape.specs.Escape.{Escaped, value, bad, simple_escape_of, x_byte, x_escape, Hex, number, fault, hex_from, is_scalar, u_scalar, bad_start, u_hex, u_inner, u_braced, u_escape, escape_by, escape_of}
use Rattle.escape.specs.Pieces.{Hexes, one, more, Esc, letter, nul, hex, uni}
use Rattle.escape.specs.declared.Allowed.{Allowed}
use Rattle.escape.specs.declared.Unescaped.{Unescaped}
use Rattle.escape.specs.declared.Unescaped.TheVariants.{Byte, Unicode}
use Rattle.escape.proofs.Hexes.{hex_value, not_underscore, not_brace}
use Rattle.escape.proofs.Escapes as laws
use Rattle.escape.proofs.Within.{boundary_in}

-- ---- digits

-- underscores are passed over
skip : (i n v : ℕ) (us r : List ℕ) → All (only 95) us → hex_from i n v (us ++ r) ≡ hex_from (i + length us) n v r
unfolding only
skip i n v [] r h = rw add-zero
skip i n v (b ∷ us) r h = rw h.0 (skip (i + 1) n v us r h.1 ∙ ap (λ (j : ℕ). hex_from j n v r) (omega arith))

-- a digit and its underscores
group : (i n v b : ℕ) (us r : List ℕ) → class_of b < 16 → (n ≡ 6 → ⊥) → All (only 95) us
    → hex_from i n v (b ∷ (us ++ r)) ≡ hex_from (i + 1 + length us) (n + 1) (16 * v + class_of b) r
group i n v b us r h g a =
    rw (ne_eqb b 95 (not_underscore b h), lt-ltb (class_of b) 16 h, ne_eqb n 6 g) (skip (i + 1) (n + 1) (16 * v + class_of b) us r a)

at_index : (n i j v w : ℕ) (r : List ℕ) → i ≡ j → v ≡ w → hex_from i n v r ≡ hex_from j n w r
at_index n i j v w r e f = rw (e, f)

hexes : {n : ℕ} {d : List ℕ} {v : ℕ} (r : List ℕ) → Hexes n d v → n ≤ 6 → hex_from 0 0 0 (d ++ r) ≡ hex_from (length d) n v r
hexes r (one b us h a e f) l =
    rw (e, f)
    (group 0 0 0 b us r h (λ x. omega arith) a
    ∙ at_index 1 (0 + 1 + length us) (suc (length us)) (16 * 0 + class_of b) (class_of b) r (omega arith) (omega arith))
hexes r (more {n} {d} {v = v} b us m h a e f) l =
    rw (e, f, append_assoc)
    (hexes ((b ∷ us) ++ r) m (omega arith)
    ∙ group (length d) n v b us r h (λ x. omega arith) a
    ∙ at_index (n + 1) (length d + 1 + length us) (length (d ++ (b ∷ us))) (16 * v + class_of b) (16 * v + class_of b) r
    (omega (arith, length-append d (b ∷ us))) refl)

underscores_no_brace : (us : List ℕ) → All (only 95) us → All (except 125) us
unfolding except only
underscores_no_brace [] a = tt
underscores_no_brace (b ∷ us) a = (rw (ne_eqb b 125 (λ e. omega (arith, eqb-true b 95 a.0))), underscores_no_brace us a.1)

group_no_brace : (b : ℕ) (us : List ℕ) → class_of b < 16 → All (only 95) us → All (except 125) (b ∷ us)
unfolding except
group_no_brace b us h a = (rw (ne_eqb b 125 (not_brace b h)), underscores_no_brace us a)

no_brace : {n : ℕ} {d : List ℕ} {v : ℕ} → Hexes n d v → All (except 125) d
no_brace (one b us h a e f) = rw e (group_no_brace b us h a)
no_brace (more {d = d} b us m h a e f) = rw e (all_append (except 125) d (b ∷ us) (no_brace m) (group_no_brace b us h a))

-- the first byte between the braces is a digit
starts : {n : ℕ} {d : List ℕ} {v : ℕ} → Hexes n d v → bad_start d ≡ false
unfolding bad_start
starts (one b us h a e f) = rw (e, ne_eqb b 95 (not_underscore b h))
starts (more {d = d} b us m h a e f) = rw e (longer d (starts m))
  where
    longer : (d : List ℕ) → bad_start d ≡ false → bad_start (d ++ (b ∷ us)) ≡ false
    longer [] x = ne_eqb b 95 (not_underscore b h)
    longer (g ∷ d) x = x

-- ---- one escape

module _ (k : Allowed) where
  u_read : {n : ℕ} {d : List ℕ} {v : ℕ} (x : List ℕ) → unicode k ≡ true → Hexes n d v → n ≤ 6
      → (not (allow_nul k) && eqb v 0) ≡ false → is_scalar v ≡ true
      → escape_of k (92 ∷ 117 ∷ 123 ∷ ((d ++ (125 ∷ [])) ++ x)) ≡ value (Unicode v) (length d + 4)
  unfolding simple_escape_of u_scalar except
  u_read {n} {d} {v} x u h l z sc =
      let r : List ℕ = (d ++ (125 ∷ [])) ++ x in
      let s : List ℕ = 92 ∷ 117 ∷ 123 ∷ r in
      let count : length d ≡ run (except 125) r =
      sym (ap (run (except 125)) (append_assoc d (125 ∷ []) x) ∙ run_is (except 125) d (125 ∷ x) (no_brace h) refl) in
      let cut : take (length d) r ≡ d = ap (take (length d)) (append_assoc d (125 ∷ []) x) ∙ take-append_seam d (125 ∷ x) in
      let number_is : hex_from 0 0 0 d ≡ number v = ap (hex_from 0 0 0) (sym (append-nil d)) ∙ hexes [] h l in
      sym (laws.is_u k s (omega arith) refl (λ e. omega arith) (λ e. omega arith) refl)
      ∙ sym (laws.u_closed k s u refl (length d) count (λ e. omega (arith, length-append (d ++ (125 ∷ [])) x, length-append d (125 ∷ []))))
      ∙ ap (u_inner k) cut
      ∙ sym (laws.inner_digits k d (starts h))
      ∙ ap (u_hex k (length d + 4)) number_is
      ∙ rw (z, sc)

  boundary : (a b : ℕ) (x : List ℕ) → continuation (get_or x 0 0) ≡ false → is_boundary (92 ∷ 120 ∷ a ∷ b ∷ x) 4 ≡ true
  unfolding is_boundary
  boundary a b [] f = refl
  boundary a b (y ∷ x) f = rw (lt-leb (length (92 ∷ 120 ∷ a ∷ b ∷ y ∷ x)) 4 (omega arith), f)

  -- an escape is read as the pieces have it, whatever follows, unless that is a byte inside a character
  pub escaped : {t : List ℕ} {u : Unescaped} (x : List ℕ) → Esc k t u → continuation (get_or x 0 0) ≡ false → escape_of k (t ++ x) ≡ value u (length t)
  unfolding simple_escape_of x_byte
  escaped x (letter b h) f = sym (laws.one_letter k (92 ∷ b ∷ x) (omega arith) (simple_escape_of b) refl h)
  escaped x (nul a) f = sym (laws.nul k (92 ∷ 48 ∷ x) (omega arith) refl refl a)
  escaped x (hex a b h g p q) f =
      let s : List ℕ = 92 ∷ 120 ∷ a ∷ b ∷ x in
      sym (laws.is_x k s (omega arith) refl (λ e. omega arith) refl)
      ∙ sym (laws.x_value k s (boundary a b x f) (class_of a) (hex_value a h) (class_of b) (hex_value b g))
      ∙ rw (p, q)
  escaped x (uni {d = d} {t = t} {v = v} u h l z sc e) f =
      rw e (u_read x u h l z sc ∙ ap (value (Unicode v)) (omega (arith, length-append d (125 ∷ []))))

-- ---- where an escape ends

digit_ascii : (b : ℕ) → class_of b < 16 → b < 0x80
digit_ascii b h = by_lt b 0x80 (λ l. l) (λ l. absurd (omega (arith, class_above b l)))

letter_ascii : (b : ℕ) → (simple_escape_of b ≡ 0 → ⊥) → b < 0x80
unfolding simple_escape_of
letter_ascii b =
    let P : ℕ → Type 0 = λ c. (c ≡ 0 → ⊥) → b < 0x80 in
    cond_eq P b 39 (λ e h. omega arith) λ e.
    cond_eq P b 34 (λ e h. omega arith) λ e.
    cond_eq P b 110 (λ e h. omega arith) λ e.
    cond_eq P b 114 (λ e h. omega arith) λ e.
    cond_eq P b 116 (λ e h. omega arith) λ e.
    cond_eq P b 92 (λ e h. omega arith) (λ e h. absurd (h refl))

-- no byte inside a character follows an escape
pub after : {k : Allowed} {t : List ℕ} {u : Unescaped} (r : List ℕ) → Esc k t u → Aligned (t ++ r) → continuation (get_or r 0 0) ≡ false
unfolding continuation
after [] x al = refl
after (y ∷ r) (letter b h) al = al.1.0 (letter_ascii b h)
after (y ∷ r) (nul a) al = al.1.0 (omega arith)
after (y ∷ r) (hex a b h g p q) al = al.1.1.1.0 (digit_ascii b g)
after (y ∷ r) (uni {d = d} u h l z sc e) al =
    aligned_at (92 ∷ 117 ∷ 123 ∷ d) 125 y r (subst Aligned (append_assoc (92 ∷ 117 ∷ 123 ∷ d) (125 ∷ []) (y ∷ r)) (rw e at al)) (omega arith)

-- the first bytes of an escape
pub first_two : {k : Allowed} {t : List ℕ} {u : Unescaped} (r : List ℕ) → Esc k t u
    → (0 < length (t ++ r)) × (0 < length t) × (get_or (t ++ r) 0 0 ≡ 92) × (get_or (t ++ r) 1 0 ≡ 10 → ⊥)
unfolding simple_escape_of
first_two r (letter b h) = (omega arith, omega arith, refl, λ e. h (ap simple_escape_of e))
first_two r (nul a) = (omega arith, omega arith, refl, λ e. omega arith)
first_two r (hex a b h g p q) = (omega arith, omega arith, refl, λ e. omega arith)
first_two r (uni {d = d} u h l z sc e) = rw e (omega arith, omega arith, refl, λ x. omega arith)

-- ---- and back: what is read is made of digits

-- one more underscore
snoc : {n : ℕ} {d : List ℕ} {v : ℕ} (x : ℕ) → only 95 x ≡ true → Hexes n d v → Hexes n (d ++ (x ∷ [])) v
snoc x u (one b us h a e f) =
    one b (us ++ (x ∷ [])) h (all_append (only 95) us (x ∷ []) a (u, tt)) (ap (λ (l : List ℕ). l ++ (x ∷ [])) e) f
snoc x u (more {d = d} b us m h a e f) =
    more b (us ++ (x ∷ [])) m h (all_append (only 95) us (x ∷ []) a (u, tt))
    (ap (λ (l : List ℕ). l ++ (x ∷ [])) e ∙ append_assoc d (b ∷ us) (x ∷ [])) f

abbrev Digits : List ℕ → Hex → Type 0
Digits d (number w) = (m : ℕ) × (m ≤ 6) × Hexes m d w
Digits d (fault num i) = Unit {0}

digits_on : (s p : List ℕ) (i n v : ℕ) → Hexes n p v → n ≤ 6 → Digits (p ++ s) (hex_from i n v s)
unfolding only
digits_on [] p i n v h l = (n, l, rw append-nil h)
digits_on (b ∷ s) p i n v h l =
    let P : Hex → Type 0 = Digits (p ++ (b ∷ s)) in
    let joined : (p ++ (b ∷ [])) ++ s ≡ p ++ (b ∷ s) = append_assoc p (b ∷ []) s in
    cond_in P (eqb b 95) (λ e. rw joined at (digits_on s (p ++ (b ∷ [])) (i + 1) n v (snoc b e h) l)) λ e.
    cond_lt P (class_of b) 16
    (λ f. cond_eq P n 6 (λ g. tt) λ g.
    rw joined at (digits_on s (p ++ (b ∷ [])) (i + 1) (n + 1) (16 * v + class_of b) (more b [] h f tt refl refl) (omega arith)))
    (λ f. tt)

digits : (d : List ℕ) → bad_start d ≡ false → Digits d (hex_from 0 0 0 d)
unfolding bad_start
digits [] h = clash refl h
digits (b ∷ s) h =
    let P : Hex → Type 0 = Digits (b ∷ s) in
    cond_in P (eqb b 95) (λ e. clash e h) λ e.
    cond_lt P (class_of b) 16
    (λ f. digits_on s (b ∷ []) (0 + 1) (0 + 1) (16 * 0 + class_of b) (one b [] f tt refl (omega arith)) (omega arith))
    (λ f. tt)

-- where a run stops short of the end
run_stopped : (p : ℕ → Bool) (s : List ℕ) → (run p s ≡ length s → ⊥) → (run p s < length s) × (p (get_or s (run p s) 0) ≡ false)
run_stopped p s h =
    let l : run p s < length s = omega (arith, run_le p s) in
    (l, subst (λ (r : List ℕ). Stops p r) (drop-cons s (run p s) 0 l) (run_stops p s))

-- ---- what is read is an escape

-- the brace after the digits
closed : (r : List ℕ) → (run (except 125) r + 3 ≡ suc (suc (suc (length r))) → ⊥)
    → (run (except 125) r < length r) × (get_or r (run (except 125) r) 0 ≡ 125)
unfolding except
closed r h =
    let st = run_stopped (except 125) r (λ x. h (omega arith)) in
    (st.0, eqb-true _ 125 (not-false _ st.1))

braced : (c : ℕ) (r : List ℕ) (n : ℕ) → c ≡ 123 → n < length r → get_or r n 0 ≡ 125
    → take (length (take n r) + 4) (92 ∷ 117 ∷ c ∷ r) ≡ 92 ∷ 117 ∷ 123 ∷ (take n r ++ (125 ∷ []))
braced c r n e l brace =
    let four : length (take n r) + 4 ≡ suc (suc (suc (suc n))) = omega (arith, length-take-le n r (omega arith)) in
    rw (four, take-suc r n 0 l, e, brace)

module _ (k : Allowed) where
  -- the bytes of an escape are one of the pieces
  abbrev pub Escapes : List ℕ → Escaped → Type 0
  Escapes s (value u n) = Esc k (take n s) u
  Escapes s (bad num p) = Unit {0}

  x_sound : (s : List ℕ) → Escapes (92 ∷ 120 ∷ s) (x_escape k (92 ∷ 120 ∷ s))
  unfolding x_escape x_byte
  x_sound [] =
      cond_in (Escapes (92 ∷ 120 ∷ [])) (is_boundary (92 ∷ 120 ∷ []) 4) (λ e. absurd (omega (arith, boundary_in (92 ∷ 120 ∷ []) 4 e))) (λ e. tt)
  x_sound (a ∷ []) =
      cond_in (Escapes (92 ∷ 120 ∷ a ∷ [])) (is_boundary (92 ∷ 120 ∷ a ∷ []) 4)
      (λ e. absurd (omega (arith, boundary_in (92 ∷ 120 ∷ a ∷ []) 4 e))) (λ e. tt)
  x_sound (a ∷ b ∷ s) =
      let P : Escaped → Type 0 = Escapes (92 ∷ 120 ∷ a ∷ b ∷ s) in
      let v : ℕ = class_of b + 16 * class_of a in
      cond_in P (is_boundary (92 ∷ 120 ∷ a ∷ b ∷ s) 4) (λ e.
      cond_in P (ltb (class_of a) 16 && ltb (class_of b) 16) (λ f.
      let d = both (ltb (class_of a) 16) (ltb (class_of b) 16) f in
      cond_in P (not (byte_escapes k) && ltb 127 v) (λ g. tt) λ g.
      cond_in P (not (allow_nul k) && eqb v 0) (λ h. tt) λ h.
      hex a b (ltb-true (class_of a) 16 d.0) (ltb-true (class_of b) 16 d.1) g h) λ f. tt) λ e. tt

  of_hex : (s d : List ℕ) (n : ℕ) (h : Hex) → unicode k ≡ true → take n s ≡ 92 ∷ 117 ∷ 123 ∷ (d ++ (125 ∷ [])) → Digits d h
      → Escapes s (u_hex k n h)
  unfolding u_scalar
  of_hex s d n (number v) u e (m, l, x) =
      cond_in (Escapes s) (not (allow_nul k) && eqb v 0) (λ f. tt) λ f.
      cond_in (Escapes s) (is_scalar v) (λ g. uni u x l f g e) (λ g. tt)
  of_hex s d n (fault num i) u e x = tt

  u_sound : (s : List ℕ) → Escapes (92 ∷ 117 ∷ s) (u_escape k (92 ∷ 117 ∷ s))
  unfolding u_escape u_braced u_inner
  u_sound [] = cond_in (Escapes (92 ∷ 117 ∷ [])) (unicode k) (λ u. tt) (λ u. tt)
  u_sound (c ∷ r) =
      let P : Escaped → Type 0 = Escapes (92 ∷ 117 ∷ c ∷ r) in
      let n : ℕ = run (except 125) r in
      let d : List ℕ = take n r in
      cond_in P (unicode k) (λ u.
      cond_eq P c 123 (λ e.
      cond_eq P (n + 3) (suc (suc (suc (length r)))) (λ f. tt) λ f.
      let at = closed r f in
      cond_in P (bad_start d) (λ g. tt) λ g.
      of_hex (92 ∷ 117 ∷ c ∷ r) d (length d + 4) (hex_from 0 0 0 d) u (braced c r n e at.0 at.1) (digits d g)) λ e. tt) λ u. tt

  -- what an escape's reading takes is an escape of the pieces
  pub escape_sound : (s : List ℕ) → Escapes (92 ∷ s) (escape_of k (92 ∷ s))
  unfolding escape_of escape_by
  escape_sound [] = tt
  escape_sound (b ∷ s) =
      let P : Escaped → Type 0 = Escapes (92 ∷ b ∷ s) in
      cond_in P (ltb (length (92 ∷ b ∷ s)) 2) (λ e. tt) λ e.
      cond_eq P (simple_escape_of b) 0 (λ f.
      cond_eq P b 48 (λ g. cond_in P (allow_nul k) (λ a. subst (λ (x : ℕ). Esc k (92 ∷ x ∷ []) (Byte 0)) (sym g) (nul a)) (λ a. tt)) λ g.
      cond_eq P b 120 (λ x. subst (λ (x : ℕ). Escapes (92 ∷ x ∷ s) (x_escape k (92 ∷ x ∷ s))) (sym x) (x_sound s)) λ x.
      cond_eq P b 117 (λ u. subst (λ (x : ℕ). Escapes (92 ∷ x ∷ s) (u_escape k (92 ∷ x ∷ s))) (sym u) (u_sound s)) λ u. tt) λ f.
      letter b f
