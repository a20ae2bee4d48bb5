-- The value of a content: no zero byte where the kind has none, and UTF-8 where the text is and no byte escapes are.
-- Assumes nothing.
use mathlib.Core.Path.{◌≡◌, refl, subst}
use mathlib.Core.Bool.{false}
use mathlib.Core.Logic.{◌⊎◌, inl, inr}
use mathlib.Core.List.{List, [], ◌∷◌, ◌++◌, append_assoc, append-nil}
use Prim.Native.Nat.{ℕ, ◌+◌, ◌*◌, ◌/◌, ◌<◌}
use native.Mathlib.Nat.{add-zero}
use native.Mathlib.Omega.{arith}
use borrow.Author.Tests.{eqb-false}
use lib.ListN.{length, get_or, length-append}
use lib.Seq.{take-append_seam, drop-append_seam, get_or-append-add}
use Rattle.scan.specs.Run.{All}
use Rattle.scan.specs.Sets.{except}
use Rattle.scan.proofs.Cases.{by_lt, clash}
use Rattle.scan.proofs.Runs.{all_append}
use Rattle.parse.specs.Class.{class_of}
use Rattle.parse.specs.Sets.{blank}
use Rattle.parse.proofs.Classes.{blank_cases}
use Rattle.utf8.specs.Utf8.{encode, Utf8}
use Rattle.utf8.specs.Cut.{continuation}
use Rattle.utf8.proofs.Laws.{is_row1, encode_high}
use Rattle.utf8.proofs.Text.{utf8_nil, utf8_one, utf8_append, utf8_ascii, utf8_after_ascii, boundary_at, boundary_take, boundary_drop}
use Rattle.utf8.proofs.Aligned.{aligned}
use Rattle.escape.specs.Allows.{byte_escapes, allow_nul}
use Rattle.escape.specs.Escape.{simple_escape_of, bytes_of}
use Rattle.escape.specs.Pieces.{Esc, letter, nul, hex, uni}
use Rattle.escape.specs.declared.Allowed.{Allowed}
use Rattle.escape.specs.declared.Unescaped.{Unescaped}
use Rattle.escape.specs.declared.Unescaped.TheVariants.{Nothing, Byte, Unicode}
use Rattle.escape.proofs.Values.{Unwraps, escape_unwraps}
use Rattle.escape.proofs.Exact.{escaped, after, first_two}
use Rattle.body.specs.Pieces.{Content, none, char, escape, continue}
use Rattle.body.proofs.Bytes.{other, tested, all_at}

-- ---- no zero byte

encode_no_zero : (v : ℕ) → (v ≡ 0 → ⊥) → All (except 0) (encode v)
encode_no_zero v g =
    by_lt v 0x80 (λ h. rw (is_row1 v h) (other v g, tt))
    (λ h. all_at (except 0) (encode v) (λ i l. other (get_or (encode v) i 0) (λ e. omega (arith, encode_high v h i l))))

module _ (k : Allowed) (no : allow_nul k ≡ false) where
  escape_no_zero : {t : List ℕ} {u : Unescaped} → Esc k t u → All (except 0) (bytes_of u)
  escape_no_zero (letter b h) = (other (simple_escape_of b) h, tt)
  escape_no_zero (nul a) = clash a no
  escape_no_zero (hex a b h g p q) = (other (class_of b + 16 * class_of a) (tested (allow_nul k) _ no q), tt)
  escape_no_zero (uni {v = v} u h l z sc e) = encode_no_zero v (tested (allow_nul k) v no z)

  pub content_no_zero : {c v : List ℕ} → Content k c v → All (except 0) v
  content_no_zero none = tt
  content_no_zero (char b h r) = (other b (tested (allow_nul k) b no h.nul), content_no_zero r)
  content_no_zero (escape {v = v} {u = u} x r e f) = rw f (all_append (except 0) (bytes_of u) v (escape_no_zero x) (content_no_zero r))
  content_no_zero (continue ws a st r e) = content_no_zero r

-- ---- UTF-8

-- a byte that is not 10xxxxxx cuts a text into two
cut : (p r : List ℕ) → (get_or r 0 0 / 64 ≡ 2 → ⊥) → Utf8 (p ++ r) → Utf8 p × Utf8 r
cut p r h u =
    let first : get_or (p ++ r) (length p) 0 ≡ get_or r 0 0 = rw add-zero at (get_or-append-add p r 0 0) in
    let b = boundary_at (p ++ r) u (length p) (omega (arith, length-append p r)) (rw first h) in
    (rw take-append_seam at (boundary_take (p ++ r) (length p) b), rw drop-append_seam at (boundary_drop (p ++ r) (length p) b))

-- and an ASCII byte may be left out
pub cut_at_ascii : (p : List ℕ) (b : ℕ) (r : List ℕ) → b < 0x80 → Utf8 (p ++ (b ∷ r)) → Utf8 p × Utf8 r
cut_at_ascii p b r h u = let c = cut p (b ∷ r) (λ e. omega arith) u in (c.0, utf8_after_ascii b r h c.1)

-- what stands before an escape and what stands after it
around_escape : {k : Allowed} {t : List ℕ} {u : Unescaped} → Esc k t u → (p r : List ℕ) → Utf8 (p ++ (t ++ r)) → Utf8 p × Utf8 r
unfolding continuation
around_escape {t = t} x p r w =
    let a = cut p (t ++ r) (λ e. omega (arith, (first_two r x).2)) w in
    (a.0, (cut t r (eqb-false (get_or r 0 0 / 64) 2 (after r x (aligned (t ++ r) a.1))) a.1).1)

-- what stands after spaces, tabs and LFs
after_blanks : (ws r : List ℕ) → All blank ws → Utf8 (ws ++ r) → Utf8 r
after_blanks [] r a u = u
after_blanks (b ∷ ws) r a u = after_blanks ws r a.1 (cut_at_ascii [] b (ws ++ r) (low (blank_cases b a.0)) u).1
  where
    low : (b ≡ 32) ⊎ ((b ≡ 9) ⊎ (b ≡ 10)) → b < 0x80
    low (inl e) = omega arith
    low (inr (inl e)) = omega arith
    low (inr (inr e)) = omega arith

module _ (k : Allowed) (low : byte_escapes k ≡ false) where
  escape_utf8 : {t : List ℕ} {u : Unescaped} → Esc k t u → Utf8 (bytes_of u)
  unfolding continuation
  escape_utf8 {t} {u} x = go u (rw (escaped k [] x refl) at (escape_unwraps k (t ++ [])))
    where
      go : (u : Unescaped) → Unwraps k u → Utf8 (bytes_of u)
      go Nothing h = absurd h
      go (Byte b) h = utf8_ascii b [] (h.1 low) utf8_nil
      go (Unicode c) h = utf8_one c h.0

  -- THE LAW, with p for what is passed of a character that is not at its end
  pub content_utf8 : {c v : List ℕ} → Content k c v → (p suf : List ℕ) → Utf8 (p ++ (c ++ (34 ∷ suf))) → Utf8 (p ++ v)
  content_utf8 none p suf w = rw append-nil (cut_at_ascii p 34 suf (omega arith) w).0
  content_utf8 (char b h r) p suf w = rw append_assoc at (content_utf8 r (p ++ (b ∷ [])) suf (rw append_assoc w))
  content_utf8 (escape {s = s} {v = v} {u = u} x r e f) p suf w =
      let rest : List ℕ = s ++ (34 ∷ suf) in
      let a = around_escape x p rest (rw (e, append_assoc) at w) in
      rw f (utf8_append p (bytes_of u ++ v) a.0 (utf8_append (bytes_of u) v (escape_utf8 x) (content_utf8 r [] suf a.1)))
  content_utf8 (continue {s} {v} {c} ws a st r e) p suf w =
      let is : c ++ (34 ∷ suf) ≡ 92 ∷ 10 ∷ (ws ++ (s ++ (34 ∷ suf))) = rw e (simp append_assoc) in
      let first = cut_at_ascii p 92 (10 ∷ (ws ++ (s ++ (34 ∷ suf)))) (omega arith) (subst (λ (l : List ℕ). Utf8 (p ++ l)) is w) in
      let rest = after_blanks ws (s ++ (34 ∷ suf)) a (cut_at_ascii [] 10 (ws ++ (s ++ (34 ∷ suf))) (omega arith) first.1).1 in
      utf8_append p v first.0 (content_utf8 r [] suf rest)
