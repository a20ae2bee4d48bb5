-- A text that is made up of a string literal's parts is accepted, with the reading and the value that the parts give.
-- Assumes nothing.
use mathlib.Core.Path.{◌≡◌, refl, ap, sym, ◌∙◌, subst}
use mathlib.Core.List.{List, ◌∷◌, ◌++◌}
use Prim.Native.Nat.{ℕ, zero, suc, ◌+◌, ◌<◌}
use native.Mathlib.Omega.{arith}
use lib.ListN.{length, get_or, take, drop, length-append, take-append-drop}
use lib.Seq.{drop-drop, drop-append-add, take-append_seam, get_or-drop, drop_at, get_or_at}
use Rattle.err.specs.Outcome.{Values, accepted, Rawness, not_raw, raw, decoded}
use Rattle.scan.specs.Run.{run, All}
use Rattle.scan.specs.Sets.{only}
use Rattle.scan.proofs.Runs.{run_is}
use Rattle.escape.specs.declared.Allowed.{Allowed}
use Rattle.escape.specs.declared.Allowed.TheVariants.{Text, Bytes, C}
use Rattle.suffix.specs.Suffix.{suffix_fault}
use Rattle.utf8.specs.Cut.{Aligned}
use Rattle.utf8.proofs.Aligned.{aligned_rest}
use Rattle.body.specs.Step.{close}
use Rattle.body.specs.Body.{Body, body}
use Rattle.body.specs.Quote.{closing, after_body, string_of}
use Rattle.body.proofs.Strings.{suffix_good}
use Rattle.body_value.proofs.Complete as pieces
use Rattle.raw.specs.Raw.{raw_body}
use Rattle.raw.proofs.Strings.{raw_is}
use Rattle.raw.proofs.Contents.{raw_exact}
use Rattle.string.specs.String.{string_kind, offset_of, opening_by, opening_at, of_quote, read_by, string_read, hashes_at, value_by, string_value}
use Rattle.string.specs.Parts.{kind_letter, hashes, QuotedParts, RawParts, Tiled, as_quoted, as_raw}
use Rattle.string.specs.declared.Opening.{Opening}
use Rattle.string.specs.declared.Opening.TheVariants as opening
use Rattle.string.proofs.Starts.{read_some}

-- ---- how it opens

opens_quoted : (k : Allowed) (r : List ℕ) → opening_at k (kind_letter k ++ (34 ∷ r)) ≡ opening.Quoted
unfolding opening_by
opens_quoted Text r = refl
opens_quoted Bytes r = refl
opens_quoted C r = refl

opens_raw : (k : Allowed) (r : List ℕ) → opening_at k (kind_letter k ++ (114 ∷ r)) ≡ opening.Raw
unfolding opening_by
opens_raw Text r = refl
opens_raw Bytes r = refl
opens_raw C r = refl

opened_length : (k : Allowed) (x : ℕ) (r : List ℕ) → length (kind_letter k ++ (x ∷ r)) ≡ offset_of k + length r
opened_length Text x r = omega arith
opened_length Bytes x r = omega arith
opened_length C x r = omega arith

after_opening : (k : Allowed) (x : ℕ) (r : List ℕ) → drop (offset_of k) (kind_letter k ++ (x ∷ r)) ≡ r
after_opening Text x r = refl
after_opening Bytes x r = refl
after_opening C x r = refl

-- ---- hashes

hashes_length : (h : ℕ) → length (hashes h) ≡ h
hashes_length zero = refl
hashes_length (suc h) = ap suc (hashes_length h)

hashes_all : (h : ℕ) → All (only 35) (hashes h)
unfolding only
hashes_all zero = tt
hashes_all (suc h) = (refl, hashes_all h)

hashes_run : (h : ℕ) (r : List ℕ) → run (only 35) (hashes h ++ (34 ∷ r)) ≡ h
unfolding only
hashes_run h r = run_is (only 35) (hashes h) (34 ∷ r) (hashes_all h) refl ∙ hashes_length h

after_hashes : (h : ℕ) (x : ℕ) (r : List ℕ) → drop (h + 1) (hashes h ++ (x ∷ r)) ≡ r
after_hashes h x r = rw hashes_length at (drop-append-add (hashes h) (x ∷ r) 1)

-- ---- what is read

module _ (k : Allowed) (s v : List ℕ) (e : ℕ) (vs : Values) where
  abbrev Complete : Type 0
  Complete = (string_read k s ≡ accepted (string_kind k) e vs) × (string_value k s ≡ v)

  -- a text that opens is read by its opening
  read_by_lem : (x : ℕ) (r : List ℕ) (o : Opening) → s ≡ kind_letter k ++ (x ∷ r) → opening_at k s ≡ o
      → read_by k o s ≡ accepted (string_kind k) e vs → value_by k o s ≡ v → Complete
  unfolding string_value
  read_by_lem x r o is opens read val =
      let some : length s ≡ 0 → ⊥ = λ z. omega (arith, ap length is, opened_length k x r, positive k) in
      (read_some k s some ∙ ap (λ (y : Opening). read_by k y s) opens ∙ read, ap (λ (y : Opening). value_by k y s) opens ∙ val)
    where
      positive : (k : Allowed) → 0 < offset_of k
      positive Text = omega arith
      positive Bytes = omega arith
      positive C = omega arith

  -- a body that closes, with a good suffix after it
  closed : (r : Rawness) (offset n : ℕ) (b : Body) (suf : List ℕ) → b ≡ record { at = n; value = v; end = close }
      → drop (offset + n + closing r) s ≡ suf → suffix_fault suf ≡ 0 → e ≡ offset + n + closing r → vs ≡ decoded (record { hashes = r; len = length v })
      → of_quote k (after_body s r offset b) ≡ accepted (string_kind k) e vs
  closed r offset n b suf is rest good end values =
      rw (is, ← suffix_good s r (offset + n + closing r) (length v) _ refl (ap suffix_fault rest ∙ good), end, values)

  quoted_complete : (content suf : List ℕ) → Aligned s → QuotedParts k s content v suf → e + length suf ≡ length s
      → vs ≡ decoded (record { hashes = not_raw; len = length v }) → Complete
  unfolding string_of
  quoted_complete content suf al parts end values =
      let o : ℕ = offset_of k in
      let r : List ℕ = content ++ (34 ∷ suf) in
      let d-is : drop o s ≡ r = rw parts.text (after_opening k 34 r) in
      let al' : Aligned r = subst Aligned d-is (aligned_rest (take o s) (drop o s) (rw take-append-drop al)) in
      let more : o + length content + 1 ≡ o + (length content + 1) = omega arith in
      let rest : drop (o + length content + 1) s ≡ suf = rw (more, ← drop-drop, d-is) (drop-append-add content (34 ∷ suf) 1) in
      let size : length s ≡ o + length r = ap length parts.text ∙ opened_length k 34 r in
      let b : body k (drop o s) ≡ record { at = length content; value = v; end = close } = rw d-is (pieces.complete k parts.pieces suf al') in
      read_by_lem 34 r opening.Quoted parts.text (rw parts.text (opens_quoted k r))
      (closed not_raw o (length content) (body k (drop o s)) suf b rest parts.suffix (omega (arith, length-append content (34 ∷ suf))) values)
      (ap (λ (x : Body). x.value) b)

  raw_complete : (suf : List ℕ) (h : ℕ) → RawParts k s v suf h → e + length suf ≡ length s → vs ≡ decoded (record { hashes = raw h; len = length v }) → Complete
  raw_complete suf h parts end values =
      let o : ℕ = offset_of k in
      let d : List ℕ = v ++ (34 ∷ (hashes h ++ suf)) in
      let r : List ℕ = hashes h ++ (34 ∷ d) in
      let d-is : drop o s ≡ r = rw parts.text (after_opening k 114 r) in
      let count : h ≡ hashes_at s o = rw d-is (sym (hashes_run h d)) in
      let one : o + h + 1 ≡ o + (h + 1) = omega arith in
      let body_is : drop (o + h + 1) s ≡ d = rw (one, ← drop-drop, d-is) (after_hashes h 34 d) in
      let quote : get_or s (o + h) 0 ≡ 34 = sym (get_or-drop o s h 0) ∙ rw d-is (get_or_at (hashes h) 34 d 0 h (hashes_length h)) in
      let size : length s ≡ o + length r = ap length parts.text ∙ opened_length k 114 r in
      let size-r : length r ≡ h + suc (length d) = length-append (hashes h) (34 ∷ d) ∙ rw hashes_length in
      let size-d : length d ≡ length v + suc (h + length suf) = length-append v (34 ∷ (hashes h ++ suf)) ∙ rw (length-append, hashes_length) in
      let b : raw_body k h (drop (o + h + 1) s) ≡ record { at = length v; value = v; end = close } =
      rw body_is ((raw_exact k h d (length v)).1 parts.bytes ∙ rw take-append_seam) in
      let more : o + h + 1 + length v + (h + 1) ≡ o + h + 1 + (length v + suc h) = omega arith in
      let rest : drop (o + h + 1 + length v + (h + 1)) s ≡ suf =
      rw (more, ← drop-drop, body_is, drop-append-add v (34 ∷ (hashes h ++ suf)) (suc h)) (drop_at (hashes h) suf h (hashes_length h)) in
      read_by_lem 114 r opening.Raw parts.text (rw parts.text (opens_raw k r))
      (ap (of_quote k) (sym (raw_is k o s h count (λ x. omega arith) parts.few quote))
      ∙ closed (raw h) (o + h + 1) (length v) (raw_body k h (drop (o + h + 1) s)) suf b rest parts.suffix (omega arith) values)
      (ap (λ (n : ℕ). (raw_body k n (drop (o + n + 1) s)).value) (sym count) ∙ ap (λ (x : Body). x.value) b)

-- THE LAW; an escape `\x41` before a byte 10xxxxxx is refused, so the text has to be aligned.
pub complete : (k : Allowed) (s v : List ℕ) {e : ℕ} {vs : Values} → Aligned s → Tiled k s v e vs
    → (string_read k s ≡ accepted (string_kind k) e vs) × (string_value k s ≡ v)
complete k s v {e} {vs} al (as_quoted content suf parts end values) = quoted_complete k s v e vs content suf al parts end values
complete k s v {e} {vs} al (as_raw suf h parts end values) = raw_complete k s v e vs suf h parts end values
