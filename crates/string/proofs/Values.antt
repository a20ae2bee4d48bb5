-- What the parts say of the value, and of the byte before the suffix.
-- Assumes nothing.
use mathlib.Core.Path.{◌≡◌, refl, ap, ◌∙◌}
use mathlib.Core.List.{List, [], ◌∷◌, ◌++◌, append_assoc}
use Prim.Native.Nat.{ℕ, zero, suc, ◌+◌, ◌-◌, ◌≤◌, ◌<◌}
use native.Mathlib.Omega.{arith}
use lib.ListN.{length, get_or, length-append}
use lib.Seq.{get_or_at}
use Rattle.err.specs.Outcome.{Values, accepted}
use Rattle.scan.specs.Run.{All}
use Rattle.scan.specs.Sets.{except}
use Rattle.utf8.specs.Utf8.{Utf8}
use Rattle.escape.specs.declared.Allowed.{Allowed}
use Rattle.escape.specs.declared.Allowed.TheVariants.{Text, C}
use Rattle.body_value.proofs.Contents.{content_no_zero, cut_at_ascii, content_utf8}
use Rattle.raw.proofs.Contents.{raw_no_zero}
use Rattle.string.specs.String.{string_read, string_value}
use Rattle.string.specs.Parts.{kind_letter, hashes, Tiled, as_quoted, as_raw}
use Rattle.string.proofs.Literals.{QuotedLit, RawLit, read_is}
use Rattle.string.proofs.Sound.{sound}

-- ---- the byte before the suffix

-- a list is some bytes, an ASCII byte, and the suffix
abbrev Ascii : List ℕ → List ℕ → Type 0
Ascii suf s = (p : List ℕ) × (y : ℕ) × (s ≡ p ++ (y ∷ suf)) × (y < 128)

-- hashes after an ASCII byte
hashed : (h y : ℕ) (suf : List ℕ) → y < 128 → Ascii suf (y ∷ (hashes h ++ suf))
hashed zero y suf l = ([], y, refl, l)
hashed (suc h) y suf l = let a = hashed h 35 suf (omega arith) in (y ∷ a.0, a.1, ap (λ (x : List ℕ). y ∷ x) a.2, a.3)

-- more bytes before it
past : (q r suf : List ℕ) → Ascii suf r → Ascii suf (q ++ r)
past q r suf (p, y, e, l) = (q ++ p, y, rw e (rw append_assoc), l)

-- the suffix starts at e, and the byte before it is that one
ends_at : (s suf : List ℕ) (e : ℕ) → Ascii suf s → e + length suf ≡ length s → (1 ≤ e) × (e ≤ length s) × (get_or s (e - 1) 0 < 128)
ends_at s suf e (p, y, is, l) h =
    let size = ap length is ∙ length-append p (y ∷ suf) in
    (omega arith, omega arith, rw is (rw (get_or_at p y suf 0 (e - 1) (omega arith)) l))

-- a quote or a hash stands before the suffix
pub ends_ascii : (k : Allowed) (s v : List ℕ) {e : ℕ} {vs : Values} → Tiled k s v e vs → (1 ≤ e) × (e ≤ length s) × (get_or s (e - 1) 0 < 128)
ends_ascii k s v {e} (as_quoted content suf parts end values) =
    ends_at s suf e (rw parts.text (past (kind_letter k) _ suf (past (34 ∷ content) (34 ∷ suf) suf ([], 34, refl, omega arith)))) end
ends_ascii k s v {e} (as_raw suf h parts end values) =
    ends_at s suf e (rw parts.text
    (past (kind_letter k) _ suf (past (114 ∷ hashes h) _ suf (past (34 ∷ v) _ suf (hashed h 34 suf (omega arith)))))) end

-- ---- the value

-- it is no longer than its text
pub value_short : (k : Allowed) (s : List ℕ) {kind e : ℕ} {vs : Values} → string_read k s ≡ accepted kind e vs → length (string_value k s) ≤ length s
value_short k s {kind} {e} {vs} g = go (sound k s g).1
  where
    v : List ℕ
    v = string_value k s

    go : Tiled k s v e vs → length v ≤ length s
    go (as_quoted content suf parts end values) = let l : QuotedLit k s v (length v) e = read_is k s (rw values at g) in omega (arith, l.inside)
    go (as_raw suf h parts end values) = let l : RawLit k s v h (length v) = read_is k s (rw values at g) in omega (arith, l.inside)

-- 01: a C string has no NUL
pub value_no_zero : (s : List ℕ) {kind e : ℕ} {vs : Values} → string_read C s ≡ accepted kind e vs → All (except 0) (string_value C s)
value_no_zero s g = go (string_value C s) (sound C s g).1
  where
    go : (v : List ℕ) {e : ℕ} {vs : Values} → Tiled C s v e vs → All (except 0) v
    go v (as_quoted content suf parts end values) = content_no_zero C refl parts.pieces
    go v (as_raw suf h parts end values) = raw_no_zero C refl v _ parts.bytes

-- the value of a string in a UTF-8 text is UTF-8
pub value_utf8 : (s : List ℕ) {kind e : ℕ} {vs : Values} → Utf8 s → string_read Text s ≡ accepted kind e vs → Utf8 (string_value Text s)
value_utf8 s u g = go (string_value Text s) (sound Text s g).1
  where
    go : (v : List ℕ) {e : ℕ} {vs : Values} → Tiled Text s v e vs → Utf8 v
    go v (as_quoted content suf parts end values) =
        let d = (cut_at_ascii [] 34 (content ++ (34 ∷ suf)) (omega arith) (rw parts.text at u)).1 in
        content_utf8 Text refl parts.pieces [] suf d
    go v (as_raw suf h parts end values) =
        let r : List ℕ = 34 ∷ (hashes h ++ suf) in
        let d = (cut_at_ascii (114 ∷ hashes h) 34 (v ++ r) (omega arith) (rw parts.text at u)).1 in
        (cut_at_ascii v 34 (hashes h ++ suf) (omega arith) d).0
