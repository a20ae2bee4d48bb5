-- The parts of a string literal, a byte string literal and a C string literal (01, Quoted kinds).
-- Assumes nothing.
use Rattle.std.specs.Prelude.{ℕ, zero, suc, ◌+◌, ◌≤◌, ◌≡◌, List, [], ◌∷◌, ◌++◌, length}
use Rattle.err.specs.Outcome.{Values, not_raw, raw, decoded}
use Rattle.escape.specs.declared.Allowed.{Allowed}
use Rattle.escape.specs.declared.Allowed.TheVariants.{Text, Bytes, C}
use Rattle.suffix.specs.Suffix.{suffix_fault}
use Rattle.body.specs.Pieces.{Content}
use Rattle.raw.specs.Content.{RawContent}

-- the kind's letter: none, `b`, `c`
-- 98 is `b`, 99 is `c`
abbrev pub kind_letter : Allowed → List ℕ
kind_letter Text = []
kind_letter Bytes = 98 ∷ []
kind_letter C = 99 ∷ []

-- h hashes
-- 35 is `#`
abbrev pub hashes : ℕ → List ℕ
hashes zero = []
hashes (suc h) = 35 ∷ hashes h

-- letter, quote, what stands between the quotes and its value v, quote, a good suffix
-- 34 is `"`
pub record QuotedParts (k : Allowed) (s content v suf : List ℕ) : Type 0 where
  pub text : s ≡ kind_letter k ++ (34 ∷ (content ++ (34 ∷ suf)))
  pub pieces : Content k content v
  pub suffix : suffix_fault suf ≡ 0

-- letter, `r`, at most 255 hashes, quote, the bytes v, which stand for themselves, the first quote that as many hashes follow, those
-- hashes, a good suffix
-- 114 is `r`, 34 is `"`
pub record RawParts (k : Allowed) (s v suf : List ℕ) (h : ℕ) : Type 0 where
  pub text : s ≡ kind_letter k ++ (114 ∷ (hashes h ++ (34 ∷ (v ++ (34 ∷ (hashes h ++ suf))))))
  pub few : h ≤ 255
  pub bytes : RawContent k h (v ++ (34 ∷ (hashes h ++ suf))) (length v)
  pub suffix : suffix_fault suf ≡ 0

-- a reading with the suffix at e and the values vs, and the decoded bytes v, are those of the parts that make up the text
pub data Tiled (k : Allowed) (s v : List ℕ) (e : ℕ) (vs : Values) : Type 0 where
  as_quoted : (content suf : List ℕ) → QuotedParts k s content v suf → e + length suf ≡ length s → vs ≡ decoded (record { hashes = not_raw; len = length v }) → Tiled k s v e vs
  as_raw : (suf : List ℕ) (h : ℕ) → RawParts k s v suf h → e + length suf ≡ length s → vs ≡ decoded (record { hashes = raw h; len = length v }) → Tiled k s v e vs
