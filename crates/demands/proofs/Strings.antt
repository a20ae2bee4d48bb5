-- Strings, byte strings and C strings: what is read is a literal of the Reference with its decoded bytes, and each such literal is read.
-- Assumes nothing.
use Prim.Native.Nat.{ℕ, ◌-◌, ◌≤◌}
use mathlib.Core.Path.{◌≡◌, refl, sym, ap, ◌∙◌, subst}
use mathlib.Core.Logic.{◌⊎◌, inl, inr}
use mathlib.Core.List.{List, [], ◌∷◌, ◌++◌, append_assoc}
use native.Mathlib.Omega.{arith}
use lib.ListN.{length}
use Rattle.err.specs.Outcome.{Values, accepted, Rawness, not_raw, raw, decoded}
use Rattle.buffer.specs.Buffer.{over}
use Rattle.utf8.specs.Utf8.{Utf8}
use Rattle.utf8.proofs.Aligned.{aligned}
use Rattle.escape.specs.declared.Allowed.{Allowed}
use Rattle.escape.specs.declared.Allowed.TheVariants.{Text, Bytes, C}
use Rattle.raw.specs.Content.{RawContent}
use Rattle.string.specs.String.{string_kind, string_read, string_value}
use Rattle.string.specs.Decode.{written}
use Rattle.string.specs.Parts.{kind_letter, hashes, QuotedParts, RawParts, Tiled, as_quoted, as_raw}
use Rattle.string.proofs.Sound.{sound}
use Rattle.string.proofs.Complete.{complete}
use Rattle.string.proofs.Decodes.{decode_written}
use Rattle.text_check.proofs.Checks.{no_fault}
use Rattle.literal.specs.Decodes.{checked_decode, checked_buffer, decode_at, decode_buffer}
use Rattle.grammar.specs.Notation.{times}
use Rattle.grammar.specs.Quoted.{Quoted, Raw, closing, STRING_LITERAL, RAW_STRING_LITERAL, BYTE_STRING_LITERAL, RAW_BYTE_STRING_LITERAL, C_STRING_LITERAL, RAW_C_STRING_LITERAL}
use Rattle.grammar.specs.Meaning.{Worth, Means, is_string, is_raw_string, is_byte_string, is_raw_byte_string, is_c_string, is_raw_c_string}
use Rattle.grammar.specs.Meaning as worth
use Rattle.demands.specs.Demand1.{Readable}
use Rattle.demands.specs.Demand2.{Gives, GivesBytes}
use Rattle.demands.proofs.DecodeCall.{coded}
use Rattle.demands.proofs.Found.{Found}
use Rattle.demands.proofs.Suffixes.{suffix_is}
use Rattle.demands.proofs.Characters.{Ends, past, rest_is, start_is}
use Rattle.demands.proofs.Contents.{PIECE, RAW, pieces_of, content_of, hashes_same, raw_of, of_raw}

-- the literals of a kind
abbrev QUOTED : Allowed → List ℕ → List ℕ → List ℕ → Type 0
QUOTED k = Quoted (PIECE k) (kind_letter k ++ (34 ∷ []))

abbrev RAWS : Allowed → List ℕ → List ℕ → List ℕ → Type 0
RAWS k = Raw (RAW k) (kind_letter k ++ (114 ∷ []))

-- ---- the parts

quoted_text : (k : Allowed) (c x : List ℕ) → kind_letter k ++ (34 ∷ (c ++ (34 ∷ x))) ≡ (kind_letter k ++ (34 ∷ [])) ++ (c ++ (34 ∷ x))
quoted_text k c x = sym (append_assoc (kind_letter k) (34 ∷ []) (c ++ (34 ∷ x)))

raw_text : (k : Allowed) (h : ℕ) (v x : List ℕ)
    → kind_letter k ++ (114 ∷ (hashes h ++ (34 ∷ (v ++ (34 ∷ (hashes h ++ x))))))
    ≡ (kind_letter k ++ (114 ∷ [])) ++ (times h 35 ++ (34 ∷ (v ++ closing h x)))
raw_text k h v x = rw (← hashes_same h) (sym (append_assoc (kind_letter k) (114 ∷ []) (hashes h ++ (34 ∷ (v ++ (34 ∷ (hashes h ++ x)))))))

-- a raw body with hashes by either name
same_body : (h : ℕ) (v x : List ℕ) → v ++ (34 ∷ (hashes h ++ x)) ≡ v ++ closing h x
same_body h v x = ap (λ (l : List ℕ). v ++ (34 ∷ (l ++ x))) (hashes_same h)

module _ (k : Allowed) {s v x : List ℕ} where
  quoted_to : {c : List ℕ} → QuotedParts k s c v x → QUOTED k s v x
  quoted_to {c} p =
      record { content = c; is = p.text ∙ quoted_text k c x; inner = pieces_of k p.pieces; ending = (suffix_is x).0 p.suffix }

  quoted_from : (l : QUOTED k s v x) → QuotedParts k s l.content v x
  quoted_from l =
      record { text = l.is ∙ sym (quoted_text k l.content x); pieces = content_of k l.inner; suffix = (suffix_is x).1 l.ending }

  raw_literal : {h : ℕ} → RawParts k s v x h → RAWS k s v x
  raw_literal {h} p =
      let b = raw_of k h v x (subst (λ (l : List ℕ). RawContent k h l (length v)) (same_body h v x) p.bytes) in
      record {
        hashes = h;
        few = omega (arith, p.few);
        is = p.text ∙ raw_text k h v x;
        chars = b.0;
        first = b.1;
        ending = (suffix_is x).0 p.suffix;
      }

  raw_parts : (l : RAWS k s v x) → RawParts k s v x l.hashes
  raw_parts l =
      let h : ℕ = l.hashes in
      record {
        text = l.is ∙ sym (raw_text k h v x);
        few = omega (arith, l.few);
        bytes = subst (λ (l : List ℕ). RawContent k h l (length v)) (sym (same_body h v x)) (of_raw k h v x l.chars l.first);
        suffix = (suffix_is x).1 l.ending;
      }

  -- the suffix stands at the end
  quoted_ends : {c : List ℕ} → QuotedParts k s c v x → Ends x s
  quoted_ends {c} p =
      let t = past (kind_letter k) (past (34 ∷ c) {x = x} {r = 34 ∷ x} (34 ∷ [], refl)) in
      (t.0, p.text ∙ t.1)

  raw_ends : {h : ℕ} → RawParts k s v x h → Ends x s
  raw_ends {h} p =
      let t = past (kind_letter k) (past (114 ∷ hashes h) (past (34 ∷ v) {x = x} {r = 34 ∷ (hashes h ++ x)} (34 ∷ hashes h, refl))) in
      (t.0, p.text ∙ t.1)

-- ---- what decoding gives

module _ (k : Allowed) (s : List ℕ) {kind e : ℕ} {vs : Values} (f : Readable s) (g : string_read k s ≡ accepted kind e vs) where
  counted : (buf : List ℕ) → length (string_value k s) ≤ length buf → decode_at (string_kind k) s (length buf) ≡ written (length (string_value k s))
  unfolding decode_at checked_decode
  counted buf room = rw (coded k, no_fault s f.short f.utf8) (sym (decode_written k s buf (sym g) room).0)

  left : (buf : List ℕ) → length (string_value k s) ≤ length buf → decode_buffer (string_kind k) s buf ≡ over (string_value k s) buf
  unfolding decode_buffer checked_buffer
  left buf room = rw (coded k, no_fault s f.short f.utf8) (sym (decode_written k s buf (sym g) room).1)

-- ---- what is read is a literal

abbrev worth_of : Allowed → List ℕ → Worth
worth_of Text v = worth.string v
worth_of Bytes v = worth.byte_string v
worth_of C v = worth.c_string v

worth_kind : (k : Allowed) (v : List ℕ) → string_kind k ≡ worth.kind_of (worth_of k v)
worth_kind Text v = refl
worth_kind Bytes v = refl
worth_kind C v = refl

worth_gives : (k : Allowed) (s : List ℕ) (vs : Values) (v : List ℕ) → GivesBytes (string_kind k) s vs v → Gives s vs (worth_of k v)
worth_gives Text s vs v g = g
worth_gives Bytes s vs v g = g
worth_gives C s vs v g = g

quoted_means : (k : Allowed) (s v x : List ℕ) → QUOTED k s v x → Means s (worth_of k v) x
quoted_means Text s v x l = is_string v l refl
quoted_means Bytes s v x l = is_byte_string v l refl
quoted_means C s v x l = is_c_string v l refl

raw_means : (k : Allowed) (s v x : List ℕ) → RAWS k s v x → Means s (worth_of k v) x
raw_means Text s v x l = is_raw_string v l refl
raw_means Bytes s v x l = is_raw_byte_string v l refl
raw_means C s v x l = is_raw_c_string v l refl

pub string_found : (k : Allowed) (s : List ℕ) {kind e : ℕ} {vs : Values} → Readable s → string_read k s ≡ accepted kind e vs → Found s kind e vs
string_found k s {kind} {e} {vs} f g =
    let r = sound k s g in
    go (string_value k s) r.0 (λ h is. record { marks = record { hashes = h; len = length (string_value k s) }; values = is; len = refl; count = counted k s f g; bytes = left k s f g }) r.1
  where
    go : (v : List ℕ) → kind ≡ string_kind k → ((h : Rawness) → vs ≡ decoded (record { hashes = h; len = length v }) → GivesBytes (string_kind k) s vs v) → Tiled k s v e vs
        → Found s kind e vs
    go v same gives (as_quoted c x p end is) =
        record {
          worth = worth_of k v;
          suffix = x;
          means = quoted_means k s v x (quoted_to k p);
          kind = same ∙ worth_kind k v;
          rest = rest_is e (quoted_ends k p) end;
          gives = worth_gives k s vs v (gives not_raw is);
        }
    go v same gives (as_raw x h p end is) =
        record {
          worth = worth_of k v;
          suffix = x;
          means = raw_means k s v x (raw_literal k p);
          kind = same ∙ worth_kind k v;
          rest = rest_is e (raw_ends k p) end;
          gives = worth_gives k s vs v (gives (raw h) is);
        }

-- ---- each literal is read

module _ (k : Allowed) (s : List ℕ) {v x : List ℕ} (u : Utf8 s) where
  quoted_read : QUOTED k s v x → (e : ℕ) × (vs : Values) × (string_read k s ≡ accepted (string_kind k) e vs)
  quoted_read l =
      let p = quoted_from k l in (
        length s - length x,
        decoded (record { hashes = not_raw; len = length v }),
        (complete k s v (aligned s u) (as_quoted l.content x p (start_is (quoted_ends k p)) refl)).0,
      )

  raw_read : RAWS k s v x → (e : ℕ) × (vs : Values) × (string_read k s ≡ accepted (string_kind k) e vs)
  raw_read l =
      let p = raw_parts k l in (
        length s - length x,
        decoded (record { hashes = raw l.hashes; len = length v }),
        (complete k s v (aligned s u) (as_raw x l.hashes p (start_is (raw_ends k p)) refl)).0,
      )

-- a literal of a kind, with escapes or raw
abbrev pub LITERAL : Allowed → List ℕ → List ℕ → List ℕ → Type 0
LITERAL Text s v x = STRING_LITERAL s v x ⊎ RAW_STRING_LITERAL s v x
LITERAL Bytes s v x = BYTE_STRING_LITERAL s v x ⊎ RAW_BYTE_STRING_LITERAL s v x
LITERAL C s v x = C_STRING_LITERAL s v x ⊎ RAW_C_STRING_LITERAL s v x

pub string_read_lem : (k : Allowed) (s v x : List ℕ) → Utf8 s → LITERAL k s v x → (e : ℕ) × (vs : Values) × (string_read k s ≡ accepted (string_kind k) e vs)
string_read_lem Text s v x u (inl l) = quoted_read Text s u l
string_read_lem Text s v x u (inr l) = raw_read Text s u l
string_read_lem Bytes s v x u (inl l) = quoted_read Bytes s u l
string_read_lem Bytes s v x u (inr l) = raw_read Bytes s u l
string_read_lem C s v x u (inl l) = quoted_read C s u l
string_read_lem C s v x u (inr l) = raw_read C s u l
