-- An accepted string literal is made up of its parts: letter, opening, body, what closes it, and a good suffix.
-- Assumes nothing.
use mathlib.Core.Path.{◌≡◌, refl, ap, sym, ◌∙◌, subst}
use mathlib.Core.List.{List, [], ◌∷◌, ◌++◌}
use Prim.Native.Nat.{ℕ, zero, suc, ◌+◌, ◌-◌, ◌≤◌, ◌<◌}
use native.Mathlib.Omega.{arith}
use lib.ListN.{get_or-eq_default, length, get_or, take, drop, length-drop}
use lib.Seq.{length-take-le, split_at, drop-drop, drop-cons}
use Rattle.err.specs.Outcome.{Values, accepted, Rawness, not_raw, raw, decoded}
use Rattle.scan.specs.Run.{run}
use Rattle.scan.specs.Sets.{only}
use Rattle.scan.proofs.Cases.{cond_eq, cond_lt, by_lt}
use Rattle.scan.proofs.Runs.{run_le}
use Rattle.escape.specs.declared.Allowed.{Allowed}
use Rattle.escape.specs.declared.Allowed.TheVariants.{Text, Bytes, C}
use Rattle.suffix.specs.Suffix.{suffix_fault}
use Rattle.body.specs.Step.{End, close, refuse}
use Rattle.body.specs.Body.{Body, body}
use Rattle.body.specs.Quote.{Quote, closing, suffixed, after_end, string_of}
use Rattle.body_value.proofs.Sound as content
use Rattle.raw.specs.Raw.{raw_body, raw_from, raw_at, raw_of}
use Rattle.raw.specs.Content.{RawContent}
use Rattle.raw.proofs.Bodies.{raw_value}
use Rattle.raw.proofs.Contents.{raw_exact}
use Rattle.string.specs.String.{string_kind, offset_of, opening_by, opening_at, start_fault, of_quote, read_by, string_read}
use Rattle.string.specs.String.{hashes_at, value_by, string_value}
use Rattle.string.specs.Parts.{kind_letter, hashes, Tiled, as_quoted, as_raw}
use Rattle.string.specs.declared.Opening.{Opening}
use Rattle.string.specs.declared.Opening.TheVariants as opening
use Rattle.string.proofs.Literals.{opening_inside}

-- ---- how it opens

-- a text by its opening: some bytes, then `"` or `r`
abbrev Opens : List ℕ → ℕ → List ℕ → Opening → Type 0
Opens front n s opening.Quoted = s ≡ front ++ (34 ∷ drop n s)
Opens front n s opening.Raw = s ≡ front ++ (114 ∷ drop n s)
Opens front n s opening.Neither = Unit {0}

-- without a letter
opens_by : (s : List ℕ) → Opens [] 1 s (opening_by (get_or s 0 0))
unfolding opening_by
opens_by [] = tt
opens_by (b ∷ s) =
    let P : Opening → Type 0 = Opens [] 1 (b ∷ s) in
    cond_eq P b 34 (λ e. rw e) λ e. cond_eq P b 114 (λ f. rw f) (λ f. tt)

-- and after a letter
opens_after : (x : ℕ) (s : List ℕ) (o : Opening) → Opens [] 1 s o → Opens (x ∷ []) 2 (x ∷ s) o
opens_after x s opening.Quoted e = ap (λ (l : List ℕ). x ∷ l) e
opens_after x s opening.Raw e = ap (λ (l : List ℕ). x ∷ l) e
opens_after x s opening.Neither e = tt

opens : (k : Allowed) (s : List ℕ) → Opens (kind_letter k) (offset_of k) s (opening_at k s)
unfolding opening_by
opens Text s = opens_by s
opens Bytes [] = tt
opens Bytes (b ∷ s) =
    cond_eq (Opens (98 ∷ []) 2 (b ∷ s)) b 98 (λ e. rw e (opens_after 98 s (opening_by (get_or s 0 0)) (opens_by s))) (λ e. tt)
opens C [] = tt
opens C (b ∷ s) =
    cond_eq (Opens (99 ∷ []) 2 (b ∷ s)) b 99 (λ e. rw e (opens_after 99 s (opening_by (get_or s 0 0)) (opens_by s))) (λ e. tt)

-- ---- what is read after the body

-- of an accepted literal whose body ends at an offset
record Ended (k : Allowed) (s : List ℕ) (r : Rawness) (at len : ℕ) (why : End) (kind e : ℕ) (vs : Values) : Type 0 where
  closes : why ≡ close
  is_kind : kind ≡ string_kind k
  start : e ≡ at + closing r
  values : vs ≡ decoded (record { hashes = r; len = len })
  suffix : suffix_fault (drop (at + closing r) s) ≡ 0

quote_there : (l : List ℕ) (at : ℕ) → get_or l at 0 ≡ 34 → at < length l
quote_there l at e = by_lt at (length l) (λ h. h) (λ h. absurd (omega (arith, get_or-eq_default l 0 h)))

-- h hashes that a list begins with
hashes_first : (h : ℕ) (l : List ℕ) → h ≤ run (only 35) l → l ≡ hashes h ++ drop h l
unfolding only
hashes_first zero l g = refl
hashes_first (suc h) [] g = absurd (omega arith)
hashes_first (suc h) (b ∷ l) g =
    cond_eq (λ (n : ℕ). suc h ≤ n → b ∷ l ≡ 35 ∷ (hashes h ++ drop h l)) b 35
    (λ e g. ap (λ (x : ℕ). x ∷ l) e ∙ ap (λ (x : List ℕ). 35 ∷ x) (hashes_first h l (omega arith)))
    (λ e g. absurd (omega arith)) g

module _ (k : Allowed) (s : List ℕ) (kind e : ℕ) (vs : Values) where
  -- whatever the body, after it stands what closes it and a good suffix
  ended : (r : Rawness) (at len : ℕ) (why : End) → of_quote k (after_end s r at len why) ≡ accepted kind e vs → Ended k s r at len why kind e vs
  unfolding suffixed
  ended r at len (refuse n p) g = absurd (let z : ◌≡◌ {A = ℕ} 0 1 = cc in omega arith)
  ended r at len close g =
      cond_eq (λ (q : Quote). of_quote k q ≡ accepted kind e vs → Ended k s r at len close kind e vs) (suffix_fault (drop (at + closing r) s)) 0
      (λ f g. record { closes = refl; is_kind = cc; start = cc; values = cc; suffix = f })
      (λ f g. absurd (let z : ◌≡◌ {A = ℕ} 0 1 = cc in omega arith)) g

  abbrev Sound : List ℕ → Type 0
  Sound v = (kind ≡ string_kind k) × Tiled k s v e vs

  -- ---- quoted

  quoted_sound : s ≡ kind_letter k ++ (34 ∷ drop (offset_of k) s) → offset_of k ≤ length s
      → of_quote k (string_of k (offset_of k) s) ≡ accepted kind e vs → Sound (value_by k opening.Quoted s)
  unfolding string_of
  quoted_sound is inside g =
      let o : ℕ = offset_of k in
      let d : List ℕ = drop o s in
      let b : Body = body k d in
      let t = ended not_raw (o + b.at) (length b.value) b.end g in
      let c = content.sound k d t.closes in
      let room : b.at < length d = quote_there d b.at c.1 in
      let suf : List ℕ = drop (suc b.at) d in
      let split : d ≡ take b.at d ++ (34 ∷ suf) = rw c.1 at (split_at d b.at 0 room) in
      let more : o + b.at + 1 ≡ o + suc b.at = omega arith in
      let same : drop (o + b.at + 1) s ≡ suf = rw more (sym (drop-drop (suc b.at) o s)) in (
        t.is_kind,
        as_quoted (take b.at d) suf
            (record { text = is ∙ ap (λ (l : List ℕ). kind_letter k ++ (34 ∷ l)) split; pieces = c.0; suffix = ap suffix_fault (sym same) ∙ t.suffix })
            (omega (arith, t.start, length-drop o s, length-drop (suc b.at) d)) t.values,
      )

  -- ---- raw

  raw_ended : (h : ℕ) → h ≡ hashes_at s (offset_of k) → s ≡ kind_letter k ++ (114 ∷ drop (offset_of k) s) → offset_of k + h + 1 ≤ length s
      → h ≤ 255 → get_or s (offset_of k + h) 0 ≡ 34 → let b = raw_body k h (drop (offset_of k + h + 1) s) in
      of_quote k (after_end s (raw h) (offset_of k + h + 1 + b.at) (length b.value) b.end) ≡ accepted kind e vs → Sound b.value
  raw_ended h count is inside few quote g =
      let o : ℕ = offset_of k in
      let d : List ℕ = drop (o + h + 1) s in
      let b : Body = raw_body k h d in
      let v : List ℕ = b.value in
      let t = ended (raw h) (o + h + 1 + b.at) (length v) b.end g in
      let slice : v ≡ take b.at d = raw_value k h d in
      let read : b ≡ record { at = b.at; value = take b.at d; end = close } = rw (← slice, ← t.closes) in
      let c : RawContent k h d b.at = (raw_exact k h d b.at).0 read in
      let room : b.at < length d = quote_there d b.at c.closes.0 in
      let count-v : length v ≡ b.at = rw slice (length-take-le b.at d (omega arith)) in
      let rest : List ℕ = drop (suc b.at) d in
      let suf : List ℕ = drop h rest in
      let past : rest ≡ hashes h ++ suf = hashes_first h rest c.closes.1 in
      let split : d ≡ take b.at d ++ (34 ∷ rest) = rw c.closes.0 at (split_at d b.at 0 room) in
      let whole : d ≡ v ++ (34 ∷ (hashes h ++ suf)) =
      split ∙ ap (λ (l : List ℕ). l ++ (34 ∷ rest)) (sym slice) ∙ ap (λ (l : List ℕ). v ++ (34 ∷ l)) past in
      let one : suc (o + h) ≡ o + h + 1 = omega arith in
      let at_quote : drop h (drop o s) ≡ 34 ∷ d = rw (drop-drop, drop-cons s (o + h) 0 (omega arith), quote, one) in
      let front : drop o s ≡ hashes h ++ (34 ∷ d) = hashes_first h (drop o s) (omega arith) ∙ ap (λ (l : List ℕ). hashes h ++ l) at_quote in
      let sizes : (length d ≡ length s - (o + h + 1)) × (length rest ≡ length d - suc b.at) × (length suf ≡ length rest - h) =
      (length-drop (o + h + 1) s, length-drop (suc b.at) d, length-drop h rest) in
      let more : o + h + 1 + b.at + (h + 1) ≡ o + h + 1 + (suc b.at + h) = omega arith in
      let same : drop (o + h + 1 + b.at + (h + 1)) s ≡ suf =
      rw more (sym (drop-drop (suc b.at + h) (o + h + 1) s) ∙ sym (drop-drop h (suc b.at) d)) in (
        t.is_kind,
        as_raw suf h
            (record {
              text = is ∙ ap (λ (l : List ℕ). kind_letter k ++ (114 ∷ l)) (front ∙ ap (λ (l : List ℕ). hashes h ++ (34 ∷ l)) whole);
              few = few;
              bytes = subst (λ (x : List ℕ). RawContent k h x (length v)) whole (rw count-v c);
              suffix = ap suffix_fault (sym same) ∙ t.suffix;
            })
            (omega (arith, t.start, c.closes.1, run_le (only 35) rest)) t.values,
      )

  raw_sound : s ≡ kind_letter k ++ (114 ∷ drop (offset_of k) s) → offset_of k ≤ length s
      → of_quote k (raw_of k (offset_of k) s) ≡ accepted kind e vs → Sound (value_by k opening.Raw s)
  unfolding raw_of raw_at raw_from
  raw_sound is inside =
      let h : ℕ = hashes_at s (offset_of k) in
      let b : Body = raw_body k h (drop (offset_of k + h + 1) s) in
      let P : Quote → Type 0 = λ q. of_quote k q ≡ accepted kind e vs → Sound b.value in
      let fits : offset_of k + h ≤ length s = omega (arith, run_le (only 35) (drop (offset_of k) s), length-drop (offset_of k) s) in
      cond_eq P (offset_of k + h) (length s) (λ f g. absurd (let z : ◌≡◌ {A = ℕ} 0 1 = cc in omega arith)) λ f.
      cond_lt P 255 h (λ f g. absurd (let z : ◌≡◌ {A = ℕ} 0 1 = cc in omega arith)) λ few.
      cond_eq P (get_or s (offset_of k + h) 0) 34 (raw_ended h refl is (omega arith) few)
      (λ q g. absurd (let z : ◌≡◌ {A = ℕ} 0 1 = cc in omega arith))

  no_start : (k : Allowed) → start_fault k ≡ accepted kind e vs → ⊥
  no_start Text g = let z : ◌≡◌ {A = ℕ} 0 1 = cc in omega arith
  no_start Bytes g = let z : ◌≡◌ {A = ℕ} 0 1 = cc in omega arith
  no_start C g = let z : ◌≡◌ {A = ℕ} 0 1 = cc in omega arith

  by_opening : (o : Opening) → Opens (kind_letter k) (offset_of k) s o → ((o ≡ opening.Neither → ⊥) → offset_of k ≤ length s)
      → read_by k o s ≡ accepted kind e vs → Sound (value_by k o s)
  by_opening opening.Quoted is l g = quoted_sound is (l (λ x. let z : ◌≡◌ {A = ℕ} 0 1 = cc in omega arith)) g
  by_opening opening.Raw is l g = raw_sound is (l (λ x. let z : ◌≡◌ {A = ℕ} 0 1 = cc in omega arith)) g
  by_opening opening.Neither is l g = absurd (no_start k g)

-- THE LAW: what is accepted is made up of its parts, for every byte list.
pub sound : (k : Allowed) (s : List ℕ) {kind e : ℕ} {vs : Values} → string_read k s ≡ accepted kind e vs
    → (kind ≡ string_kind k) × Tiled k s (string_value k s) e vs
unfolding string_read string_value
sound k [] g = absurd (let z : ◌≡◌ {A = ℕ} 0 1 = cc in omega arith)
sound k (b ∷ s) {kind} {e} {vs} g = by_opening k (b ∷ s) kind e vs (opening_at k (b ∷ s)) (opens k (b ∷ s)) (opening_inside k (b ∷ s)) g
