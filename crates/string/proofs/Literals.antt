-- What an accepted literal's hashes and value length say of its text and its value.
-- Assumes nothing.
use mathlib.Core.Path.{◌≡◌, refl, sym, subst}
use mathlib.Core.List.{List, [], ◌∷◌}
use Prim.Native.Nat.{ℕ, zero, suc, ◌+◌, ◌-◌, ◌≤◌}
use native.Mathlib.Nat.{add-sub_cancel_left}
use native.Mathlib.Omega.{arith}
use lib.Dec.{eqb}
use lib.ListN.{length, get_or, take, drop, length-take, length-drop}
use Rattle.std.specs.Prelude.{Option, Some, None, Ok}
use Rattle.err.specs.Outcome.{Place, Outcome, refused, accepted, Rawness, not_raw, raw, truth, digits, ends, value, decoded}
use Rattle.err.specs.Reading.{hashes_of}
use Rattle.err.specs.declared.StringLit.{StringLit}
use Rattle.scan.specs.Sets.{only}
use Rattle.scan.proofs.Cases.{cond_in, cond_eq, cond_lt}
use Rattle.scan.proofs.Runs.{run_le}
use Rattle.escape.specs.declared.Allowed.{Allowed}
use Rattle.escape.specs.declared.Allowed.TheVariants.{Text, Bytes, C}
use Rattle.body.specs.Step.{End, close, refuse, step_of}
use Rattle.body.specs.Body.{Body, body}
use Rattle.body.specs.Quote.{Quote, closing, after_end, string_of}
use Rattle.body.specs.Quote as quote
use Rattle.body.proofs.Within.{step_in}
use Rattle.body.proofs.Bodies as bodies
use Rattle.body.proofs.Strings.{suffix_good, suffix_bad}
use Rattle.body_value.proofs.Values.{as_it_stands}
use Rattle.raw.specs.Raw.{raw_step_of, raw_body, raw_from, raw_at, raw_of}
use Rattle.raw.proofs.Steps.{raw_in}
use Rattle.raw.proofs.Bodies.{raw_value}
use Rattle.string.specs.String.{offset_of, opening_by, opening_at, start_fault, of_quote, parsed_of, read_by, string_read, hashes_at, value_by, string_value}
use Rattle.string.specs.Inner.{inner_by, inner_of}
use Rattle.string.specs.declared.Inner.{Inner}
use Rattle.string.specs.declared.Inner.TheVariants.{AsItIs, Escaped}
use Rattle.string.specs.declared.Opening.{Opening}
use Rattle.string.specs.declared.Opening.TheVariants as opening

-- of a quoted literal of the text s, whose value v has n bytes and whose suffix starts at e: a body of n bytes too is the value
pub record QuotedLit (k : Allowed) (s v : List ℕ) (n e : ℕ) : Type 0 where
  pub inside : offset_of k + n ≤ length s
  pub value : v ≡ (body k (drop (offset_of k) s)).value
  pub count : n ≡ length v
  pub as_is : offset_of k + n + 1 ≡ e → v ≡ take n (drop (offset_of k) s)

-- of a raw one with h hashes: its value is the slice after them and the quote
pub record RawLit (k : Allowed) (s v : List ℕ) (h n : ℕ) : Type 0 where
  pub inside : offset_of k + h + 1 + n ≤ length s
  pub hashes : h ≡ hashes_at s (offset_of k)
  pub value : v ≡ take n (drop (offset_of k + h + 1) s)
  pub count : n ≡ length v

abbrev pub Literal : Allowed → List ℕ → List ℕ → Rawness → ℕ → ℕ → Type 0
Literal k s v not_raw n e = QuotedLit k s v n e
Literal k s v (raw h) n e = RawLit k s v h n

-- what holds of an accepted outcome
abbrev pub Accepts : (Rawness → ℕ → ℕ → Type 0) → Outcome → Type 0
Accepts P (accepted kind e (decoded v)) = P v.hashes v.len e
Accepts P (accepted kind e (truth b)) = Unit {0}
Accepts P (accepted kind e (digits d)) = Unit {0}
Accepts P (accepted kind e (ends z)) = Unit {0}
Accepts P (accepted kind e (value n)) = Unit {0}
Accepts P (refused n p) = Unit {0}

-- ---- how it opens

pub opening_inside : (k : Allowed) (s : List ℕ) → (opening_at k s ≡ opening.Neither → ⊥) → offset_of k ≤ length s
unfolding opening_by
opening_inside Text [] h = absurd (h refl)
opening_inside Text (b ∷ s) h = omega arith
opening_inside Bytes [] h = absurd (h refl)
opening_inside Bytes (b ∷ []) h = absurd (h (cond_in (λ o. o ≡ opening.Neither) (eqb b 98) (λ e. refl) (λ e. refl)))
opening_inside Bytes (b ∷ a ∷ s) h = omega arith
opening_inside C [] h = absurd (h refl)
opening_inside C (b ∷ []) h = absurd (h (cond_in (λ o. o ≡ opening.Neither) (eqb b 99) (λ e. refl) (λ e. refl)))
opening_inside C (b ∷ a ∷ s) h = omega arith

pub offset_short : (k : Allowed) → offset_of k ≤ 2
offset_short Text = omega arith
offset_short Bytes = omega arith
offset_short C = omega arith

-- ---- what is read of a body

no_start : (k : Allowed) (P : Rawness → ℕ → ℕ → Type 0) → Accepts P (start_fault k)
no_start Text P = tt
no_start Bytes P = tt
no_start C P = tt

module _ (k : Allowed) (s : List ℕ) where
  -- whatever the suffix, an accepted literal has its body's hashes and length, and its suffix starts after what closes it
  after_end_lem : (P : Rawness → ℕ → ℕ → Type 0) (r : Rawness) (at n : ℕ) (e : End) → P r n (at + closing r)
      → Accepts P (of_quote k (after_end s r at n e))
  after_end_lem P r at n (refuse num p) h = tt
  after_end_lem P r at n close h = go _ (suffix_good s r (at + closing r) n _ refl) (suffix_bad s r (at + closing r) n _ refl)
    where
      go : (f : ℕ) {x : Place} {q : Quote} → (f ≡ 0 → quote.quoted r (at + closing r) n ≡ q) → ((f ≡ 0 → ⊥) → quote.refused f x ≡ q)
          → Accepts P (of_quote k q)
      go zero good bad = rw (← good refl) h
      go (suc f) good bad = rw (← bad (λ e. omega arith)) tt

  quoted_is : offset_of k ≤ length s
      → let b = body k (drop (offset_of k) s) in QuotedLit k s b.value (length b.value) (offset_of k + b.at + 1)
  quoted_is inside =
      let d : List ℕ = drop (offset_of k) s in
      let b : Body = body k d in
      let good = step_in k in
      let short = bodies.value_short (step_of k) 1 good d in
      record {
        inside = omega (arith, (bodies.ends_in (step_of k) 1 good d).0, length-drop (offset_of k) s);
        value = refl;
        count = refl;
        as_is = λ g. let l : length b.value ≡ b.at = omega arith in rw l (as_it_stands k d l);
      }

  raw_is : (h : ℕ) → h ≡ hashes_at s (offset_of k) → offset_of k + h + 1 ≤ length s
      → let v = (raw_body k h (drop (offset_of k + h + 1) s)).value in RawLit k s v h (length v)
  raw_is h g fits =
      let d : List ℕ = drop (offset_of k + h + 1) s in
      let b : Body = raw_body k h d in
      let slice : b.value ≡ take b.at d = raw_value k h d in
      let i : b.at ≤ length d = (bodies.ends_in (raw_step_of k h) (h + 1) (raw_in k h) d).0 in
      let l : length b.value ≡ b.at = rw slice (simp length-take (omega arith)) in
      record {
        inside = omega (arith, length-drop (offset_of k + h + 1) s);
        hashes = g;
        value = rw l slice;
        count = refl;
      }

  by_opening : (o : Opening) → ((o ≡ opening.Neither → ⊥) → offset_of k ≤ length s) → Accepts (Literal k s (value_by k o s)) (read_by k o s)
  unfolding string_of raw_of raw_at raw_from
  by_opening opening.Quoted i =
      let b : Body = body k (drop (offset_of k) s) in
      after_end_lem (Literal k s b.value) not_raw (offset_of k + b.at) (length b.value) b.end
      (quoted_is (i (λ e. let z : ◌≡◌ {A = ℕ} 0 1 = cc in omega arith)))
  by_opening opening.Raw i =
      let h : ℕ = hashes_at s (offset_of k) in
      let b : Body = raw_body k h (drop (offset_of k + h + 1) s) in
      let P : Quote → Type 0 = λ q. Accepts (Literal k s b.value) (of_quote k q) in
      let inside : offset_of k ≤ length s = i (λ e. let z : ◌≡◌ {A = ℕ} 0 1 = cc in omega arith) in
      let fits : offset_of k + h ≤ length s = omega (arith, run_le (only 35) (drop (offset_of k) s), length-drop (offset_of k) s) in
      cond_eq P (offset_of k + h) (length s) (λ e. tt) λ e.
      cond_lt P 255 h (λ g. tt) λ g.
      cond_eq P (get_or s (offset_of k + h) 0) 34
      (λ q. after_end_lem (Literal k s b.value) (raw h) (offset_of k + h + 1 + b.at) (length b.value) b.end (raw_is h refl (omega arith)))
      (λ q. tt)
  by_opening opening.Neither i = no_start k (Literal k s [])

-- THE LAW: what is accepted has its value in the text, with as many bytes as the reading says.
pub literal : (k : Allowed) (s : List ℕ) → Accepts (Literal k s (string_value k s)) (string_read k s)
unfolding string_read string_value
literal k [] = tt
literal k (b ∷ s) = by_opening k (b ∷ s) (opening_at k (b ∷ s)) (opening_inside k (b ∷ s))

-- of a literal that was read
pub read_is : (k : Allowed) (s : List ℕ) {kind e : ℕ} {r : Rawness} {n : ℕ} → string_read k s ≡ accepted kind e (decoded (record { hashes = r; len = n })) → Literal k s (string_value k s) r n e
read_is k s g = rw g at (literal k s)

-- ---- the value's length

module _ (k : Allowed) (s : List ℕ) where
  counted : (r : Rawness) (n e : ℕ) → Literal k s (string_value k s) r n e → n ≡ length (string_value k s)
  counted not_raw n e l = l.count
  counted (raw h) n e l = l.count

  pub value_length : {kind e : ℕ} {r : Rawness} {n : ℕ} → string_read k s ≡ accepted kind e (decoded (record { hashes = r; len = n })) → n ≡ length (string_value k s)
  value_length {e = e} {r = r} {n = n} g = counted r n e (read_is k s g)

-- ---- where the value stands

-- a part of the text s is the value v, as it is; or what follows is a quoted body that stands for v
abbrev pub Stands : Allowed → List ℕ → List ℕ → Inner → Type 0
Stands k s v (AsItIs a e) = (a ≤ e) × (e ≤ length s) × (v ≡ take (e - a) (drop a s))
Stands k s v (Escaped a) = (a ≤ length s) × (v ≡ (body k (drop a s)).value)

stands : (k : Allowed) (s v : List ℕ) (h : Option ℕ) (n e : ℕ) → Literal k s v (hashes_of h) n e → Stands k s v (inner_by (offset_of k) h n e)
stands k s v None n e l =
    cond_eq (Stands k s v) (offset_of k + n + 1) e
    (λ g. (omega arith, l.inside, rw add-sub_cancel_left (l.as_is g)))
    (λ g. (omega (arith, l.inside), l.value))
stands k s v (Some h) n e l = (omega arith, l.inside, rw add-sub_cancel_left l.value)

-- of a literal that was read
module _ (k : Allowed) (s : List ℕ) (lit : StringLit) (is : parsed_of k (Ok lit) ≡ string_read k s) where
  -- THE LAW: its value stands where the reading says
  pub inner_stands : Stands k s (string_value k s) (inner_of k lit)
  inner_stands = stands k s (string_value k s) lit.hashes lit.value_len lit.start_suffix (read_is k s (sym is))

  -- by the case that was told
  pub stands_in : {i : Inner} → inner_of k lit ≡ i → Stands k s (string_value k s) i
  stands_in e = subst (Stands k s (string_value k s)) e inner_stands

  -- its value is no longer than the text
  pub len_inside : lit.value_len ≤ length s
  len_inside = go lit.hashes (read_is k s (sym is))
    where
      go : (h : Option ℕ) → Literal k s (string_value k s) (hashes_of h) lit.value_len lit.start_suffix → lit.value_len ≤ length s
      go None l = omega (arith, l.inside)
      go (Some h) l = omega (arith, l.inside)
