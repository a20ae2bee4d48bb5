-- The whole quoted string from the measure of its body, and where its parts lie in the text.
-- Assumes nothing.
use mathlib.Core.Path.{◌≡◌, refl, sym, subst}
use mathlib.Core.List.{List}
use Prim.Native.Nat.{ℕ, ◌+◌, ◌-◌, ◌≤◌, ◌<◌}
use native.Mathlib.Omega.{arith}
use borrow.Author.Tests.{eq-eqb, ne_eqb}
use lib.ListN.{length, drop, length-drop}
use Rattle.err.specs.Outcome.{Place, none, between, Rawness, not_raw, Ends, RefusedIn, shift}
use Rattle.err.specs.Outcome as outcome
use Rattle.scan.proofs.Cases.{cond_eq, by_lt}
use Rattle.suffix.specs.Suffix.{suffix_fault}
use Rattle.suffix.proofs.Suffixes.{fault_none, fault_small}
use Rattle.escape.specs.declared.Allowed.{Allowed}
use Rattle.body.specs.Step.{End, close, refuse, Next, end_of, step_of}
use Rattle.body.specs.Body.{Fitting, Body, body_by, body, Measures}
use Rattle.body.specs.Quote.{Quote, quoted, refused, closing, suffixed, after_end, after_body, string_of}
use Rattle.body.specs.declared.Measured.{Measured}
use Rattle.body.proofs.Within.{EndIn, end_fits, NextIn, step_in}
use Rattle.body.proofs.Bodies.{ends_in, value_short}

-- ---- a refusal

-- what an error's contract says of it, as a quoted string's result
pub refused_quote : {m n : ℕ} {p q : Place} → outcome.refused m p ≡ outcome.refused n q → refused m p ≡ refused n q
refused_quote e = cc

-- ---- a suffix

module _ (text : List ℕ) (r : Rawness) (n len f : ℕ) (is : f ≡ suffix_fault (drop n text)) where
  pub suffix_good : f ≡ 0 → quoted r n len ≡ suffixed text r n len
  unfolding suffixed
  suffix_good e = rw (← is, eq-eqb _ _ e)

  pub suffix_bad : (f ≡ 0 → ⊥) → refused f (between n (n + 1)) ≡ suffixed text r n len
  unfolding suffixed
  suffix_bad e = rw (← is, ne_eqb _ _ e)

-- a suffix with a fault has a byte
pub faulty : (text : List ℕ) (n : ℕ) → (suffix_fault (drop n text) ≡ 0 → ⊥) → n < length text
faulty text n h =
    by_lt n (length text) (λ l. l) (λ l. absurd (h (sym (fault_none (drop n text) (omega (arith, length-drop n text))))))

-- ---- a measure of a body, at an offset of a text

module _ (step : List ℕ → Next) (q : ℕ) (good : (s : List ℕ) → NextIn q (length s) (step s)) (text : List ℕ) (offset : ℕ)
    (in-text : offset ≤ length text) (m : Measured) (is : Measures (body_by step (drop offset text)) m) where
  pub fitting : Fitting q offset (length text) m
  fitting =
      let end : End = (body_by step (drop offset text)).end in
      let e = ends_in step q good (drop offset text) in
      let l = length-drop offset text in
      let left : ℕ = length text - (offset + m.at) in
      record {
        place = omega (arith, e.0, is.place);
        end = rw is.why (end_fits q left end (subst (λ (n : ℕ). EndIn q n end) (omega (arith, is.place)) e.1));
      }

pub measured : (text : List ℕ) (r : Rawness) (offset : ℕ) (b : Body) (m : Measured) → Measures b m
    → after_end text r (offset + m.at) m.len (end_of m.end) ≡ after_body text r offset b
measured text r offset b m is = rw (is.place, is.count, is.why)

pub ends_up : (m n : ℕ) (p : Place) → m ≤ n → Ends m p → Ends n p
ends_up m n none h e = tt
ends_up m n (between a b) h e = (e.0, omega arith)

-- ---- the whole

module _ (k : Allowed) (offset : ℕ) (text : List ℕ) where
  pub string_is : after_body text not_raw offset (body k (drop offset text)) ≡ string_of k offset text
  unfolding string_of
  string_is = refl

-- ---- bounds

-- In a text of n bytes: the value has no more bytes than stand after the offset and before what closes the string, the suffix starts
-- after that, and a refusal is in the text.
abbrev pub QuoteIn : ℕ → ℕ → Quote → Type 0
QuoteIn n offset (quoted r start len) = (offset + len + closing r ≤ start) × (start ≤ n)
QuoteIn n offset (refused num p) = RefusedIn n num p

shift_in : (at n : ℕ) (p : Place) → at ≤ n → Ends (n - at) p → Ends n (shift at p)
shift_in at n none h e = tt
shift_in at n (between a b) h e = (omega (arith, e.0), omega (arith, e.1))

suffixed_in : (text : List ℕ) (r : Rawness) (offset n len : ℕ) → offset + len + closing r ≤ n → n ≤ length text
    → QuoteIn (length text) offset (suffixed text r n len)
unfolding suffixed
suffixed_in text r offset n len h l =
    cond_eq (QuoteIn (length text) offset) (suffix_fault (drop n text)) 0 (λ e. (h, l))
    (λ e. omega (arith, e, faulty text n e, fault_small (drop n text)))

after_in : (text : List ℕ) (r : Rawness) (offset at len : ℕ) (e : End) → offset + len ≤ at → at ≤ length text
    → EndIn (closing r) (length text - at) e → QuoteIn (length text) offset (after_end text r at len e)
after_in text r offset at len close h l f = suffixed_in text r offset (at + closing r) len (omega arith) (omega arith)
after_in text r offset at len (refuse num p) h l f = (f.0, f.1, shift_in at (length text) p l f.2)

pub body_in : (step : List ℕ → Next) (text : List ℕ) (r : Rawness) → ((s : List ℕ) → NextIn (closing r) (length s) (step s))
    → (offset : ℕ) → offset ≤ length text → QuoteIn (length text) offset (after_body text r offset (body_by step (drop offset text)))
body_in step text r good offset l =
    let s : List ℕ = drop offset text in
    let b : Body = body_by step s in
    let e = ends_in step (closing r) good s in
    let v = value_short step (closing r) good s in
    let size = length-drop offset text in
    after_in text r offset (offset + b.at) (length b.value) b.end (omega arith) (omega (arith, e.0))
    (subst (λ (n : ℕ). EndIn (closing r) n b.end) (omega (arith, e.0)) e.1)

pub string_in_lem : (k : Allowed) (offset : ℕ) (text : List ℕ) → offset ≤ length text → QuoteIn (length text) offset (string_of k offset text)
unfolding string_of
string_in_lem k offset text l = body_in (step_of k) text not_raw (step_in k) offset l

-- ---- a refusal is in the text

module _ (k : Allowed) (offset : ℕ) (text : List ℕ) (l : offset ≤ length text) {n : ℕ} {p : Place} where
  pub string_refused : string_of k offset text ≡ refused n p → RefusedIn (length text) n p
  string_refused e = subst (QuoteIn (length text) offset) e (string_in_lem k offset text l)
