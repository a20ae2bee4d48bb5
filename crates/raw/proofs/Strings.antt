-- The whole raw string from its hashes and its body, and where its parts lie in the text.
-- Assumes nothing.
use mathlib.Core.Path.{◌≡◌, subst}
use mathlib.Core.List.{List}
use Prim.Native.Nat.{ℕ, ◌+◌, ◌≤◌, ◌<◌}
use native.Mathlib.Omega.{arith}
use borrow.Author.Tests.{eq-eqb, ne_eqb, lt-ltb, le-ltb}
use lib.ListN.{length, get_or, drop, length-drop}
use Rattle.err.specs.Outcome.{Place, none, between, raw, RefusedIn}
use Rattle.scan.specs.Run.{run}
use Rattle.scan.specs.Sets.{only}
use Rattle.scan.proofs.Cases.{cond_eq, cond_lt}
use Rattle.scan.proofs.Runs.{run_le}
use Rattle.escape.specs.declared.Allowed.{Allowed}
use Rattle.body.specs.Quote.{Quote, quoted, refused, after_body}
use Rattle.body.proofs.Strings.{QuoteIn, body_in}
use Rattle.raw.specs.Raw.{raw_step_of, raw_body, raw_from, raw_at, raw_of}
use Rattle.raw.proofs.Steps.{raw_in}

-- ---- the whole, one law for each way

module _ (k : Allowed) (offset : ℕ) (text : List ℕ) (h : ℕ) (is : h ≡ run (only 35) (drop offset text)) where
  pub only_hashes : offset + h ≡ length text → refused 3 none ≡ raw_of k offset text
  unfolding raw_of raw_at
  only_hashes e = rw (← is, eq-eqb _ _ e)

  module _ (some : offset + h ≡ length text → ⊥) where
    pub too_many : 255 < h → refused 38 (between offset (offset + h)) ≡ raw_of k offset text
    unfolding raw_of raw_at
    too_many g = rw (← is, ne_eqb _ _ some, lt-ltb _ _ g)

    module _ (few : h ≤ 255) where
      pub no_quote : (get_or text (offset + h) 0 ≡ 34 → ⊥) → refused 3 none ≡ raw_of k offset text
      unfolding raw_of raw_at
      no_quote e = rw (← is, ne_eqb _ _ some, le-ltb _ _ few, ne_eqb _ _ e)

      pub raw_is : get_or text (offset + h) 0 ≡ 34
          → after_body text (raw h) (offset + h + 1) (raw_body k h (drop (offset + h + 1) text)) ≡ raw_of k offset text
      unfolding raw_of raw_at raw_from
      raw_is e = rw (← is, ne_eqb _ _ some, le-ltb _ _ few, eq-eqb _ _ e)

-- ---- bounds

pub raw_string_in : (k : Allowed) (offset : ℕ) (text : List ℕ) → offset ≤ length text → QuoteIn (length text) offset (raw_of k offset text)
unfolding raw_of raw_at raw_from
raw_string_in k offset text l =
    let P : Quote → Type 0 = QuoteIn (length text) offset in
    let h : ℕ = run (only 35) (drop offset text) in
    let fits : offset + h ≤ length text = omega (arith, run_le (only 35) (drop offset text), length-drop offset text) in
    cond_eq P (offset + h) (length text) (λ e. (omega arith, omega arith, tt)) λ e.
    cond_lt P 255 h (λ g. omega arith) λ g.
    cond_eq P (get_or text (offset + h) 0) 34
    (λ q. wider offset (offset + h + 1) (omega arith) (after_body text (raw h) (offset + h + 1) (raw_body k h (drop (offset + h + 1) text)))
    (body_in (raw_step_of k h) text (raw h) (raw_in k h) (offset + h + 1) (omega arith)))
    (λ q. (omega arith, omega arith, tt))
  where
    wider : (a b : ℕ) → a ≤ b → (x : Quote) → QuoteIn (length text) b x → QuoteIn (length text) a x
    wider a b h (quoted r start len) i = (omega (arith, i.0), i.1)
    wider a b h (refused num p) i = i

-- a refusal is in the text
pub raw_refused : (k : Allowed) (offset : ℕ) (text : List ℕ) → offset ≤ length text → {n : ℕ} {p : Place} → raw_of k offset text ≡ refused n p
    → RefusedIn (length text) n p
raw_refused k offset text l e = subst (QuoteIn (length text) offset) e (raw_string_in k offset text l)
