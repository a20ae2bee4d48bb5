-- A closing quote, what stands before it, an escape's refusal and a suffix's fault lie in the text.
-- Assumes nothing.
use mathlib.Core.Path.{◌≡◌, refl, sym, subst}
use mathlib.Core.Logic.{⊎_elim}
use mathlib.Core.List.{List}
use Prim.Native.Nat.{ℕ, ◌+◌, ◌-◌, ◌≤◌, ◌<◌}
use native.Mathlib.Omega.{arith}
use lib.Dec.{eqb, ltb}
use lib.ListN.{length, get_or, drop, length-drop, get_or-eq_default}
use Rattle.err.specs.Outcome.{Place, none, between, shift, Ends, RefusedIn}
use Rattle.scan.proofs.Cases.{cond_in, by_lt}
use Rattle.suffix.specs.Suffix.{suffix_fault}
use Rattle.suffix.proofs.Suffixes.{fault_none, fault_cases}
use Rattle.utf8.specs.Decode.{decode}
use Rattle.std.specs.Prelude.{Option, Some, None}
use Rattle.utf8.proofs.At.{found_bounds}
use Rattle.escape.specs.Escape.{Escaped, value, bad, escape_of}
use Rattle.escape.specs.declared.Allowed.{Allowed}
use Rattle.escape.specs.declared.Unescaped.{Unescaped}
use Rattle.escape.proofs.Within.{escape_in}
use Rattle.character_quote.specs.Quote.{allowed_in}
use Rattle.character_quote.specs.Content.{Quoted, content, fault, decoded_by, plain_at, special, quote_at}
use Rattle.character_quote.specs.declared.Quote.{Quote}
use Rattle.character_quote.specs.declared.Quote.TheVariants.{Char, Byte}
use Rattle.character.specs.Single.{escaped_by, escaped_at, first_at}

pub quote_there : (s : List ℕ) (at : ℕ) → get_or s at 0 ≡ 39 → at < length s
quote_there s at e = by_lt at (length s) (λ h. h) (λ h. absurd (omega (arith, get_or-eq_default s 0 h)))

module _ (k : Allowed) (s : List ℕ) (at : ℕ) (h : at < length s) where
  escape_ends : (u : Unescaped) (n : ℕ) → value u n ≡ escape_of k (drop at s) → at + n ≤ length s
  escape_ends u n e = let p = rw (← e) at (escape_in k (drop at s)) in omega (arith, p.1, length-drop at s)

  -- for every bound on the text
  pub escape_span : (m num : ℕ) (p : Place) → bad num p ≡ escape_of k (drop at s) → length s ≤ m → Ends (m - at) p
  escape_span m num p e l = up p ((rw (← e) at (escape_in k (drop at s))) (omega (arith, length-drop at s))).2
    where
      up : (p : Place) → Ends (length (drop at s)) p → Ends (m - at) p
      up none f = tt
      up (between a b) f = (f.0, omega (arith, f.1, length-drop at s))

  pub escape_refused : (num : ℕ) (p : Place) → bad num p ≡ escape_of k (drop at s) → RefusedIn (length s) num (shift at p)
  escape_refused num p e = up p ((rw (← e) at (escape_in k (drop at s))) (omega (arith, length-drop at s)))
    where
      up : (p : Place) → RefusedIn (length (drop at s)) num p → RefusedIn (length s) num (shift at p)
      up none f = f
      up (between a b) f = omega (arith, f.0, f.1, f.2.0, f.2.1, length-drop at s)

-- content at an offset ends in the text
abbrev Inside : List ℕ → ℕ → Quoted → Type 0
Inside s at (content v n) = at + n ≤ length s
Inside s at (fault num p) = Unit {0}

module _ (s : List ℕ) (at : ℕ) (h : at < length s) where
  plain_inside : (q : Quote) → Inside s at (plain_at q s at)
  plain_inside Char = go (decode (drop at s)) refl
    where
      go : (d : Option (ℕ × ℕ)) → decode (drop at s) ≡ d → Inside s at (decoded_by d)
      go (Some (c, n)) e = (found_bounds s at c n e).1
      go None e = tt
  plain_inside Byte = cond_in (Inside s at) (ltb (get_or s at 0) 128) (λ f. omega arith) λ f. tt

  escaped_inside : (q : Quote) → Inside s at (escaped_at q s at)
  unfolding escaped_at
  escaped_inside q = go (escape_of (allowed_in q) (drop at s)) refl
    where
      go : (o : Escaped) → o ≡ escape_of (allowed_in q) (drop at s) → Inside s at (escaped_by at o)
      go (value u n) e = escape_ends (allowed_in q) s at h u n e
      go (bad num p) e = tt

  first_inside : (q : Quote) → Inside s at (first_at q s at)
  unfolding first_at quote_at
  first_inside q =
      let P : Quoted → Type 0 = Inside s at in
      cond_in P (eqb (get_or s at 0) 39) (λ quote. cond_in P (eqb (get_or s (at + 1) 0) 39) (λ f. tt) λ f. tt) λ other.
      cond_in P (special (get_or s at 0)) (λ f. tt) λ f.
      cond_in P (eqb (get_or s at 0) 92) (λ f. escaped_inside q) λ f. plain_inside q

  -- so the literal closes after it
  pub content_ends : (q : Quote) {v n : ℕ} → content v n ≡ first_at q s at → at + n ≤ length s
  content_ends q e = subst (Inside s at) (sym e) (first_inside q)

-- a suffix with a fault has a byte, and the fault is 2 or 39
pub suffix_refused : (s : List ℕ) (n : ℕ) → (suffix_fault (drop n s) ≡ 0 → ⊥) → RefusedIn (length s) (suffix_fault (drop n s)) (between n (n + 1))
suffix_refused s n h =
    let small : suffix_fault (drop n s) ≤ 41 = ⊎_elim (λ e. omega arith) (⊎_elim (λ e. omega arith) (λ e. omega arith)) (fault_cases (drop n s)) in
    by_lt n (length s) (λ l. omega (arith, h, small)) (λ l. absurd (h (sym (fault_none (drop n s) (omega (arith, length-drop n s))))))
