-- A refusal has one of litrs's numbers and its span lies in the text.
-- Assumes nothing.
use mathlib.Core.Path.{◌≡◌, refl, subst}
use mathlib.Core.List.{List, [], ◌∷◌}
use Prim.Native.Nat.{ℕ, ◌≤◌}
use native.Mathlib.Omega.{arith}
use lib.ListN.{length}
use Rattle.err.specs.Outcome.{Place, Outcome, refused, accepted, RefusedIn}
use Rattle.escape.specs.declared.Allowed.{Allowed}
use Rattle.escape.specs.declared.Allowed.TheVariants.{Text, Bytes, C}
use Rattle.body.specs.Quote.{Quote, string_of}
use Rattle.body.specs.Quote as quote
use Rattle.body.proofs.Strings.{string_refused}
use Rattle.raw.specs.Raw.{raw_of}
use Rattle.raw.proofs.Strings.{raw_refused}
use Rattle.string.specs.String.{offset_of, opening_at, start_fault, of_quote, read_by, string_read}
use Rattle.string.specs.declared.Opening.{Opening}
use Rattle.string.specs.declared.Opening.TheVariants as opening
use Rattle.string.proofs.Literals.{opening_inside}

-- of a text of m bytes
abbrev In : ℕ → Outcome → Type 0
In m (refused n p) = RefusedIn m n p
In m (accepted kind e vs) = Unit {0}

of_quote_lem : (k : Allowed) (m : ℕ) (q : Quote) → ((n : ℕ) (p : Place) → q ≡ quote.refused n p → RefusedIn m n p) → In m (of_quote k q)
of_quote_lem k m (quote.quoted r start len) h = tt
of_quote_lem k m (quote.refused n p) h = h n p refl

start_in : (k : Allowed) (m : ℕ) → 1 ≤ m → In m (start_fault k)
start_in Text m h = (omega arith, omega arith, (omega arith, h))
start_in Bytes m h = (omega arith, omega arith, tt)
start_in C m h = (omega arith, omega arith, tt)

by_opening : (k : Allowed) (s : List ℕ) (o : Opening) → ((o ≡ opening.Neither → ⊥) → offset_of k ≤ length s) → 1 ≤ length s
    → In (length s) (read_by k o s)
by_opening k s opening.Quoted l h =
    of_quote_lem k (length s) (string_of k (offset_of k) s)
    (λ n p. string_refused k (offset_of k) s (l (λ x. let z : ◌≡◌ {A = ℕ} 0 1 = cc in omega arith)))
by_opening k s opening.Raw l h =
    of_quote_lem k (length s) (raw_of k (offset_of k) s)
    (λ n p. raw_refused k (offset_of k) s (l (λ x. let z : ◌≡◌ {A = ℕ} 0 1 = cc in omega arith)))
by_opening k s opening.Neither l h = start_in k (length s) h

read_in : (k : Allowed) (s : List ℕ) → In (length s) (string_read k s)
unfolding string_read
read_in k [] = (omega arith, omega arith, tt)
read_in k (b ∷ s) = by_opening k (b ∷ s) (opening_at k (b ∷ s)) (opening_inside k (b ∷ s)) (omega arith)

-- THE LAW
pub refused_in : (k : Allowed) (s : List ℕ) {n : ℕ} {p : Place} → string_read k s ≡ refused n p → RefusedIn (length s) n p
refused_in k s e = subst (In (length s)) e (read_in k s)
