-- A refusal by an entry has one of litrs's numbers and a span inside the text.
-- Assumes nothing.
use mathlib.Core.Path.{◌≡◌}
use mathlib.Core.Bool.{◌||◌}
use mathlib.Core.List.{List, [], ◌∷◌}
use Prim.Native.Nat.{ℕ, zero, suc, ◌≤◌}
use native.Mathlib.Omega.{arith}
use lib.Dec.{eqb}
use lib.ListN.{length, get_or}
use Rattle.err.specs.Outcome.{Place, none, Outcome, refused, RefusedIn}
use Rattle.scan.proofs.Cases.{cond_in}
use Rattle.parse.specs.Sets.{dec_digit}
use Rattle.boolean.proofs.Laws as boolean
use Rattle.escape.specs.declared.Allowed.TheVariants.{Text, Bytes, C}
use Rattle.integer.proofs.Refused as integer
use Rattle.float.proofs.Refused as float
use Rattle.character.proofs.Exact.{char_refused, byte_refused}
use Rattle.string.proofs.Refused as string
use Rattle.dispatch.specs.Entries.{starts_float}
use Rattle.literal.specs.Readings.{number_read, byte_or_string_read, any_by, any_read, entry_read}
use Rattle.literal.proofs.Entries.{by_code}

module _ (s : List ℕ) (n : ℕ) (p : Place) where
  abbrev RefusedWithin : Outcome → Type 0
  RefusedWithin o = o ≡ refused n p → RefusedIn (length s) n p

  plain : (m : ℕ) → 1 ≤ m → m ≤ 41 → RefusedWithin (refused m none)
  plain m a b h =
      let q : n ≡ m = cc in
      let r : p ≡ none = cc in
      rw (q, r) (a, b, tt)

  number_refused : RefusedWithin (number_read s)
  unfolding number_read
  number_refused = cond_in RefusedWithin (starts_float s) (λ t. float.refused_in s) (λ t. integer.refused_in s)

  b_refused : RefusedWithin (byte_or_string_read s)
  unfolding byte_or_string_read
  b_refused =
      cond_in RefusedWithin (eqb (get_or s 1 0) 39) (λ t. byte_refused s) λ t.
      cond_in RefusedWithin (eqb (get_or s 1 0) 114 || eqb (get_or s 1 0) 34) (λ t. string.refused_in Bytes s) λ t. plain 3 (omega arith) (omega arith)

  by_refused : (b : ℕ) → RefusedWithin (any_by b s)
  unfolding any_by
  by_refused b =
      cond_in RefusedWithin (dec_digit b) (λ t. number_refused) λ t.
      cond_in RefusedWithin (eqb b 102 || eqb b 116) (λ t. boolean.refused_in s) λ t.
      cond_in RefusedWithin (eqb b 39) (λ t. char_refused s) λ t.
      cond_in RefusedWithin (eqb b 34 || eqb b 114) (λ t. string.refused_in Text s) λ t.
      cond_in RefusedWithin (eqb b 98) (λ t. b_refused) λ t.
      cond_in RefusedWithin (eqb b 99) (λ t. string.refused_in C s) λ t. plain 3 (omega arith) (omega arith)

any_refused : (s : List ℕ) {n : ℕ} {p : Place} → any_read s ≡ refused n p → RefusedIn (length s) n p
unfolding any_read
any_refused [] {n} {p} = plain [] n p 1 (omega arith) (omega arith)
any_refused (b ∷ s) {n} {p} = by_refused (b ∷ s) n p b

pub entry_refused : (code : ℕ) (s : List ℕ) {n : ℕ} {p : Place} → code ≤ 8 → entry_read code s ≡ refused n p → RefusedIn (length s) n p
unfolding entry_read
entry_refused zero s l = any_refused s
entry_refused (suc code) s {n} {p} l =
    by_code (λ c. entry_read c s ≡ refused n p → RefusedIn (length s) n p)
    (boolean.refused_in s) (integer.refused_in s) (float.refused_in s) (char_refused s)
    (string.refused_in Text s) (byte_refused s) (string.refused_in Bytes s) (string.refused_in C s) (suc code) (omega arith) l
