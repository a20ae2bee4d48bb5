-- Entry 0 answers a text as the entry that is chosen for it.
-- Assumes nothing.
use mathlib.Core.Path.{◌≡◌, refl, ap, sym, ◌∙◌}
use mathlib.Core.Bool.{Bool, true, false, cond, ◌||◌}
use mathlib.Core.List.{List, [], ◌∷◌}
use Prim.Native.Nat.{ℕ, zero, suc, ◌≤◌, ◌<◌}
use native.Mathlib.Omega.{arith}
use borrow.Author.Tests.{ne_eqb}
use lib.Dec.{eqb}
use lib.ListN.{get_or}
use Rattle.std.specs.Prelude.{Result, Ok, Err, IfErr}
use Rattle.err.specs.Outcome.{Outcome, refused, none}
use Rattle.err.specs.declared.Kind.{Kind}
use Rattle.err.specs.declared.Kind.TheVariants as kind
use Rattle.parse.specs.Sets.{dec_digit}
use Rattle.boolean.specs.Bool.{bool_read}
use Rattle.escape.specs.declared.Allowed.TheVariants.{Text, Bytes, C}
use Rattle.integer.specs.Integer.{integer_read}
use Rattle.float.specs.Float.{float_read}
use Rattle.character.specs.Single.{char_read, byte_read}
use Rattle.string.specs.String.{string_read}
use Rattle.dispatch.specs.Entries.{starts_float, number_entry, byte_entry, entry_by, entry_for, chosen_entry, chosen_code}
use Rattle.literal.specs.Readings.{number_read, byte_or_string_read, any_by, any_read, entry_read}
use Rattle.literal.proofs.Entries.{by_code}

-- what the code calls for an entry from 1 to 8; any other is none, as 9
unfoldable pub by_entry : ℕ → List ℕ → Outcome
by_entry e s =
    cond (eqb e 1) (bool_read s)
    (cond (eqb e 2) (integer_read s)
    (cond (eqb e 3) (float_read s)
    (cond (eqb e 4) (char_read s)
    (cond (eqb e 5) (string_read Text s)
    (cond (eqb e 6) (byte_read s)
    (cond (eqb e 7) (string_read Bytes s)
    (cond (eqb e 8) (string_read C s)
    (refused 3 none))))))))

-- two choices by one test
both : {A B : Type 0} (R : A → B → Type 0) (t : Bool) {x y : A} {u v : B} → R x u → R y v → R (cond t x y) (cond t u v)
both R true a b = a
both R false a b = b

module _ (s : List ℕ) where
  abbrev Is : Outcome → ℕ → Type 0
  Is o e = o ≡ by_entry e s

  number_chosen : Is (number_read s) (number_entry s)
  unfolding number_read number_entry by_entry
  number_chosen = both Is (starts_float s) refl refl

  b_chosen : Is (byte_or_string_read s) (byte_entry s)
  unfolding byte_or_string_read byte_entry by_entry
  b_chosen = both Is (eqb (get_or s 1 0) 39) refl (both Is (eqb (get_or s 1 0) 114 || eqb (get_or s 1 0) 34) refl refl)

  by_chosen : (b : ℕ) → Is (any_by b s) (entry_by b s)
  unfolding any_by entry_by by_entry
  by_chosen b =
      both Is (dec_digit b) number_chosen
      (both Is (eqb b 102 || eqb b 116) refl
      (both Is (eqb b 39) refl
      (both Is (eqb b 34 || eqb b 114) refl
      (both Is (eqb b 98) b_chosen
      (both Is (eqb b 99) refl refl)))))

any_chosen : (s : List ℕ) → any_read s ≡ by_entry (entry_for s) s
unfolding any_read entry_for by_entry integer_read
any_chosen [] = refl
any_chosen (b ∷ s) = by_chosen (b ∷ s) b

-- of each entry code
pub chosen_read : (code : ℕ) (s : List ℕ) → code ≤ 8 → entry_read code s ≡ by_entry (chosen_entry code s) s
unfolding entry_read chosen_entry by_entry
chosen_read zero s l = any_chosen s
chosen_read (suc code) s l =
    by_code (λ c. entry_read c s ≡ by_entry (chosen_entry c s) s) refl refl refl refl refl refl refl refl (suc code) (omega arith) l

-- what the code calls for the kind that was chosen
abbrev pub by_kind : Result Kind ℕ → List ℕ → Outcome
by_kind (Err n) s = refused 3 none
by_kind (Ok kind.Bool) s = bool_read s
by_kind (Ok kind.Integer) s = integer_read s
by_kind (Ok kind.Float) s = float_read s
by_kind (Ok kind.Char) s = char_read s
by_kind (Ok kind.String) s = string_read Text s
by_kind (Ok kind.Byte) s = byte_read s
by_kind (Ok kind.ByteString) s = string_read Bytes s
by_kind (Ok kind.CString) s = string_read C s

-- a number above 8 is no kind's
above : (n : ℕ) (s : List ℕ) → 8 < n → refused 3 none ≡ by_entry n s
unfolding by_entry
above n s l =
    rw (
      ne_eqb n 1 (λ e. omega arith),
      ne_eqb n 2 (λ e. omega arith),
      ne_eqb n 3 (λ e. omega arith),
      ne_eqb n 4 (λ e. omega arith),
      ne_eqb n 5 (λ e. omega arith),
      ne_eqb n 6 (λ e. omega arith),
      ne_eqb n 7 (λ e. omega arith),
      ne_eqb n 8 (λ e. omega arith),
    )

of_kind : (k : Result Kind ℕ) (s : List ℕ) → IfErr k (λ n. 8 < n) → by_kind k s ≡ by_entry (chosen_code k) s
unfolding by_entry
of_kind (Err n) s l = above n s l
of_kind (Ok kind.Bool) s l = refl
of_kind (Ok kind.Integer) s l = refl
of_kind (Ok kind.Float) s l = refl
of_kind (Ok kind.Char) s l = refl
of_kind (Ok kind.String) s l = refl
of_kind (Ok kind.Byte) s l = refl
of_kind (Ok kind.ByteString) s l = refl
of_kind (Ok kind.CString) s l = refl

-- THE LAW: an entry code reads a text as the kind that is chosen for it
pub kind_read : (k : Result Kind ℕ) (code : ℕ) (s : List ℕ) → code ≤ 8 → chosen_code k ≡ chosen_entry code s → IfErr k (λ n. 8 < n) → by_kind k s ≡ entry_read code s
kind_read k code s l e n = of_kind k s n ∙ ap (λ (m : ℕ). by_entry m s) e ∙ sym (chosen_read code s l)

-- the same where the kind is known
pub kind_known : (k : Result Kind ℕ) (m : Kind) (code : ℕ) (s : List ℕ) → code ≤ 8 → chosen_code k ≡ chosen_entry code s → IfErr k (λ n. 8 < n) → k ≡ Ok m → by_kind (Ok m) s ≡ entry_read code s
kind_known k m code s l e n q = ap (λ (x : Result Kind ℕ). by_kind x s) (sym q) ∙ kind_read k code s l e n
