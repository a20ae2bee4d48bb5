-- What a kind's own `parse` accepts starts as entry 0 has it for that kind, so entry 0 goes there.
-- Assumes nothing.
use mathlib.Core.Path.{◌≡◌, ap, ◌∙◌}
use mathlib.Core.Bool.{◌&&◌}
use mathlib.Core.Logic.{⊎_elim}
use mathlib.Core.List.{List, [], ◌∷◌}
use Prim.Native.Nat.{ℕ}
use borrow.Author.Tests.{eqb-true}
use lib.Dec.{eqb}
use lib.ListN.{get_or}
use Rattle.err.specs.Outcome.{Values, accepted}
use Rattle.scan.proofs.Cases.{cond_in, cond_eq}
use Rattle.parse.specs.Class.{class_of}
use Rattle.parse.specs.Sets.{dec_digit}
use Rattle.parse.proofs.Classes.{both}
use Rattle.boolean.specs.Bool.{bool_read}
use Rattle.boolean.proofs.Laws as boolean
use Rattle.escape.specs.declared.Allowed.{Allowed}
use Rattle.escape.specs.declared.Allowed.TheVariants.{Text, Bytes, C}
use Rattle.integer.specs.Integer.{integer_read}
use Rattle.integer.proofs.Suffixed.{never}
use Rattle.integer.proofs.Read.{read_accepted}
use Rattle.integer.proofs.Parts as integer
use Rattle.float.specs.Float.{float_read}
use Rattle.float.proofs.Sound as float
use Rattle.character.specs.Single.{char_read, byte_read}
use Rattle.string.specs.String.{opening_by, read_by, string_read}
use Rattle.string.specs.declared.Opening.{Opening}
use Rattle.string.specs.declared.Opening.TheVariants as opening
use Rattle.dispatch.specs.Entries.{starts_float}
use Rattle.literal.specs.Readings.{number_read, byte_or_string_read, any_by, any_read}
use Rattle.literal.proofs.Starts.{integer_start, float_start}

by_opening {ℓ} : (P : Opening → Type ℓ) (b : ℕ) → (b ≡ 34 → P opening.Quoted) → (b ≡ 114 → P opening.Raw) → P opening.Neither → P (opening_by b)
unfolding opening_by
by_opening P b q r n = cond_eq P b 34 q (λ _. cond_eq P b 114 r (λ _. n))

module _ {k e : ℕ} {vs : Values} where
  pub bool_any : (s : List ℕ) → bool_read s ≡ accepted k e vs → any_read s ≡ bool_read s
  unfolding any_read any_by dec_digit class_of
  bool_any s h = ⊎_elim (λ q. rw q) (λ q. rw q) (boolean.sound s h).0

  pub integer_any : (s : List ℕ) → integer_read s ≡ accepted k e vs → any_read s ≡ integer_read s
  unfolding any_read any_by number_read integer_read
  integer_any [] h = never h
  integer_any (b ∷ s) h =
      let t = integer.sound (b ∷ s) k e vs h in
      rw ((read_accepted (b ∷ s) h).0, ap starts_float t.text ∙ integer_start t.parts)

  pub float_any : (s : List ℕ) → float_read s ≡ accepted k e vs → any_read s ≡ float_read s
  unfolding any_read any_by number_read float_read
  float_any [] = never
  float_any (b ∷ s) =
      cond_in (λ o. o ≡ accepted k e vs → any_read (b ∷ s) ≡ float_read (b ∷ s)) (dec_digit b)
      (λ d h. let t = float.sound (b ∷ s) k e vs (rw d h) in rw (ap starts_float t.text ∙ float_start t.parts, d))
      (λ d h. never h)

  pub char_any : (s : List ℕ) → char_read s ≡ accepted k e vs → any_read s ≡ char_read s
  unfolding any_read any_by dec_digit class_of char_read
  char_any [] = never
  char_any (b ∷ s) = cond_eq (λ o. o ≡ accepted k e vs → any_read (b ∷ s) ≡ char_read (b ∷ s)) b 39 (λ q h. rw q) (λ q h. never h)

  pub byte_any : (s : List ℕ) → byte_read s ≡ accepted k e vs → any_read s ≡ byte_read s
  unfolding any_read any_by dec_digit class_of byte_or_string_read byte_read
  byte_any [] = never
  byte_any (b ∷ s) =
      cond_in (λ o. o ≡ accepted k e vs → any_read (b ∷ s) ≡ byte_read (b ∷ s)) (eqb b 98 && eqb (get_or s 0 0) 39)
      (λ t h. let q = both (eqb b 98) (eqb (get_or s 0 0) 39) t in rw (eqb-true b 98 q.0, eqb-true (get_or s 0 0) 39 q.1))
      (λ t h. never h)

  pub string_any : (kind : Allowed) (s : List ℕ) → string_read kind s ≡ accepted k e vs → any_read s ≡ string_read kind s
  unfolding any_read any_by dec_digit class_of byte_or_string_read string_read
  string_any kind [] = never
  string_any Text (b ∷ s) =
      by_opening (λ o. read_by Text o (b ∷ s) ≡ accepted k e vs → any_read (b ∷ s) ≡ string_read Text (b ∷ s)) b
      (λ q h. rw q) (λ q h. rw q) (λ h. never h)
  string_any Bytes (b ∷ s) =
      let P : Opening → Type 0 = λ o. read_by Bytes o (b ∷ s) ≡ accepted k e vs → any_read (b ∷ s) ≡ string_read Bytes (b ∷ s) in
      cond_eq P b 98 (λ q. by_opening P (get_or s 0 0) (λ r h. rw (q, r)) (λ r h. rw (q, r)) (λ h. never h)) (λ q h. never h)
  string_any C (b ∷ s) =
      cond_eq (λ o. read_by C o (b ∷ s) ≡ accepted k e vs → any_read (b ∷ s) ≡ string_read C (b ∷ s)) b 99 (λ q h. rw q) (λ q h. never h)
