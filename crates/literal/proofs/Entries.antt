-- Entry 0 and the entry of a reading's own kind give the same reading.
-- Assumes nothing.
use mathlib.Core.Path.{◌≡◌, ap, ◌∙◌}
use mathlib.Core.Bool.{◌||◌}
use mathlib.Core.List.{List, [], ◌∷◌}
use Prim.Native.Nat.{ℕ, zero, suc, ◌≤◌}
use native.Mathlib.Omega.{arith}
use lib.Dec.{eqb}
use lib.ListN.{get_or}
use Rattle.err.specs.Outcome.{Values, Outcome, accepted}
use Rattle.scan.proofs.Cases.{cond_in, cond_eq}
use Rattle.parse.specs.Sets.{dec_digit}
use Rattle.escape.specs.declared.Allowed.{Allowed}
use Rattle.escape.specs.declared.Allowed.TheVariants.{Text, Bytes, C}
use Rattle.integer.proofs.Suffixed.{never}
use Rattle.string.specs.String.{string_kind, string_read}
use Rattle.dispatch.specs.Entries.{starts_float}
use Rattle.literal.specs.Readings.{number_read, byte_or_string_read, any_by, any_read, entry_read}
use Rattle.literal.proofs.KindLaws.{bool_kind, integer_kind, float_kind, char_kind, byte_kind, string_kind_lem}
use Rattle.literal.proofs.Openings.{bool_any, integer_any, float_any, char_any, byte_any, string_any}

-- ---- what entry 0 accepts, the kind's own entry accepts

module _ (s : List ℕ) (k e : ℕ) (vs : Values) where
  abbrev Own : Type 0
  Own = (1 ≤ k) × (k ≤ 8) × (entry_read k s ≡ accepted k e vs)

  own_at : (code : ℕ) → 1 ≤ code → code ≤ 8 → k ≡ code → entry_read code s ≡ accepted k e vs → Own
  own_at code a b q h = (omega arith, omega arith, ap (λ (c : ℕ). entry_read c s) q ∙ h)

  abbrev Owned : Outcome → Type 0
  Owned o = o ≡ accepted k e vs → Own

  own_string : (kind : Allowed) → Owned (string_read kind s)
  unfolding entry_read
  own_string Text h = own_at 5 (omega arith) (omega arith) (string_kind_lem Text s h) h
  own_string Bytes h = own_at 7 (omega arith) (omega arith) (string_kind_lem Bytes s h) h
  own_string C h = own_at 8 (omega arith) (omega arith) (string_kind_lem C s h) h

  own_number : Owned (number_read s)
  unfolding entry_read number_read
  own_number =
      cond_in Owned (starts_float s) (λ t h. own_at 3 (omega arith) (omega arith) (float_kind s h) h)
      (λ t h. own_at 2 (omega arith) (omega arith) (integer_kind s h) h)

  own_b : Owned (byte_or_string_read s)
  unfolding entry_read byte_or_string_read
  own_b =
      cond_eq Owned (get_or s 1 0) 39 (λ t h. own_at 6 (omega arith) (omega arith) (byte_kind s h) h)
      (λ t. cond_in Owned (eqb (get_or s 1 0) 114 || eqb (get_or s 1 0) 34) (λ t. own_string Bytes) (λ t. never))

  own_by : (b : ℕ) → Owned (any_by b s)
  unfolding entry_read any_by
  own_by b =
      cond_in Owned (dec_digit b) (λ t. own_number) λ t.
      cond_in Owned (eqb b 102 || eqb b 116) (λ t h. own_at 1 (omega arith) (omega arith) (bool_kind s h) h) λ t.
      cond_in Owned (eqb b 39) (λ t h. own_at 4 (omega arith) (omega arith) (char_kind s h) h) λ t.
      cond_in Owned (eqb b 34 || eqb b 114) (λ t. own_string Text) λ t.
      cond_in Owned (eqb b 98) (λ t. own_b) λ t.
      cond_in Owned (eqb b 99) (λ t. own_string C) λ t. never

pub own_entry : (s : List ℕ) {k e : ℕ} {vs : Values} → any_read s ≡ accepted k e vs → (1 ≤ k) × (k ≤ 8) × (entry_read k s ≡ accepted k e vs)
unfolding any_read
own_entry [] h = never h
own_entry (b ∷ s) {k} {e} {vs} h = own_by (b ∷ s) k e vs b h

-- ---- what an entry accepts, entry 0 accepts

-- the entries of the eight kinds
pub by_code {ℓ} : (P : ℕ → Type ℓ) → P 1 → P 2 → P 3 → P 4 → P 5 → P 6 → P 7 → P 8 → (code : ℕ) → 1 ≤ code → code ≤ 8 → P code
by_code P p q r s t u v w zero a b = absurd (omega arith)
by_code P p q r s t u v w (suc zero) a b = p
by_code P p q r s t u v w (suc (suc zero)) a b = q
by_code P p q r s t u v w (suc (suc (suc zero))) a b = r
by_code P p q r s t u v w (suc (suc (suc (suc zero)))) a b = s
by_code P p q r s t u v w (suc (suc (suc (suc (suc zero))))) a b = t
by_code P p q r s t u v w (suc (suc (suc (suc (suc (suc zero)))))) a b = u
by_code P p q r s t u v w (suc (suc (suc (suc (suc (suc (suc zero))))))) a b = v
by_code P p q r s t u v w (suc (suc (suc (suc (suc (suc (suc (suc zero)))))))) a b = w
by_code P p q r s t u v w (suc (suc (suc (suc (suc (suc (suc (suc (suc n))))))))) a b = absurd (omega arith)

pub any_entry : (code : ℕ) (s : List ℕ) {k e : ℕ} {vs : Values} → 1 ≤ code → code ≤ 8 → entry_read code s ≡ accepted k e vs
    → (k ≡ code) × (any_read s ≡ accepted k e vs)
unfolding entry_read
any_entry code s {k} {e} {vs} =
    by_code (λ c. entry_read c s ≡ accepted k e vs → (k ≡ c) × (any_read s ≡ accepted k e vs))
    (λ h. (bool_kind s h, bool_any s h ∙ h)) (λ h. (integer_kind s h, integer_any s h ∙ h))
    (λ h. (float_kind s h, float_any s h ∙ h)) (λ h. (char_kind s h, char_any s h ∙ h))
    (string Text) (λ h. (byte_kind s h, byte_any s h ∙ h)) (string Bytes) (string C)
    code
  where
    string : (kind : Allowed) → string_read kind s ≡ accepted k e vs → (k ≡ string_kind kind) × (any_read s ≡ accepted k e vs)
    string kind h = (string_kind_lem kind s h, string_any kind s h ∙ h)
