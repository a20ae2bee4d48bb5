-- Which bytes start an integer's suffix, and that plain decimal digits before the same suffix are read as an integer again.
-- Assumes nothing.
use mathlib.Core.Path.{◌≡◌, refl, sym, ◌∙◌}
use mathlib.Core.Bool.{true, false}
use mathlib.Core.Logic.{inl, inr}
use mathlib.Core.List.{List, [], ◌∷◌, ◌++◌}
use Prim.Native.Nat.{ℕ, ◌<◌}
use native.Mathlib.Nat.{zero-add}
use native.Mathlib.Omega.{arith}
use borrow.Author.Tests.{ne_eqb}
use lib.Dec.{eqb}
use lib.ListN.{length, get_or}
use Rattle.err.specs.Outcome.{accepted, digits}
use Rattle.scan.specs.Run.{All, Stops}
use Rattle.scan.proofs.Cases.{cond_in, clash}
use Rattle.parse.specs.Sets.{digit, dec_digit, starts_e}
use Rattle.suffix.specs.Suffix.{suffix_start}
use Rattle.parse.proofs.Classes.{dec_digit_ends, digit_underscore}
use Rattle.suffix.proofs.Starts.{start_digit}
use Rattle.parse.proofs.Numbers.{plain_digits, plain_first, plain_some}
use Rattle.suffix.proofs.Suffixes.{good_start}
use Rattle.integer.specs.Integer.{base_at, integer_read}
use Rattle.integer.specs.Parts.{dec, IntegerParts, Unprefixed}
use Rattle.integer.proofs.Bases.{base_other}
use Rattle.integer.proofs.Parts.{complete}

-- ---- the suffix's first byte

no_e : (b : ℕ) (s : List ℕ) → starts_e (b ∷ s) 0 ≡ false → (b ≡ 101 → ⊥) × (b ≡ 69 → ⊥)
unfolding starts_e
no_e b s h = (λ e. clash (rw e) h, λ e. clash (rw e) h)

pub suffix_start_lem : {base b : ℕ} {pre main suf : List ℕ} → IntegerParts base pre main (b ∷ suf) → (suffix_start b ≡ true) × ((b ≡ 95 → ⊥) × ((b ≡ 101 → ⊥) × ((b ≡ 69 → ⊥) × (digit 10 b ≡ false))))
suffix_start_lem {base} {b} {pre} {main} {suf} h =
    let t = good_start b suf h.suffix in
    let u : b ≡ 95 → ⊥ = λ e. clash (rw e (digit_underscore base)) h.longest in
    let e = no_e b suf h.no_e in
    (t, (u, (e.0, (e.1, start_digit b t ∙ ne_eqb b 95 u))))

-- ---- other digits

-- a second byte other than b, o and x announces no base
pub base_ten : (s : List ℕ) → (get_or s 1 0 ≡ 98 → ⊥) → (get_or s 1 0 ≡ 111 → ⊥) → (get_or s 1 0 ≡ 120 → ⊥) → base_at s ≡ 10
unfolding base_at
base_ten s b o x = rw (ne_eqb _ _ b, ne_eqb _ _ o, ne_eqb _ _ x) (cond_in (λ (n : ℕ). n ≡ 10) (eqb (get_or s 0 0) 48) (λ e. refl) (λ e. refl))

unprefixed : (d suf : List ℕ) → All dec_digit d → 0 < length d → Unprefixed d suf → base_at (d ++ suf) ≡ 10
unprefixed [] suf h l u = absurd (omega arith)
unprefixed (a ∷ b ∷ d) suf h l u =
    let e = dec_digit_ends b h.1.0 in
    base_ten (a ∷ b ∷ (d ++ suf)) (λ z. omega arith) (λ z. omega arith) (λ z. omega arith)
unprefixed (a ∷ []) suf h l (inl z) = sym (base_other (a ∷ suf) z)
unprefixed (a ∷ []) suf h l (inr (inl z)) = absurd (omega arith)
unprefixed (a ∷ []) suf h l (inr (inr z)) = base_ten (a ∷ suf) z.0 z.1.0 z.1.1

-- they have the same suffix after them
pub other_parts : {base : ℕ} {pre main suf : List ℕ} → IntegerParts base pre main suf → (d : List ℕ) → All dec_digit d → 0 < length d → Unprefixed d suf → IntegerParts 10 [] d suf
other_parts {suf = suf} p d h l u =
    record { prefix = dec; digits = plain_digits d h; some = plain_some d h l; longest = longest suf p; suffix = p.suffix; no_e = p.no_e; first = plain_first d h l; plain = unprefixed d suf h l u }
  where
    longest : {base : ℕ} {pre main : List ℕ} (suf : List ℕ) → IntegerParts base pre main suf → Stops (digit 10) suf
    longest [] p = tt
    longest (b ∷ suf) p = (suffix_start_lem p).1.1.1.1

pub other_digits : {base : ℕ} {pre main suf : List ℕ} → IntegerParts base pre main suf → (d : List ℕ) → All dec_digit d → 0 < length d → Unprefixed d suf → integer_read (d ++ suf) ≡ accepted 2 (length d) (digits (record { base = 10; start = 0; end = length d }))
other_digits p d h l u = complete (other_parts p d h l u) ∙ rw zero-add
