-- The answer for a text by what the scan found, and by the text's first byte.
-- Assumes nothing.
use mathlib.Core.Path.{◌≡◌, refl}
use mathlib.Core.Bool.{true, false}
use mathlib.Core.List.{List, [], ◌∷◌}
use Prim.Native.Nat.{ℕ, ◌-◌, ◌<◌}
use native.Mathlib.Nat.{add-sub_cancel_left}
use native.Mathlib.Omega.{arith}
use lib.ListN.{length, get_or}
use Rattle.std.specs.Prelude.{Ok}
use Rattle.err.specs.Outcome.{Outcome, Values, refused, accepted, none, between}
use Rattle.err.specs.declared.IntegerLit.{IntegerLit}
use Rattle.scan.proofs.Cases.{cond_in, clash}
use Rattle.parse.specs.Class.{class_of}
use Rattle.parse.specs.Sets.{dec_digit}
use Rattle.integer.specs.Integer.{Scanned, parsed_of, after_suffix, after_digits, integer_of, integer_at, integer_read}
use Rattle.integer.proofs.Suffixed.{never}

pub at_scan : (l : IntegerLit) (s : List ℕ) → Scanned l s →
    integer_at s ≡ after_suffix s l.end_main_part (after_digits s l.start_main_part l.end_main_part (l.end_main_part - l.start_main_part) (parsed_of (Ok l)))
unfolding integer_at integer_of
at_scan l s h = rw (h.end, h.start, h.base, add-sub_cancel_left)

-- the empty text
pub read_none : (s : List ℕ) → length s ≡ 0 → refused 1 none ≡ integer_read s
unfolding integer_read
read_none [] h = refl
read_none (b ∷ s) h = absurd (omega arith)

pub read_digit : (s : List ℕ) → dec_digit (get_or s 0 0) ≡ true → integer_at s ≡ integer_read s
unfolding integer_read dec_digit class_of
read_digit [] d = clash d refl
read_digit (b ∷ s) d = rw d

pub read_other : (s : List ℕ) → 0 < length s → dec_digit (get_or s 0 0) ≡ false → refused 4 (between 0 1) ≡ integer_read s
unfolding integer_read
read_other [] h d = absurd (omega arith)
read_other (b ∷ s) h d = rw d

-- what is accepted starts with a decimal digit
pub read_accepted : (s : List ℕ) {k e : ℕ} {v : Values} → integer_read s ≡ accepted k e v → (dec_digit (get_or s 0 0) ≡ true) × (integer_at s ≡ accepted k e v)
unfolding integer_read
read_accepted [] = never
read_accepted (b ∷ s) {k} {e} {v} =
    cond_in (λ (o : Outcome). o ≡ accepted k e v → (dec_digit b ≡ true) × (integer_at (b ∷ s) ≡ accepted k e v)) (dec_digit b) (λ t h. (t, h)) (λ t h. never h)
