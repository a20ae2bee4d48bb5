-- A float's suffix: how it starts, and that it may stand after another number.
-- Assumes nothing.
use mathlib.Core.Path.{◌≡◌, refl, sym}
use mathlib.Core.Logic.{◌⊎◌, ⊎_elim}
use mathlib.Core.Bool.{true, false}
use mathlib.Core.List.{List, [], ◌∷◌, ◌++◌, append_assoc, cons≢nil}
use Prim.Native.Nat.{ℕ, ◌+◌, ◌<◌}
use native.Mathlib.Nat.{add-zero}
use lib.ListN.{length}
use Rattle.err.specs.Outcome.{accepted, ends}
use Rattle.scan.specs.Run.{All}
use Rattle.parse.specs.Sets.{digit, dec_digit, starts_e}
use Rattle.suffix.specs.Suffix.{suffix_start}
use Rattle.parse.proofs.Numbers.{plain_digits, plain_first, plain_some}
use Rattle.suffix.proofs.Suffixes.{good_start}
use Rattle.float.specs.Float.{float_read}
use Rattle.float.specs.Parts.{Sign, unsigned, minus, exponent, no_fraction, FloatParts}
use Rattle.float.proofs.Complete.{complete}

pub suffix_start_lem : {whole frac ex suf : List ℕ} {b : ℕ} → FloatParts whole frac ex (b ∷ suf) → (suffix_start b ≡ true) × (digit 10 b ≡ false)
suffix_start_lem {suf} {b} p = (good_start b suf p.suffix, p.longest)

minus_or_none : (sign : List ℕ) → (sign ≡ []) ⊎ (sign ≡ 45 ∷ []) → Sign sign
minus_or_none sign = ⊎_elim (λ e. rw e unsigned) (λ e. rw e minus)

-- ---- m, `e` and k, a minus sign or none before k, and the same suffix

module _ {whole frac ex suf : List ℕ} (p : FloatParts whole frac ex suf) (m k sign : List ℕ) (dm : All dec_digit m) (lm : 0 < length m) (dk : All dec_digit k) (lk : 0 < length k) (s : (sign ≡ []) ⊎ (sign ≡ 45 ∷ [])) where
  pub other_parts : FloatParts m [] (101 ∷ (sign ++ k)) suf
  unfolding starts_e
  other_parts =
      record {
        digits = plain_digits m dm;
        first = plain_first m dm lm;
        fraction = no_fraction refl;
        exponent = exponent 101 sign k refl refl (minus_or_none sign s) (plain_digits k dk) (plain_some k dk lk);
        suffix = p.suffix;
        some = λ e g. cons≢nil g;
        bare = λ e. absurd (cons≢nil (sym e));
        longest = p.longest;
        no_e = λ e. absurd (cons≢nil e);
      }

  pub other_number : let e = length m + length (101 ∷ (sign ++ k)) in
      float_read (m ++ (101 ∷ (sign ++ (k ++ suf)))) ≡ accepted 3 e (ends (record { whole = length m; fraction = length m; end = e }))
  other_number = rw (append_assoc, add-zero) at (complete other_parts)
