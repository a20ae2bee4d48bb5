-- The steps of reading a float, by what stands in the text from an offset on.
-- Assumes nothing.
use mathlib.Core.Path.{◌≡◌, refl}
use mathlib.Core.Bool.{Bool, true, false, cond, ◌||◌}
use mathlib.Core.List.{List, [], ◌∷◌, ◌++◌}
use Prim.Native.Nat.{ℕ, ◌+◌}
use native.Mathlib.Nat.{add-zero, add-sub_cancel_left}
use native.Mathlib.Omega.{arith}
use lib.Dec.{eqb}
use lib.ListN.{length, get_or, drop, length-append}
use lib.Seq.{drop-drop, get_or-drop, drop-append_seam, take-append_seam}
use borrow.Author.Tests.{ne_eqb}
use Rattle.err.specs.Outcome.{refused, accepted, between, ends}
use Rattle.scan.specs.Run.{run, All, Stops}
use Rattle.scan.specs.Sets.{only}
use Rattle.scan.proofs.Runs.{run_is}
use Rattle.parse.specs.Sets.{digit, starts_e}
use Rattle.suffix.specs.Suffix.{suffix_fault}
use Rattle.parse.proofs.Numbers.{e_after}
use Rattle.float.specs.Float.{digits_end, not_integer, after_number, sign_end, no_digit, after_fraction, bad_fraction, after_integer}
use Rattle.float.specs.Parts.{Sign, unsigned, plus, minus}

pub byte_from : (s : List ℕ) (at : ℕ) (r : List ℕ) → drop at s ≡ r → get_or s at 0 ≡ get_or r 0 0
byte_from s at r h = rw (← h, get_or-drop, add-zero)

pub past : (s : List ℕ) (at : ℕ) (a r : List ℕ) → drop at s ≡ a ++ r → drop (at + length a) s ≡ r
past s at a r h = rw (← drop-drop, h, drop-append_seam)

pub digits_from : (s : List ℕ) (at : ℕ) (a r : List ℕ) → drop at s ≡ a ++ r → All (digit 10) a → Stops (digit 10) r → digits_end s at ≡ at + length a
digits_from s at a r h d e = rw (h, run_is (digit 10) a r d e)

no_digit_from : (s : List ℕ) (at : ℕ) (a r : List ℕ) → drop at s ≡ a ++ r → no_digit s at (at + length a) ≡ eqb (run (only 95) a) (length a)
unfolding no_digit
no_digit_from s at a r h = rw (add-sub_cancel_left, h, take-append_seam)

-- ---- the exponent

abbrev pub is_sign : ℕ → Bool
is_sign b = eqb b 45 || eqb b 43

sign_from : (s : List ℕ) (at : ℕ) (sign u : List ℕ) → drop (at + 1) s ≡ sign ++ u → Sign sign → (sign ≡ [] → is_sign (get_or u 0 0) ≡ false) → sign_end s at ≡ at + 1 + length sign
unfolding sign_end
sign_from s at sign u h unsigned n = rw (byte_from s (at + 1) u h, n refl) (omega arith)
sign_from s at sign u h plus n = rw (byte_from s (at + 1) (43 ∷ u) h)
sign_from s at sign u h minus n = rw (byte_from s (at + 1) (45 ∷ u) h)

pub exponent_from : (s : List ℕ) (i f letter : ℕ) (sign ds suf : List ℕ) → drop f s ≡ letter ∷ (sign ++ (ds ++ suf)) → starts_e (letter ∷ []) 0 ≡ true → Sign sign
    → (sign ≡ [] → is_sign (get_or (ds ++ suf) 0 0) ≡ false) → All (digit 10) ds → Stops (digit 10) suf
    → let e = f + length (letter ∷ (sign ++ ds)) in
    after_fraction s i f ≡ cond (eqb (run (only 95) ds) (length ds)) (refused 7 (between f e)) (after_number s i f e)
unfolding after_fraction starts_e
exponent_from s i f letter sign ds suf h t g n d l =
    let h1 : drop (f + 1) s ≡ sign ++ (ds ++ suf) = past s f (letter ∷ []) (sign ++ (ds ++ suf)) h in
    let h2 : drop (f + 1 + length sign) s ≡ ds ++ suf = past s (f + 1) sign (ds ++ suf) h1 in
    let q : f + 1 + length sign + length ds ≡ f + length (letter ∷ (sign ++ ds)) = omega (arith, length-append sign ds) in
    rw (← e_after s f, h, t, sign_from s f sign (ds ++ suf) h1 g n, digits_from s (f + 1 + length sign) ds suf h2 d l, no_digit_from s (f + 1 + length sign) ds suf h2, q)

-- ---- the fraction

pub fraction_from : (s : List ℕ) (i : ℕ) (ds rest : List ℕ) → drop i s ≡ 46 ∷ (ds ++ rest) → All (digit 10) ds → Stops (digit 10) rest
    → after_integer s i ≡ cond (bad_fraction s (i + 1) (i + 1 + length ds)) (refused 2 (between (i + 1) (i + 1 + 1))) (after_fraction s i (i + 1 + length ds))
unfolding after_integer
fraction_from s i ds rest h d l =
    let h1 : drop (i + 1) s ≡ ds ++ rest = past s i (46 ∷ []) (ds ++ rest) h in
    rw (byte_from s i _ h, digits_from s (i + 1) ds rest h1 d l)

pub no_fraction_from : (s : List ℕ) (i : ℕ) → (get_or s i 0 ≡ 46 → ⊥) → after_integer s i ≡ after_fraction s i i
unfolding after_integer
no_fraction_from s i h = rw (ne_eqb _ _ h)

-- ---- the suffix

pub number_from_lem : (s : List ℕ) (i f e : ℕ) → suffix_fault (drop e s) ≡ 0 → (i ≡ e → ⊥) → after_number s i f e ≡ accepted 3 e (ends (record { whole = i; fraction = f; end = e }))
unfolding after_number not_integer
number_from_lem s i f e h n = rw (h, ne_eqb i e n)
