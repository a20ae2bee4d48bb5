-- How many bytes the character at an offset of a text has, by the ranges of its bytes that RFC 3629, section 4, lists.
-- Assumes nothing.
use mathlib.Core.Path.{◌≡◌, refl, sym, ap, ◌∙◌}
use mathlib.Core.Bool.{true, false}
use mathlib.Core.List.{List}
use Prim.Native.Nat.{ℕ, ◌+◌, ◌*◌, ◌/◌, ◌%◌, ◌≤◌, ◌<◌}
use native.Mathlib.Omega.{arith}
use lib.ListN.{length, get_or, drop}
use borrow.Author.Tests.{lt-ltb, le-ltb, eqb-true}
use Rattle.scan.proofs.Cases.{cond_lt, cond_eq, by_lt}
use Rattle.utf8.specs.Decode.{length_from, decode2, chosen3, decode3, chosen4, decode4, decode, len_of}
use Rattle.utf8.specs.Cut.{continuation}
use Rattle.std.specs.Prelude.{Option, None}
use Rattle.utf8.proofs.At.{decode_one, decode_two, decode_four, decode_none}

-- ---- the rows of the table by their first bytes

length_one : (a : ℕ) → a < 0x80 → 1 ≡ length_from a
unfolding length_from
length_one a h = simp (lt-ltb a 0x80 h)

pub length_two : (a : ℕ) → 0xC0 ≤ a → a < 0xE0 → 2 ≡ length_from a
unfolding length_from
length_two a g h = simp (le-ltb a 0x80 (omega arith), le-ltb a 0xC0 g, lt-ltb a 0xE0 h)

pub length_three : (a : ℕ) → 0xE0 ≤ a → a < 0xF0 → 3 ≡ length_from a
unfolding length_from
length_three a g h = simp (le-ltb a 0x80 (omega arith), le-ltb a 0xC0 (omega arith), le-ltb a 0xE0 g, lt-ltb a 0xF0 h)

pub length_four : (a : ℕ) → 0xF0 ≤ a → a < 0xF8 → 4 ≡ length_from a
unfolding length_from
length_four a g h =
    simp (le-ltb a 0x80 (omega arith), le-ltb a 0xC0 (omega arith), le-ltb a 0xE0 (omega arith), le-ltb a 0xF0 g, lt-ltb a 0xF8 h)

length_tail : (a : ℕ) → 0x80 ≤ a → a < 0xC0 → 0 ≡ length_from a
unfolding length_from
length_tail a g h = simp (le-ltb a 0x80 g, lt-ltb a 0xC0 h)

length_above : (a : ℕ) → 0xF8 ≤ a → 0 ≡ length_from a
unfolding length_from
length_above a g =
    simp (le-ltb a 0x80 (omega arith), le-ltb a 0xC0 (omega arith), le-ltb a 0xE0 (omega arith), le-ltb a 0xF0 (omega arith), le-ltb a 0xF8 g)

-- ---- the second byte's range: where the number is one of the row's

overlong2 : (a b : ℕ) → 0xC0 ≤ a → a < 0xC2 → decode2 a b ≡ None
unfolding decode2
overlong2 a b g h =
    let P : Option (ℕ × ℕ) → Type 0 = λ d. d ≡ None in
    cond_eq P (b / 64) 2 (λ e. cond_lt P (a % 32 * 64 + b % 64) 0x80 (λ k. refl) (λ k. absurd (omega arith))) (λ e. refl)

pub range2 : (a b : ℕ) → 0xC2 ≤ a → a < 0xE0 → continuation b ≡ true → len_of (decode2 a b) ≡ 2
unfolding decode2 continuation
range2 a b g h e = simp (e, le-ltb (a % 32 * 64 + b % 64) 0x80 (omega arith))

-- a byte that should continue the character and does not
pub no_third3 : (a b c : ℕ) → continuation b ≡ true → continuation c ≡ false → decode3 a b c ≡ None
unfolding decode3 continuation
no_third3 a b c eb ec = simp (eb, ec)

pub no_third4 : (a b c d : ℕ) → continuation b ≡ true → continuation c ≡ false → decode4 a b c d ≡ None
unfolding decode4 continuation
no_third4 a b c d eb ec = simp (eb, ec)

pub no_fourth4 : (a b c d : ℕ) → continuation b ≡ true → continuation c ≡ true → continuation d ≡ false → decode4 a b c d ≡ None
unfolding decode4 continuation
no_fourth4 a b c d eb ec ed = simp (eb, ec, ed)

-- no number of three bytes, whatever the third is
bad3 : (a b c : ℕ) → (b / 64 ≡ 2 → chosen3 (a % 16 * 4096 + b % 64 * 64 + c % 64) ≡ None) → decode3 a b c ≡ None
unfolding decode3
bad3 a b c f =
    let P : Option (ℕ × ℕ) → Type 0 = λ d. d ≡ None in
    cond_eq P (b / 64) 2 (λ e. cond_eq P (c / 64) 2 (λ k. f e) (λ k. refl)) (λ e. refl)

pub overlong3 : (a b c : ℕ) → a ≡ 0xE0 → b < 0xA0 → decode3 a b c ≡ None
unfolding chosen3
overlong3 a b c e h = bad3 a b c (λ t. simp (lt-ltb (a % 16 * 4096 + b % 64 * 64 + c % 64) 0x800 (omega arith)))

pub surrogate3 : (a b c : ℕ) → a ≡ 0xED → 0x9F < b → decode3 a b c ≡ None
unfolding chosen3
surrogate3 a b c e h =
    bad3 a b c (λ t.
    let s = a % 16 * 4096 + b % 64 * 64 + c % 64 in
    simp (le-ltb s 0x800 (omega arith), le-ltb s 0xD800 (omega arith), lt-ltb s 0xE000 (omega arith)))

pub range3 : (a b c : ℕ) → 0xE0 ≤ a → a < 0xF0 → (a ≡ 0xE0 → 0xA0 ≤ b) → (a ≡ 0xED → b ≤ 0x9F) → continuation b ≡ true → continuation c ≡ true → len_of (decode3 a b c) ≡ 3
unfolding decode3 chosen3 continuation
range3 a b c g h low high eb ec =
    let s = a % 16 * 4096 + b % 64 * 64 + c % 64 in
    let t = eqb-true (b / 64) 2 eb in
    let P : Option (ℕ × ℕ) → Type 0 = λ d. len_of d ≡ 3 in
    simp (eb, ec)
    (cond_lt P s 0x800 (λ k. absurd (let e : a ≡ 0xE0 = omega arith in omega (arith, low e))) λ k.
    cond_lt P s 0xD800 (λ l. refl) λ l.
    cond_lt P s 0xE000 (λ m. absurd (let e : a ≡ 0xED = omega arith in omega (arith, high e))) λ m. refl)

-- no number of four bytes, whatever the last two are
bad4 : (a b c d : ℕ) → (b / 64 ≡ 2 → chosen4 (a % 8 * 262144 + b % 64 * 4096 + c % 64 * 64 + d % 64) ≡ None) → decode4 a b c d ≡ None
unfolding decode4
bad4 a b c d f =
    let P : Option (ℕ × ℕ) → Type 0 = λ d. d ≡ None in
    cond_eq P (b / 64) 2 (λ e. cond_eq P (c / 64) 2 (λ k. cond_eq P (d / 64) 2 (λ l. f e) (λ l. refl)) (λ k. refl)) (λ e. refl)

pub overlong4 : (a b c d : ℕ) → a ≡ 0xF0 → b < 0x90 → decode4 a b c d ≡ None
unfolding chosen4
overlong4 a b c d e h =
    bad4 a b c d (λ t. simp (lt-ltb (a % 8 * 262144 + b % 64 * 4096 + c % 64 * 64 + d % 64) 0x10000 (omega arith)))

pub above4 : (a b c d : ℕ) → 0xF4 ≤ a → a < 0xF8 → (a ≡ 0xF4 → 0x8F < b) → decode4 a b c d ≡ None
unfolding chosen4
above4 a b c d g h high =
    bad4 a b c d (λ t.
    let s = a % 8 * 262144 + b % 64 * 4096 + c % 64 * 64 + d % 64 in
    let k : 0x110000 ≤ s = by_lt a 0xF5 (λ l. let e : a ≡ 0xF4 = omega arith in omega (arith, high e)) (λ l. omega arith) in
    simp (le-ltb s 0x10000 (omega arith), le-ltb s 0x110000 k))

pub range4 : (a b c d : ℕ) → 0xF0 ≤ a → a ≤ 0xF4 → (a ≡ 0xF0 → 0x90 ≤ b) → (a ≡ 0xF4 → b ≤ 0x8F) → continuation b ≡ true → continuation c ≡ true → continuation d ≡ true
    → len_of (decode4 a b c d) ≡ 4
unfolding decode4 chosen4 continuation
range4 a b c d g h low high eb ec ed =
    let s = a % 8 * 262144 + b % 64 * 4096 + c % 64 * 64 + d % 64 in
    let t = eqb-true (b / 64) 2 eb in
    let P : Option (ℕ × ℕ) → Type 0 = λ d. len_of d ≡ 4 in
    simp (eb, ec, ed)
    (cond_lt P s 0x10000 (λ k. absurd (let e : a ≡ 0xF0 = omega arith in omega (arith, low e))) λ k.
    cond_lt P s 0x110000 (λ l. refl) λ l. absurd (let e : a ≡ 0xF4 = omega arith in omega (arith, high e)))

-- ---- at an offset of a text

module _ (t : List ℕ) (at : ℕ) (within : at < length t) where
  pub len_one : get_or t at 0 < 0x80 → 1 ≡ len_of (decode (drop at t))
  len_one h = ap len_of (sym (decode_one t at 1 within (length_one (get_or t at 0) h) refl))

  pub len_no_first : 0x80 ≤ get_or t at 0 → get_or t at 0 < 0xC2 → 0 ≡ len_of (decode (drop at t))
  len_no_first g h =
      let a = get_or t at 0 in
      ap len_of (sym (by_lt a 0xC0
      (λ k. decode_none t at 0 within (length_tail a g k) (λ e. omega arith) (λ e. omega arith) (λ e. omega arith) (λ e. omega arith))
      (λ k. decode_two t at 2 within (length_two a k (omega arith)) refl ∙ overlong2 a (get_or t (at + 1) 0) k h)))

  pub none_above : 0xF4 < get_or t at 0 → decode (drop at t) ≡ None
  none_above g =
      let a = get_or t at 0 in
      by_lt a 0xF8
      (λ h. decode_four t at 4 within (length_four a (omega arith) h) refl ∙ above4 a _ _ _ (omega arith) h (λ e. absurd (omega arith)))
      (λ h. decode_none t at 0 within (length_above a h) (λ e. omega arith) (λ e. omega arith) (λ e. omega arith) (λ e. omega arith))
