-- Laws of `decimal`: its last digit and the digits before it, its length, its bytes, and a buffer filled with it from the back.
-- Assumes nothing.
use mathlib.Core.Path.{◌≡◌, refl, ap, sym, ◌∙◌}
use mathlib.Core.Bool.{Bool, true, false}
use mathlib.Core.List.{List, [], ◌∷◌, ◌++◌, append_assoc}
use Prim.Native.Nat.{ℕ, zero, suc, ◌+◌, ◌-◌, ◌*◌, ◌/◌, ◌%◌, ◌^◌, ◌≤◌, ◌<◌}
use native.Mathlib.Nat.{pow-suc}
use native.Mathlib.Numerals.{add-one}
use native.Mathlib.Omega.{arith}
use lib.Dec.{ltb}
use lib.ListN.{length, take, drop, set, get_or, length-append, length-take, take-append-drop, get_or-append}
use lib.Seq.{take-length, take-suc, drop-cons, set_at, length-take-le, drop_at, take_at, get_or-take, get_or_at, take-take}
use borrow.Author.Tests.{lt-ltb, le-ltb, ltb-true, ltb-false}
use Rattle.std.specs.Prelude.{Option, Some, None}
use Rattle.std.specs.Option.{IfNone, IfSome, MatchOption}
use Rattle.std.proofs.Math.Nat.{one-le-pow}
use Rattle.buffer.specs.Buffer.{over}
use Rattle.buffer.specs.Digits.{decimal_below, decimal}

-- any bound above n gives the same digits
enough : (k m n : ℕ) → n < k → n < m → decimal_below k n ≡ decimal_below m n
enough zero m n h g = absurd (omega arith)
enough (suc k) zero n h g = absurd (omega arith)
enough (suc k) (suc m) n h g = split (ltb n 10) refl (λ l. enough k m (n / 10) (omega arith) (omega arith))
  where
    split : (t : Bool) → ltb n 10 ≡ t → (10 ≤ n → decimal_below k (n / 10) ≡ decimal_below m (n / 10)) → decimal_below (suc k) n ≡ decimal_below (suc m) n
    split true e again = simp e
    split false e again = simp (e, again (ltb-false n 10 e))

pub last : (n : ℕ) → n < 10 → decimal n ≡ (48 + n) ∷ []
unfolding decimal
last n h = simp (lt-ltb n 10 h)

pub more : (n : ℕ) → 10 ≤ n → decimal n ≡ decimal (n / 10) ++ ((48 + n % 10) ∷ [])
unfolding decimal
more n h = simp (le-ltb n 10 h, enough n (suc (n / 10)) (n / 10) (omega arith) (omega arith))

-- what holds of one digit, and goes on by a digit, holds of every number and its digits
module _ (P : ℕ → List ℕ → Type 0)
    (one : (n : ℕ) → n < 10 → P n ((48 + n) ∷ []))
    (next : (n : ℕ) → 10 ≤ n → P (n / 10) (decimal (n / 10)) → P n (decimal (n / 10) ++ ((48 + n % 10) ∷ []))) where
  below : (k n : ℕ) → n < k → P n (decimal n)
  below zero n h = absurd (omega arith)
  below (suc k) n h = split (ltb n 10) (ltb-true n 10) (ltb-false n 10) (λ l. below k (n / 10) (omega arith))
    where
      split : (t : Bool) → (t ≡ true → n < 10) → (t ≡ false → 10 ≤ n) → (10 ≤ n → P (n / 10) (decimal (n / 10))) → P n (decimal n)
      split true a b again = rw (last n (a refl)) (one n (a refl))
      split false a b again = rw (more n (b refl)) (next n (b refl) (again (b refl)))

  pub by_digits : (n : ℕ) → P n (decimal n)
  by_digits n = below (suc n) n (omega arith)

-- ---- its length

pub more_length : (n : ℕ) → 10 ≤ n → length (decimal n) ≡ length (decimal (n / 10)) + 1
more_length n h = rw (more n h) (simp length-append)

pub some : (n : ℕ) → 1 ≤ length (decimal n)
some = by_digits (λ n l. 1 ≤ length l) (λ n h. omega arith) (λ n h p. simp length-append (omega arith))

-- by the greatest power of ten in it
pub by_power : (k n : ℕ) → 10 ^ k ≤ n → n < 10 * 10 ^ k → length (decimal n) ≡ k + 1
by_power zero n l h = rw (last n (omega (arith, h))) refl
by_power (suc k) n l h =
    let some = one-le-pow k 10 (omega arith) in
    let low = rw pow-suc at l in
    let high = rw pow-suc at h in
    omega (arith, more_length n (omega (arith, some, low)), by_power k (n / 10) (omega (arith, low)) (omega (arith, high)))

-- where that power may not be: of zero there is none
pub measured : (n m : ℕ) (o : Option ℕ) (Q : ℕ → Type 0) → IfNone o (n ≡ 0) → IfSome o (λ k. 10 ^ k ≤ n) → IfSome o (λ k. n < 10 * 10 ^ k)
    → MatchOption o (m ≡ 1) Q → ((k : ℕ) → Q k → m ≡ k + 1) → m ≡ length (decimal n)
measured n m (Some k) Q z l h e q = q k e ∙ sym (by_power k n l h)
measured n m None Q z l h e q = e ∙ sym (ap (λ (u : List ℕ). length u) (last n (omega (arith, z))))

pub decimal_short : (k n : ℕ) → 0 < k → n < 10 ^ k → length (decimal n) ≤ k
decimal_short zero n p h = absurd (omega arith)
decimal_short (suc zero) n p h = rw (last n h) (omega arith)
decimal_short (suc (suc k)) n p h = split (ltb n 10) (ltb-true n 10) (ltb-false n 10) (λ l. decimal_short (suc k) (n / 10) (omega arith) (omega (arith, rw pow-suc at h)))
  where
    split : (t : Bool) → (t ≡ true → n < 10) → (t ≡ false → 10 ≤ n) → (10 ≤ n → length (decimal (n / 10)) ≤ suc k) → length (decimal n) ≤ suc (suc k)
    split true a b again = rw (last n (a refl)) (omega arith)
    split false a b again = omega (arith, more_length n (b refl), again (b refl))

pub decimal_u64 : (n : ℕ) → n < 18446744073709551616 → length (decimal n) ≤ 20
decimal_u64 n h = decimal_short 20 n (omega arith) (omega arith)

-- ---- its bytes

-- each is `0` to `9`
pub digits : (n i : ℕ) → i < length (decimal n) → (48 ≤ get_or (decimal n) i 0) × (get_or (decimal n) i 0 ≤ 57)
digits n = by_digits (λ n l. (i : ℕ) → i < length l → (48 ≤ get_or l i 0) × (get_or l i 0 ≤ 57)) first then n
  where
    first : (n : ℕ) → n < 10 → (i : ℕ) → i < 1 → (48 ≤ get_or ((48 + n) ∷ []) i 0) × (get_or ((48 + n) ∷ []) i 0 ≤ 57)
    first n h zero g = (omega arith, omega arith)
    first n h (suc i) g = absurd (omega arith)

    put : (l : List ℕ) (d i : ℕ) → ((j : ℕ) → j < length l → (48 ≤ get_or l j 0) × (get_or l j 0 ≤ 57)) → d < 10
        → i < length (l ++ ((48 + d) ∷ [])) → (48 ≤ get_or (l ++ ((48 + d) ∷ [])) i 0) × (get_or (l ++ ((48 + d) ∷ [])) i 0 ≤ 57)
    put [] d i f h g = first d h i g
    put (x ∷ l) d zero f h g = f 0 (omega arith)
    put (x ∷ l) d (suc i) f h g = put l d i (λ j k. f (suc j) (omega arith)) h (omega arith)

    then : (n : ℕ) → 10 ≤ n → ((i : ℕ) → i < length (decimal (n / 10)) → (48 ≤ get_or (decimal (n / 10)) i 0) × (get_or (decimal (n / 10)) i 0 ≤ 57))
        → (i : ℕ) → i < length (decimal (n / 10) ++ ((48 + n % 10) ∷ []))
        → (48 ≤ get_or (decimal (n / 10) ++ ((48 + n % 10) ∷ [])) i 0) × (get_or (decimal (n / 10) ++ ((48 + n % 10) ∷ [])) i 0 ≤ 57)
    then n h f i g = put (decimal (n / 10)) (n % 10) i f (omega arith) g

-- the first is `0` only where the number is
pub first_zero : (n : ℕ) → get_or (decimal n) 0 0 ≡ 48 → n ≡ 0
first_zero =
    by_digits (λ n l. get_or l 0 0 ≡ 48 → n ≡ 0) (λ n h e. omega arith)
    (λ n h p e. absurd (omega (arith, p (sym (get_or-append (decimal (n / 10)) ((48 + n % 10) ∷ []) 0 0 (some (n / 10))) ∙ e))))

-- ---- a list filled from the back

-- a below i, and b from there on
abbrev pub mix : ℕ → List ℕ → List ℕ → List ℕ
mix i a b = take i a ++ drop i b

-- one element more, at the front of what is filled
mix_less : (i : ℕ) (a b : List ℕ) (x : ℕ) → i < length a → i < length b → get_or b i 0 ≡ x → set (mix (i + 1) a b) i x ≡ mix i a b
mix_less i a b x h k g =
    rw (add-one, take-suc a i 0 h, append_assoc)
    (set_at (take i a) (get_or a i 0) (drop (suc i) b) x i (length-take-le i a (omega arith))
    ∙ ap (λ (l : List ℕ). take i a ++ l) (rw (drop-cons b i 0 k, g)))

-- the digits of n from the i-th on are written, and those before are the digits of `rest`
pub record Filled (n rest i : ℕ) (l out : List ℕ) : Type 0 where
  pub count : i ≡ length (decimal rest)
  pub front : decimal rest ≡ take i (decimal n)
  pub bytes : out ≡ mix i l (over (decimal n) l)

pub filled_start : (n k : ℕ) (l : List ℕ) → k ≡ length (decimal n) → Filled n n k l l
unfolding over
filled_start n k l e = record {
  count = e;
  front = rw e (sym (take-length (decimal n)));
  bytes = rw (drop_at (decimal n) (drop (length (decimal n)) l) k (sym e), e) (sym (take-append-drop (length (decimal n)) l));
}

module _ (n j : ℕ) (l : List ℕ) (d : ℕ) (p : List ℕ) (at : length p ≡ j) (is : p ++ (d ∷ []) ≡ take (j + 1) (decimal n)) where
  inside : j < length (decimal n)
  inside = omega (arith, simp (length-append, length-take) at (ap length is))

  digit : get_or (decimal n) j 0 ≡ d
  digit = sym (get_or-take (j + 1) (decimal n) j 0 (omega arith)) ∙ rw (← is) (get_or_at p d [] 0 j at)

  -- the digit d is at the place j of the whole
  placed : (room : length (decimal n) ≤ length l) → set (mix (j + 1) l (over (decimal n) l)) j d ≡ mix j l (over (decimal n) l)
  unfolding over
  placed room =
      mix_less j l (decimal n ++ drop (length (decimal n)) l) d (omega (arith, inside)) (simp length-append (omega (arith, inside)))
      (get_or-append (decimal n) (drop (length (decimal n)) l) 0 j inside ∙ digit)

  before : p ≡ take j (decimal n)
  before = sym (take_at p (d ∷ []) j at) ∙ rw is (take-take j (j + 1) (decimal n) (omega arith))

filled_more : {n rest i : ℕ} {l out : List ℕ} → 10 ≤ rest → length (decimal n) ≤ length l → Filled n rest i l out → Filled n (rest / 10) (i - 1) l (set out (i - 1) (48 + rest % 10))
filled_more {n} {rest} {i} {l} {out} h room f = record {
  count = e;
  front = before n (i - 1) l (48 + rest % 10) (decimal (rest / 10)) (sym e) is;
  bytes = rw f.bytes (rw back at (placed n (i - 1) l (48 + rest % 10) (decimal (rest / 10)) (sym e) is room));
}
  where
    e : i - 1 ≡ length (decimal (rest / 10))
    e = omega (arith, f.count, more_length rest h)

    back : (i - 1) + 1 ≡ i
    back = omega (arith, f.count, more_length rest h)

    is : decimal (rest / 10) ++ ((48 + rest % 10) ∷ []) ≡ take ((i - 1) + 1) (decimal n)
    is = rw back (sym (more rest h) ∙ f.front)

filled_last : {n rest i : ℕ} {l out : List ℕ} → rest < 10 → length (decimal n) ≤ length l → Filled n rest i l out → set out 0 (48 + rest) ≡ over (decimal n) l
filled_last {n} {rest} {i} {l} {out} h room f =
    rw (f.bytes, one) (placed n 0 l (48 + rest) [] refl (sym (last rest h) ∙ rw (← one) f.front) room)
  where
    one : i ≡ 0 + 1
    one = f.count ∙ rw (last rest h) refl

-- one digit more, written before those that stand already; the first digit ends it
pub filled_turn : {n rest i : ℕ} {l out : List ℕ} → length (decimal n) ≤ length l → Filled n rest i l out
    → (0 < i - 1 → Filled n (rest / 10) (i - 1) l (set out (i - 1) (48 + rest % 10))) × (i - 1 ≡ 0 → set out (i - 1) (48 + rest % 10) ≡ over (decimal n) l)
filled_turn {n} {rest} {i} {l} {out} room f = split (ltb rest 10) (ltb-true rest 10) (ltb-false rest 10)
  where
    split : (t : Bool) → (t ≡ true → rest < 10) → (t ≡ false → 10 ≤ rest)
        → (0 < i - 1 → Filled n (rest / 10) (i - 1) l (set out (i - 1) (48 + rest % 10))) × (i - 1 ≡ 0 → set out (i - 1) (48 + rest % 10) ≡ over (decimal n) l)
    split true a b =
        let h = a refl in
        let one : i ≡ 1 = f.count ∙ rw (last rest h) refl in
        let digit : rest % 10 ≡ rest = omega arith in
        (λ p. absurd (omega arith), λ z. rw (z, digit) (filled_last h room f))
    split false a b =
        let g = filled_more (b refl) room f in
        (λ p. g, λ z. absurd (omega (arith, g.count, some (rest / 10))))
