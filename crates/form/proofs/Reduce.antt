-- The reduced power of ten: a number equals its reduced one, and two reduced numbers of equal value are the same.
-- Assumes nothing.
use mathlib.Core.Path.{◌≡◌, refl, sym, ap, ◌∙◌}
use mathlib.Core.Logic.{◌↔◌, ◌≢◌}
use mathlib.Core.Bool.{Bool, true, false, cond}
use Prim.Native.Nat.{ℕ, zero, suc, ◌+◌, ◌*◌, ◌^◌, ◌-◌, ◌/◌, ◌%◌, ◌≤◌, ◌<◌}
use native.Mathlib.Nat.{mul_assoc, mul_comm, mul_left_comm, mul_right_comm, pow-suc, pow-zero, mul-one, eq_of_mul-eq-mul_right, one-le-pow, zero-mul}
use native.Mathlib.Omega.{arith}
use lib.Pow.{pow-add}
use lib.Dec.{eqb}
use borrow.Author.Tests.{eqb-true, eqb-false}
use Rattle.grammar.specs.Decimal.{Decimal, SameValue}
use Rattle.form.specs.Reduced.{Reduced, TooFar, zeros, strip, reduce}

-- two values are equal where the cross products are
abbrev Cross : Decimal → Decimal → Type 0
Cross a b = a.coef * 10 ^ (a.up + b.down) ≡ b.coef * 10 ^ (b.up + a.down)

ten_pos : (n : ℕ) → 0 < 10 ^ n
ten_pos n = one-le-pow n 10 (omega arith)

cross : (a b : Decimal) → SameValue a b → Cross a b
cross a b s =
    let t = s.0 in
    let w = s.1 in
    let chain = ap (λ (x : ℕ). x * 10 ^ b.down) s.2 ∙ mul_right_comm w (10 ^ a.down) (10 ^ b.down)
    ∙ ap (λ (x : ℕ). x * 10 ^ a.down) (sym s.3) in
    eq_of_mul-eq-mul_right (10 ^ t) (ten_pos t) _ _
    (simp (pow-add, mul_assoc, mul_comm, mul_left_comm) (simp (pow-add, mul_assoc, mul_comm) at chain))

uncross : (a b : Decimal) → Cross a b → SameValue a b
uncross a b e = (
  a.down + b.down,
  a.coef * 10 ^ (a.up + b.down),
  simp (pow-add, mul_assoc, mul_comm, mul_left_comm),
  rw e (simp (pow-add, mul_assoc, mul_comm, mul_left_comm)),
)

-- ---- the reduced number has the value

-- n is what is left of it, with its zeros put back
strip_zeros : (f n : ℕ) → n ≡ strip f n * 10 ^ zeros f n
unfolding strip zeros
strip_zeros zero n = rw (pow-zero, mul-one)
strip_zeros (suc f) n = go (eqb (n % 10) 0) refl (strip_zeros f (n / 10))
  where
    go : (b : Bool) → eqb (n % 10) 0 ≡ b → n / 10 ≡ strip f (n / 10) * 10 ^ zeros f (n / 10)
        → n ≡ cond b (strip f (n / 10)) n * 10 ^ cond b (suc (zeros f (n / 10))) zero
    go true e ih =
        let m : n % 10 ≡ 0 = eqb-true _ _ e in
        let h : n ≡ n / 10 * 10 = omega arith in
        h ∙ ap (λ (x : ℕ). x * 10) ih ∙ mul_assoc _ _ 10 ∙ ap (λ (x : ℕ). strip f (n / 10) * x) (sym (pow-suc 10 (zeros f (n / 10))))
    go false e ih = rw (pow-zero, mul-one)

-- what is left does not end in zero
strip_last : (f n : ℕ) → n ≤ f → 0 < n → 0 < strip f n % 10
unfolding strip
strip_last zero n h p = omega arith
strip_last (suc f) n h p = go (eqb (n % 10) 0) refl (strip_last f (n / 10))
  where
    go : (b : Bool) → eqb (n % 10) 0 ≡ b → (n / 10 ≤ f → 0 < n / 10 → 0 < strip f (n / 10) % 10) → 0 < cond b (strip f (n / 10)) n % 10
    go true e ih = let m : n % 10 ≡ 0 = eqb-true _ _ e in ih (omega arith) (omega arith)
    go false e ih = let m : n % 10 ≢ 0 = eqb-false _ _ e in omega arith

module _ (d : Decimal) where
  abbrev z : ℕ
  z = zeros d.coef d.coef

  -- the two cases of `reduce`
  abbrev chosen : Bool → Decimal
  chosen b =
      cond b (record { coef = 0; up = 0; down = 0 })
      (record { coef = strip d.coef d.coef; up = d.up + z - d.down; down = d.down - (d.up + z) })

  reduce_cross : Cross d (reduce d)
  unfolding reduce
  reduce_cross = go (eqb d.coef 0) refl
    where
      go : (b : Bool) → eqb d.coef 0 ≡ b → Cross d (chosen b)
      go true e =
          let h : d.coef ≡ 0 = eqb-true _ _ e in
          rw h (zero-mul _ ∙ sym (zero-mul _))
      go false e =
          let s = strip d.coef d.coef in
          let q : z + (d.up + (d.down - (d.up + z))) ≡ d.up + z - d.down + d.down = omega arith in
          ap (λ (x : ℕ). x * 10 ^ (d.up + (d.down - (d.up + z)))) (strip_zeros d.coef d.coef) ∙ mul_assoc s (10 ^ z) _
          ∙ ap (λ (x : ℕ). s * x) (sym (pow-add 10 z _)) ∙ ap (λ (x : ℕ). s * 10 ^ x) q

  pub reduce_reduced : Reduced (reduce d)
  unfolding reduce
  reduce_reduced = go (eqb d.coef 0) refl
    where
      go : (b : Bool) → eqb d.coef 0 ≡ b → Reduced (chosen b)
      go true e = record { last = omega arith; one_sign = refl; none = λ _. (refl, refl) }
      go false e =
          let n : d.coef ≢ 0 = eqb-false _ _ e in
          let l = strip_last d.coef d.coef (omega arith) (omega arith) in
          record { last = λ _. l; one_sign = omega arith; none = λ s. absurd (omega (arith, s, l)) }

  -- A number equals its reduced one, as 01 says "equal in value".
  pub reduce_value : SameValue d (reduce d)
  reduce_value = uncross d (reduce d) reduce_cross

-- ---- two reduced numbers of equal value are the same

same_power : (c d i j : ℕ) → 0 < c % 10 → 0 < d % 10 → c * 10 ^ i ≡ d * 10 ^ j → (c ≡ d) × (i ≡ j)
same_power c d zero zero p q e = (omega arith, refl)
same_power c d zero (suc j) p q e =
    let h : c ≡ d * 10 ^ j * 10 = sym (mul-one c) ∙ e ∙ ap (λ (x : ℕ). d * x) (pow-suc 10 j) ∙ sym (mul_assoc _ _ _) in
    absurd (omega arith)
same_power c d (suc i) zero p q e =
    let h : d ≡ c * 10 ^ i * 10 = sym (mul-one d) ∙ sym e ∙ ap (λ (x : ℕ). c * x) (pow-suc 10 i) ∙ sym (mul_assoc _ _ _) in
    absurd (omega arith)
same_power c d (suc i) (suc j) p q e =
    let h : c * 10 ^ i * 10 ≡ d * 10 ^ j * 10 =
    mul_assoc _ _ _ ∙ ap (λ (x : ℕ). c * x) (sym (pow-suc 10 i)) ∙ e ∙ ap (λ (x : ℕ). d * x) (pow-suc 10 j) ∙ sym (mul_assoc _ _ _) in
    let r = same_power c d i j p q (omega arith) in
    (r.0, ap suc r.1)

-- a coefficient that is zero makes the other zero
zero_coef : (a b : Decimal) → Cross a b → a.coef ≡ 0 → b.coef ≡ 0
zero_coef a b e z =
    eq_of_mul-eq-mul_right (10 ^ (b.up + a.down)) (ten_pos _) _ _
    (sym e ∙ ap (λ (x : ℕ). x * 10 ^ (a.up + b.down)) z ∙ zero-mul _ ∙ sym (zero-mul _))

cross_unique : (a b : Decimal) → Reduced a → Reduced b → Cross a b → a ≡ b
cross_unique a b ra rb e = go (eqb a.coef 0) refl
  where
    build : a.coef ≡ b.coef → a.up ≡ b.up → a.down ≡ b.down → a ≡ b
    build p q r = λ i. record { coef = p i; up = q i; down = r i }

    go : (t : Bool) → eqb a.coef 0 ≡ t → a ≡ b
    go true h =
        let za : a.coef ≡ 0 = eqb-true _ _ h in
        let zb : b.coef ≡ 0 = zero_coef a b e za in
        let na = ra.none za in
        let nb = rb.none zb in
        build (omega arith) (omega arith) (omega arith)
    go false h =
        let na : a.coef ≢ 0 = eqb-false _ _ h in
        let nb : b.coef ≢ 0 = λ z. na (zero_coef b a (sym e) z) in
        let s = same_power a.coef b.coef _ _ (ra.last (omega arith)) (rb.last (omega arith)) e in
        let oa = ra.one_sign in
        let ob = rb.one_sign in
        build s.0 (omega arith) (omega arith)

pub unique : (a b : Decimal) → Reduced a → Reduced b → SameValue a b → a ≡ b
unique a b ra rb s = cross_unique a b ra rb (cross a b s)

-- ---- equal values, equal reduced numbers

shuffle : (c x y z : ℕ) → c * 10 ^ (x + y) * 10 ^ z ≡ c * 10 ^ (x + z) * 10 ^ y
shuffle c x y z = simp (pow-add, mul_assoc, mul_comm)

cross_trans : (a b c : Decimal) → Cross a b → Cross b c → Cross a c
cross_trans a b c p q =
    eq_of_mul-eq-mul_right (10 ^ b.down) (ten_pos _) _ _
    (shuffle a.coef a.up c.down b.down ∙ ap (λ (x : ℕ). x * 10 ^ c.down) p
    ∙ shuffle b.coef b.up a.down c.down ∙ ap (λ (x : ℕ). x * 10 ^ a.down) q ∙ shuffle c.coef c.up b.down a.down)

-- Two numbers are equal in value exactly when their reduced ones are the same.
pub same_iff : (a b : Decimal) → SameValue a b ↔ (reduce a ≡ reduce b)
same_iff a b = (
  λ s. cross_unique (reduce a) (reduce b) (reduce_reduced a) (reduce_reduced b)
      (cross_trans (reduce a) a (reduce b) (sym (reduce_cross a)) (cross_trans a b (reduce b) (cross a b s) (reduce_cross b))),
  λ e. uncross a b (cross_trans a (reduce a) b (reduce_cross a) (rw e (sym (reduce_cross b)))),
)

-- a reduced number is its own
pub reduce_again : (d : Decimal) → Reduced d → reduce d ≡ d
reduce_again d r = cross_unique (reduce d) d (reduce_reduced d) r (sym (reduce_cross d))

-- what `TooFar` says of some reduced number, it says of `reduce`
pub too_far : (d : Decimal) → TooFar d ↔ (1000000 < (reduce d).up + (reduce d).down)
too_far d = (
  λ t. let e : reduce d ≡ t.0 = (same_iff d t.0).0 t.2 ∙ reduce_again t.0 t.1 in rw e t.3,
  λ h. (reduce d, reduce_reduced d, reduce_value d, h),
)
