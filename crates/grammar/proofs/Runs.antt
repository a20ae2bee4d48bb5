-- Laws of the run of bytes of a class at the front of a text, and of tests.
-- Assumes nothing.
use mathlib.Core.Path.{◌≡◌, refl, ap, ◌∙◌}
use mathlib.Core.Logic.{◌⊎◌, inl, inr}
use mathlib.Core.Bool.{Bool, true, false, cond, not, ◌&&◌, ◌||◌}
use mathlib.Core.List.{List, [], ◌∷◌, ◌++◌}
use Prim.Native.Nat.{ℕ, ◌+◌, ◌≤◌, suc-le-suc}
use native.Mathlib.Omega.{arith}
use lib.Dec.{T}
use lib.ListN.{length}
use Rattle.grammar.specs.Notation.{Class, all, begins, ◌∪◌, one, many, ◌·◌}
use Rattle.grammar.specs.Values.{before, after}
use Rattle.grammar.proofs.Scan.{take_while, drop_while, any}

-- ---- tests

pub T_true : (b : Bool) → T b → b ≡ true
T_true true t = refl
T_true false t = absurd t

pub true_T : (b : Bool) → b ≡ true → T b
true_T b e = rw e tt

pub not_t : (b : Bool) → T (not b) → T b → ⊥
not_t true n t = n
not_t false n t = t

pub T_not : (b : Bool) → (T b → ⊥) → T (not b)
T_not true n = n tt
T_not false n = tt

pub and_l : (a b : Bool) → T (a && b) → T a
and_l true b t = tt
and_l false b t = t

pub and_r : (a b : Bool) → T (a && b) → T b
and_r true b t = t
and_r false b t = absurd t

pub and_i : (a b : Bool) → T a → T b → T (a && b)
and_i true b s t = t
and_i false b s t = s

pub or_l : (a b : Bool) → T a → T (a || b)
or_l true b t = tt
or_l false b t = absurd t

pub or_r : (a b : Bool) → T b → T (a || b)
or_r true b t = tt
or_r false b t = t

pub or_e : (a b : Bool) → T (a || b) → T a ⊎ T b
or_e true b t = inl t
or_e false b t = inr t

pub F_false : (b : Bool) → (T b → ⊥) → b ≡ false
F_false true n = absurd (n tt)
F_false false n = refl

-- ---- the run and the rest

module _ (f : Class) where
  pub span_eq : (s : List ℕ) → s ≡ take_while f s ++ drop_while f s
  span_eq [] = refl
  span_eq (c ∷ s) = go (f c) (span_eq s)
    where
      go : (b : Bool) → s ≡ take_while f s ++ drop_while f s → c ∷ s ≡ cond b (c ∷ take_while f s) [] ++ cond b (drop_while f s) (c ∷ s)
      go true e = ap (λ (t : List ℕ). c ∷ t) e
      go false e = refl

  pub span_all : (s : List ℕ) → T (all f (take_while f s))
  span_all [] = tt
  span_all (c ∷ s) = go (f c) refl (span_all s)
    where
      go : (b : Bool) → f c ≡ b → T (all f (take_while f s)) → T (all f (cond b (c ∷ take_while f s) []))
      go true e h = and_i (f c) _ (true_T _ e) h
      go false e h = tt

  pub span_stop : (s : List ℕ) → T (begins f (drop_while f s)) → ⊥
  span_stop [] t = t
  span_stop (c ∷ s) t = go (f c) refl (span_stop s) t
    where
      go : (b : Bool) → f c ≡ b → (T (begins f (drop_while f s)) → ⊥) → T (begins f (cond b (drop_while f s) (c ∷ s))) → ⊥
      go true e h t = h t
      go false e h t = (rw e at t)

  -- a split whose first part is of the class, and whose second does not begin with the class, is the run and the rest
  pub span_only : (u v : List ℕ) → T (all f u) → (T (begins f v) → ⊥) → (take_while f (u ++ v) ≡ u) × (drop_while f (u ++ v) ≡ v)
  span_only [] [] a n = (refl, refl)
  span_only [] (c ∷ v) a n = go (f c) refl
    where
      go : (b : Bool) → f c ≡ b → (cond b (c ∷ take_while f v) [] ≡ []) × (cond b (drop_while f v) (c ∷ v) ≡ c ∷ v)
      go true e = absurd (n (true_T _ e))
      go false e = (refl, refl)
  span_only (c ∷ u) v a n =
      let h = span_only u v (and_r (f c) _ a) n in
      let e = T_true (f c) (and_l (f c) (all f u) a) in
      (rw e (ap (λ (t : List ℕ). c ∷ t) h.0), rw e h.1)

  -- no split has a longer first part of the class
  pub span_most : (u v : List ℕ) → T (all f u) → length u ≤ length (take_while f (u ++ v))
  span_most [] v a = omega arith
  span_most (c ∷ u) v a =
      let h = span_most u v (and_r (f c) _ a) in
      let e = T_true (f c) (and_l (f c) (all f u) a) in
      rw e (suc-le-suc h)

pub all_append : (f : Class) (u v : List ℕ) → T (all f u) → T (all f v) → T (all f (u ++ v))
all_append f [] v a b = b
all_append f (c ∷ u) v a b = and_i (f c) _ (and_l (f c) _ a) (all_append f u v (and_r (f c) _ a) b)

-- a run with a digit in it is `(d|_)^* d (d|_)^*`
pub mixed : (d g : Class) (u : List ℕ) → T (all (d ∪ g) u) → T (any d u) → (many (d ∪ g) · one d · many (d ∪ g)) u
mixed d g [] a n = absurd n
mixed d g (c ∷ u) a n = go (d c) refl (mixed d g u (and_r ((d ∪ g) c) _ a))
  where
    go : (b : Bool) → d c ≡ b → (T (any d u) → (many (d ∪ g) · one d · many (d ∪ g)) u) → (many (d ∪ g) · one d · many (d ∪ g)) (c ∷ u)
    go true e ih = ([], c ∷ u, refl, tt, (c ∷ [], u, refl, (c, refl, true_T _ e), and_r ((d ∪ g) c) _ a))
    go false e ih =
        let m = ih (rw e at n) in
        (c ∷ m.0, m.1, ap (λ (t : List ℕ). c ∷ t) m.2, and_i ((d ∪ g) c) _ (and_l ((d ∪ g) c) (all (d ∪ g) u) a) m.3, m.4)

any_right : (d : Class) (x y : List ℕ) → T (any d y) → T (any d (x ++ y))
any_right d [] y h = h
any_right d (c ∷ x) y h = or_r (d c) _ (any_right d x y h)

pub mixed_all : (d g : Class) (u : List ℕ) → (many (d ∪ g) · one d · many (d ∪ g)) u → T (all (d ∪ g) u) × T (any d u)
mixed_all d g u m =
    let r = m.4 in
    let k = r.3 in
    let e : u ≡ m.0 ++ (k.0 ∷ r.1) = m.2 ∙ rw (r.2, k.1) in
    rw e
    (all_append (d ∪ g) m.0 _ m.3 (and_i ((d ∪ g) k.0) _ (or_l (d k.0) _ k.2) r.4), any_right d m.0 _ (or_l (d k.0) _ k.2))

pub any_left : (d : Class) (x y : List ℕ) → T (any d x) → T (any d (x ++ y))
any_left d [] y h = absurd h
any_left d (c ∷ x) y h =
    elim (or_e (d c) (any d x) h) [ inl t ↦ or_l (d c) _ t | inr t ↦ or_r (d c) _ (any_left d x y t) ]

-- ---- the first byte of a set

module _ (f g : Class) (apart : (k : ℕ) → T (g k) → T (f k) → ⊥) where
  -- after bytes that are not of the set it is certain
  pub before_stop : (d : List ℕ) (c : ℕ) (x : List ℕ) → T (all g d) → T (f c) → (before f (d ++ (c ∷ x)) ≡ d) × (after f (d ++ (c ∷ x)) ≡ x)
  before_stop [] c x a t = let e = T_true (f c) t in (rw e, rw e)
  before_stop (k ∷ d) c x a t =
      let h = before_stop d c x (and_r (g k) _ a) t in
      let e = F_false (f k) (apart k (and_l (g k) (all g d) a)) in
      (rw e (ap (λ (l : List ℕ). k ∷ l) h.0), rw e h.1)

  -- or there is none
  pub before_none : (d : List ℕ) → T (all g d) → (before f d ≡ d) × (after f d ≡ [])
  before_none [] a = (refl, refl)
  before_none (k ∷ d) a =
      let h = before_none d (and_r (g k) _ a) in
      let e = F_false (f k) (apart k (and_l (g k) (all g d) a)) in
      (rw e (ap (λ (l : List ℕ). k ∷ l) h.0), rw e h.1)
