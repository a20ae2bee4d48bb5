-- Laws of `count`, and of the count within a run: how a loop that counts goes on, and what it has found.
-- Assumes nothing.
use mathlib.Core.Path.{◌≡◌, ap, ◌∙◌}
use mathlib.Core.Bool.{Bool, true, false, cond}
use mathlib.Core.List.{List, [], ◌∷◌, ◌++◌}
use Prim.Native.Nat.{ℕ, zero, suc, ◌+◌, ◌-◌, ◌≤◌, ◌<◌}
use native.Mathlib.Nat.{add_assoc, add-sub_cancel_left, sub_self}
use native.Mathlib.Numerals.{add-one}
use native.Mathlib.Omega.{arith}
use lib.ListN.{length, get_or, take, drop, drop_of_length-le, length-drop}
use lib.Seq.{drop-cons, drop-drop, take-add}
use Rattle.scan.specs.Run.{run, count, count_not}
use Rattle.scan.specs.Part.{part}
use Rattle.scan.proofs.Cases.{cond_in}

pub count_le : (p : ℕ → Bool) (s : List ℕ) → count p s ≤ length s
count_le p [] = omega arith
count_le p (b ∷ s) = let h = count_le p s in cond_in (λ (n : ℕ). n + count p s ≤ length (b ∷ s)) (p b) (λ e. omega arith) (λ e. omega arith)

pub count_append : (p : ℕ → Bool) (s t : List ℕ) → count p (s ++ t) ≡ count p s + count p t
count_append p [] t = omega arith
count_append p (b ∷ s) t = rw (count_append p s t, add_assoc)

-- of two parts that follow one another
pub count_parts : (p : ℕ → Bool) (s : List ℕ) (a b e : ℕ) → a ≤ b → b ≤ e → count p (part a e s) ≡ count p (part a b s) + count p (part b e s)
count_parts p s a b e h g =
    let sum : e - a ≡ b - a + (e - b) = omega arith in
    let from : a + (b - a) ≡ b = omega arith in
    rw (sum, take-add, count_append, drop-drop, from)

pub count_none : (p : ℕ → Bool) (s : List ℕ) (a : ℕ) → count p (part a a s) ≡ 0
count_none p s a = rw sub_self

-- of one byte
pub count_one : (p : ℕ → Bool) (s : List ℕ) (a : ℕ) → a < length s → count p (part a (a + 1) s) ≡ cond (p (get_or s a 0)) 1 0
count_one p s a h = rw (add-sub_cancel_left, drop-cons s a 0) (omega arith)

-- a count goes on by one byte
pub count_more : (p : ℕ → Bool) (s : List ℕ) (i n : ℕ) → i < length s → n + cond (p (get_or s i 0)) 1 0 + count p (drop (i + 1) s) ≡ n + count p (drop i s)
count_more p s i n h = rw (drop-cons s i 0, add-one) (omega arith)

pub count_end : (p : ℕ → Bool) (s : List ℕ) (i n : ℕ) → length s ≤ i → n + count p (drop i s) ≡ n
count_end p s i n h = rw (drop_of_length-le s h) (omega arith)

-- ---- the bytes that pass p within the run of q

abbrev pub tally : (ℕ → Bool) → (ℕ → Bool) → List ℕ → ℕ
tally q p s = count p (take (run q s) s)

-- goes on by one byte
pub tally_more : (q p : ℕ → Bool) (s : List ℕ) (i n : ℕ) → i < length s → q (get_or s i 0) ≡ true
    → n + cond (p (get_or s i 0)) 1 0 + tally q p (drop (i + 1) s) ≡ n + tally q p (drop i s)
tally_more q p s i n h t = rw (drop-cons s i 0, t, add-one) (omega arith)

pub tally_stop : (q p : ℕ → Bool) (s : List ℕ) (i n : ℕ) → i < length s → q (get_or s i 0) ≡ false → n + tally q p (drop i s) ≡ n
tally_stop q p s i n h t = rw (drop-cons s i 0, t) (omega arith)

pub tally_end : (q p : ℕ → Bool) (s : List ℕ) (i n : ℕ) → length s ≤ i → n + tally q p (drop i s) ≡ n
tally_end q p s i n h = rw (drop_of_length-le s h) (omega arith)

-- goes on by a block with no byte outside the run
tally_clear : (q p : ℕ → Bool) (m : ℕ) (s : List ℕ) → count_not q (take m s) ≡ 0 → m ≤ length s → tally q p s ≡ count p (take m s) + tally q p (drop m s)
tally_clear q p zero s h l = omega arith
tally_clear q p (suc m) [] h l = absurd (omega arith)
tally_clear q p (suc m) (b ∷ s) h l = by_test (q b) (tally_clear q p m s) h
  where
    by_test : (t : Bool) → (count_not q (take m s) ≡ 0 → m ≤ length s → tally q p s ≡ count p (take m s) + tally q p (drop m s)) → cond t 0 1 + count_not q (take m s) ≡ 0
        → count p (take (cond t (suc (run q s)) 0) (b ∷ s)) ≡ cond (p b) 1 0 + count p (take m s) + tally q p (drop m s)
    by_test true f g = omega (arith, f (omega arith) (omega arith))
    by_test false f g = absurd (omega arith)

pub tally_part : (q p : ℕ → Bool) (s : List ℕ) (i e n : ℕ) → count_not q (take (e - i) (drop i s)) ≡ 0 → i ≤ e → e ≤ length s
    → n + count p (take (e - i) (drop i s)) + tally q p (drop e s) ≡ n + tally q p (drop i s)
tally_part q p s i e n h l g =
    let same : i + (e - i) ≡ e = omega arith in
    let rest : drop (e - i) (drop i s) ≡ drop e s = drop-drop (e - i) i s ∙ ap (λ (k : ℕ). drop k s) same in
    rw (tally_clear q p (e - i) (drop i s) h (omega (arith, length-drop i s)), rest, add_assoc)
