-- Laws of `run`: how a loop that counts goes on, what it has found, and how a run splits a list.
-- Assumes nothing.
use mathlib.Core.Path.{◌≡◌, refl, ap}
use mathlib.Core.Bool.{Bool, true, false, cond}
use mathlib.Core.List.{List, [], ◌∷◌, ◌++◌}
use Prim.Native.Nat.{ℕ, zero, suc, ◌+◌, ◌-◌, ◌≤◌, ◌<◌}
use native.Mathlib.Nat.{add-suc}
use native.Mathlib.Numerals.{add-one}
use native.Mathlib.Omega.{arith}
use lib.Dec.{eqb}
use lib.ListN.{length, get_or, take, drop, drop_of_length-le, length-drop, take-append-drop}
use borrow.Author.Tests.{ne_eqb}
use lib.Seq.{drop-cons, drop-drop}
use Rattle.scan.specs.Run.{run, count_not, All, Stops}
use Rattle.scan.proofs.Cases.{cond_in, clash}

-- the run from i on, where the byte at i passes, is one more than the run from the next
pub run_more : (p : ℕ → Bool) (s : List ℕ) (i : ℕ) → i < length s → p (get_or s i 0) ≡ true → i + run p (drop i s) ≡ i + 1 + run p (drop (i + 1) s)
run_more p s i h t = rw (drop-cons s i 0, t) (rw (add-one, add-suc) (omega arith))

-- and none, where it does not
pub run_stop : (p : ℕ → Bool) (s : List ℕ) (i : ℕ) → i < length s → p (get_or s i 0) ≡ false → i + run p (drop i s) ≡ i
run_stop p s i h t = rw (drop-cons s i 0, t) (omega arith)

pub run_end : (p : ℕ → Bool) (s : List ℕ) (i : ℕ) → length s ≤ i → i + run p (drop i s) ≡ i
run_end p s i h = rw (drop_of_length-le s h) (omega arith)

pub run_le : (p : ℕ → Bool) (s : List ℕ) → run p s ≤ length s
run_le p [] = omega arith
run_le p (b ∷ s) = let h = run_le p s in cond_in (λ (n : ℕ). n ≤ length (b ∷ s)) (p b) (λ e. omega arith) (λ e. omega arith)

-- ---- what a run has found

-- a byte of a run passes
pub run_each : (p : ℕ → Bool) (s : List ℕ) (i : ℕ) → i < run p s → p (get_or s i 0) ≡ true
run_each p [] i h = absurd (omega arith)
run_each p (b ∷ s) i h = go i (p b) refl h (run_each p s)
  where
    go : (i : ℕ) (t : Bool) → p b ≡ t → i < cond t (suc (run p s)) 0 → ((j : ℕ) → j < run p s → p (get_or s j 0) ≡ true) → p (get_or (b ∷ s) i 0) ≡ true
    go zero true x h f = x
    go (suc i) true x h f = f i (omega arith)
    go i false x h f = absurd (omega arith)

-- a run that goes to the end passes every byte
pub run_every : (p : ℕ → Bool) (s : List ℕ) (i : ℕ) → run p s ≡ length s → i < length s → p (get_or s i 0) ≡ true
run_every p s i e h = run_each p s i (omega arith)

-- a byte that does not pass stops the run
pub run_short : (p : ℕ → Bool) (s : List ℕ) (i : ℕ) → i < length s → p (get_or s i 0) ≡ false → eqb (run p s) (length s) ≡ false
run_short p s i h e = ne_eqb (run p s) (length s) (λ x. clash (run_every p s i x h) e)

-- the bytes of a run pass, and the byte after it does not
pub run_all : (p : ℕ → Bool) (s : List ℕ) → All p (take (run p s) s)
run_all p [] = tt
run_all p (b ∷ s) = cond_in (λ (n : ℕ). All p (take n (b ∷ s))) (p b) (λ e. (e, run_all p s)) (λ e. tt)

pub run_stops : (p : ℕ → Bool) (s : List ℕ) → Stops p (drop (run p s) s)
run_stops p [] = tt
run_stops p (b ∷ s) = cond_in (λ (n : ℕ). Stops p (drop n (b ∷ s))) (p b) (λ e. run_stops p s) (λ e. e)

-- and this tells the run
pub run_is : (p : ℕ → Bool) (a b : List ℕ) → All p a → Stops p b → run p (a ++ b) ≡ length a
run_is p [] [] h g = refl
run_is p [] (x ∷ b) h g = rw g
run_is p (x ∷ a) b h g = rw h.0 (ap suc (run_is p a b h.1 g))

-- ---- how long a run is

-- a run that is as long as m goes on after m bytes
pub run_past : (p : ℕ → Bool) (m : ℕ) (s : List ℕ) → m ≤ run p s → run p s ≡ m + run p (drop m s)
run_past p zero s h = omega arith
run_past p (suc m) [] h = absurd (omega arith)
run_past p (suc m) (b ∷ s) h = by_test (p b) (run_past p m s) h
  where
    by_test : (t : Bool) → (m ≤ run p s → run p s ≡ m + run p (drop m s)) → suc m ≤ cond t (suc (run p s)) 0 → cond t (suc (run p s)) 0 ≡ suc m + run p (drop m s)
    by_test true f g = omega (arith, f (omega arith))
    by_test false f g = absurd (omega arith)

-- a byte that passes, after others that do, makes it longer
pub run_reach : (p : ℕ → Bool) (s : List ℕ) (i : ℕ) → i < length s → i ≤ run p s → p (get_or s i 0) ≡ true → i + 1 ≤ run p s
run_reach p s i h g t = omega (arith, run_past p i s g, run_more p s i h t)

-- two lists whose bytes pass, one after the other
pub all_append : (p : ℕ → Bool) (s t : List ℕ) → All p s → All p t → All p (s ++ t)
all_append p [] t a b = b
all_append p (x ∷ s) t a b = (a.0, all_append p s t a.1 b)

-- a list is its run and what stands after it
pub run_split : (p : ℕ → Bool) (s : List ℕ) → take (run p s) s ++ drop (run p s) s ≡ s
run_split p s = take-append-drop (run p s) s

-- ---- a block with no byte outside the set is passed at once

-- a count of failures goes on by one byte
pub outs_more : (p : ℕ → Bool) (s : List ℕ) (i n : ℕ) → i < length s → n + cond (p (get_or s i 0)) 0 1 + count_not p (drop (i + 1) s) ≡ n + count_not p (drop i s)
outs_more p s i n h = rw (drop-cons s i 0, add-one) (omega arith)

pub outs_end : (p : ℕ → Bool) (s : List ℕ) (i n : ℕ) → length s ≤ i → n + count_not p (drop i s) ≡ n
outs_end p s i n h = rw (drop_of_length-le s h) (omega arith)

pub clear : (p : ℕ → Bool) (m : ℕ) (s : List ℕ) → count_not p (take m s) ≡ 0 → m ≤ length s → run p s ≡ m + run p (drop m s)
clear p zero s h l = omega arith
clear p (suc m) [] h l = absurd (omega arith)
clear p (suc m) (b ∷ s) h l = by_test (p b) (clear p m s) h
  where
    by_test : (t : Bool) → (count_not p (take m s) ≡ 0 → m ≤ length s → run p s ≡ m + run p (drop m s)) → cond t 0 1 + count_not p (take m s) ≡ 0 → cond t (suc (run p s)) 0 ≡ suc m + run p (drop m s)
    by_test true f g = omega (arith, f (omega arith) (omega arith))
    by_test false f g = absurd (omega arith)

pub run_block : (p : ℕ → Bool) (s : List ℕ) (i m : ℕ) → count_not p (take m (drop i s)) ≡ 0 → i + m ≤ length s → i + run p (drop i s) ≡ i + m + run p (drop (i + m) s)
run_block p s i m h l = rw (← drop-drop) (omega (arith, clear p m (drop i s) h (omega (arith, length-drop i s))))

pub run_part : (p : ℕ → Bool) (s : List ℕ) (i e : ℕ) → count_not p (take (e - i) (drop i s)) ≡ 0 → i ≤ e → e ≤ length s → i + run p (drop i s) ≡ e + run p (drop e s)
run_part p s i e h l g =
    let q : i + (e - i) ≡ e = omega arith in
    rw q at (run_block p s i (e - i) h (omega arith))
