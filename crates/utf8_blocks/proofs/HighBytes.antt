-- Laws of the highest byte: how a loop that looks for it goes on, that no byte is above it, and that a part of a text is ASCII where it is
-- below 128.
-- Assumes nothing.
use mathlib.Core.Path.{◌≡◌, refl, sym, ap, ◌∙◌}
use mathlib.Core.Bool.{true, false}
use mathlib.Core.List.{List, [], ◌∷◌}
use Prim.Native.Nat.{ℕ, zero, suc, ◌+◌, ◌-◌, ◌≤◌, ◌<◌, max}
use native.Mathlib.Numerals.{add-one}
use native.Mathlib.Omega.{arith}
use lib.ListN.{length, get_or, take, drop, drop_of_length-le, length-drop}
use lib.Seq.{drop-cons, take_all, drop-drop}
use borrow.Author.Tests.{ltb-true, lt-ltb, le-ltb}
use Rattle.scan.specs.Run.{run, count_not}
use Rattle.scan.proofs.Runs.{run_each, run_part, clear}
use Rattle.scan.specs.Sets.{ascii}
use Rattle.utf8_blocks.specs.HighBytes.{highest_from}

pub highest_more : (m : ℕ) (s : List ℕ) (i : ℕ) → i < length s → highest_from m (drop i s) ≡ highest_from (max m (get_or s i 0)) (drop (i + 1) s)
highest_more m s i h = rw (drop-cons s i 0, add-one)

pub highest_end : (m : ℕ) (s : List ℕ) (i : ℕ) → length s ≤ i → highest_from m (drop i s) ≡ m
highest_end m s i h = rw (drop_of_length-le s h)

highest_start : (m : ℕ) (s : List ℕ) → m ≤ highest_from m s
highest_start m [] = omega arith
highest_start m (b ∷ s) = omega (arith, highest_start (max m b) s)

pub highest_above : (m : ℕ) (s : List ℕ) (k : ℕ) → k < length s → get_or s k 0 ≤ highest_from m s
highest_above m [] k h = absurd (omega arith)
highest_above m (b ∷ s) zero h = omega (arith, highest_start (max m b) s)
highest_above m (b ∷ s) (suc k) h = highest_above (max m b) s k (omega arith)

-- ---- ASCII bytes

pub ascii_low : (b : ℕ) → b ≤ 127 → ascii b ≡ true
unfolding ascii
ascii_low b h = lt-ltb b 128 (omega arith)

pub ascii_high : (b : ℕ) → 127 < b → ascii b ≡ false
unfolding ascii
ascii_high b h = le-ltb b 128 (omega arith)

-- the bytes that are counted are below 128
pub ascii_each : (s : List ℕ) (n : ℕ) → n ≡ run ascii s → (k : ℕ) → k < n → get_or s k 0 < 0x80
unfolding ascii
ascii_each s n e k h = ltb-true _ _ (run_each ascii s k (omega arith))

-- no byte of a list is 128 or above, where the highest is below
highest_low : (m : ℕ) (s : List ℕ) → highest_from m s < 128 → count_not ascii s ≡ 0
highest_low m [] h = refl
highest_low m (b ∷ s) h =
    rw (ascii_low b (omega (arith, highest_start (max m b) s))) (omega (arith, highest_low (max m b) s h))

-- a part from i to e whose highest byte is below 128 is passed at once
pub ascii_part : (s : List ℕ) (i e : ℕ) → highest_from 0 (take (e - i) (drop i s)) < 128 → i ≤ e → e ≤ length s
    → e + run ascii (drop e s) ≡ i + run ascii (drop i s)
ascii_part s i e h l g = sym (run_part ascii s i e (highest_low 0 (take (e - i) (drop i s)) h) l g)

-- the rest of a text, lent as a slice
lent : (t : List ℕ) (i : ℕ) → take (length t - i) (drop i t) ≡ drop i t
lent t i = take_all (length t - i) (drop i t) (simp length-drop (omega arith))

pub lent_length : (t : List ℕ) (i : ℕ) → length (take (length t - i) (drop i t)) ≡ length t - i
lent_length t i = rw lent (length-drop i t)

-- what is passed of a text, and then of its rest, lent as a slice
pub passed_twice : (t : List ℕ) (a b : ℕ) → a + run ascii (drop a t) ≡ run ascii t
    → b + run ascii (drop b (take (length t - a) (drop a t))) ≡ run ascii (take (length t - a) (drop a t)) → a + b + run ascii (drop (a + b) t) ≡ run ascii t
passed_twice t a b e f =
    let g : b + run ascii (drop b (drop a t)) ≡ run ascii (drop a t) = rw (lent t a) at f in
    omega (arith, e, rw (drop-drop b a t) at g)

-- a block of n bytes whose highest byte is below 128 is passed at once; the rest after it is the end of the text too
pub block_passed : (t rest after : List ℕ) (n : ℕ) → n ≤ length rest → length rest ≤ length t → rest ≡ drop (length t - length rest) t → after ≡ drop n rest
    → highest_from 0 (take n rest) < 128 → length t - length rest + run ascii rest ≡ run ascii t
    → (length after ≤ length t) × (after ≡ drop (length t - length after) t) × (length t - length after + run ascii after ≡ run ascii t)
block_passed t rest after n l g e f h r =
    let q : length after ≡ length rest - n = rw f (length-drop n rest) in
    let m : length t - length rest + n ≡ length t - length after = omega arith in
    let p : run ascii rest ≡ n + run ascii (drop n rest) = clear ascii n rest (highest_low 0 (take n rest) h) l in
    (omega arith, f ∙ ap (drop n) e ∙ rw (drop-drop n (length t - length rest) t, m), omega (arith, rw (← f) at p))
