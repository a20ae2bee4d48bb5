-- The flags of a list, part by part, and the run of a scan from an offset.
-- Assumes nothing.
use mathlib.Core.Path.{◌≡◌, refl, ap, sym, ◌∙◌}
use mathlib.Core.Bool.{Bool, true, false, cond}
use mathlib.Core.List.{List, [], ◌∷◌}
use Prim.Native.Nat.{ℕ, zero, suc, ◌+◌, ◌-◌, ◌≤◌, ◌<◌}
use native.Mathlib.Nat.{add_comm}
use native.Mathlib.Omega.{arith}
use lib.ListN.{length, get_or, take, drop, length-drop}
use lib.Seq.{take-nil, drop-nil, drop-drop, get_or-drop}
use Rattle.scan.specs.Run.{run}
use Rattle.scan.specs.Sets.{only}
use Rattle.scan.proofs.Runs as runs
use Rattle.escape.specs.declared.Allowed.{Allowed}
use Rattle.blocks.proofs.Blocks as blocks
use Rattle.raw.specs.Scan.{passes, flags, raw_run}

-- a flag is 1 where its test is true
flag : (t : Bool) → only 1 (cond t 1 0) ≡ t
unfolding only
flag true = refl
flag false = refl

get_or_next : (t : List ℕ) (i : ℕ) → get_or (drop 1 t) i 0 ≡ get_or t (suc i) 0
get_or_next [] i = refl
get_or_next (b ∷ t) i = refl

drop_next : (n : ℕ) (t : List ℕ) → drop n (drop 1 t) ≡ drop (suc n) t
drop_next n [] = drop-nil n
drop_next n (b ∷ t) = refl

module _ (k : Allowed) (m : ℕ) where
  pub length_flags : (s t : List ℕ) → length (flags k m s t) ≡ length s
  length_flags [] t = refl
  length_flags (b ∷ s) t = ap suc (length_flags s (drop 1 t))

  pub get_or_flags : (s t : List ℕ) (i : ℕ) → i < length s → only 1 (get_or (flags k m s t) i 0) ≡ passes k m (get_or s i 0) (get_or t i 0)
  get_or_flags [] t i h = absurd (omega arith)
  get_or_flags (b ∷ s) t zero h = flag (passes k m b (get_or t 0 0))
  get_or_flags (b ∷ s) t (suc i) h = get_or_flags s (drop 1 t) i (omega arith) ∙ ap (passes k m (get_or s i 0)) (get_or_next t i)

  take_flags : (n : ℕ) (s t : List ℕ) → take n (flags k m s t) ≡ flags k m (take n s) (take n t)
  take_flags zero s t = refl
  take_flags (suc n) [] t = refl
  take_flags (suc n) (b ∷ s) [] =
      ap (λ (l : List ℕ). cond (passes k m b 0) 1 0 ∷ l) (take_flags n s [] ∙ ap (flags k m (take n s)) (take-nil n))
  take_flags (suc n) (b ∷ s) (c ∷ t) = ap (λ (l : List ℕ). cond (passes k m b c) 1 0 ∷ l) (take_flags n s t)

  drop_flags : (n : ℕ) (s t : List ℕ) → drop n (flags k m s t) ≡ flags k m (drop n s) (drop n t)
  drop_flags zero s t = refl
  drop_flags (suc n) [] t = refl
  drop_flags (suc n) (b ∷ s) t = drop_flags n s (drop 1 t) ∙ ap (flags k m (drop n s)) (drop_next n t)

-- ---- a scan that stands at i of a text

module _ (k : Allowed) (h m : ℕ) (s : List ℕ) where
  abbrev all : List ℕ
  all = flags k m s (drop h s)

  swap : (i : ℕ) → drop i (drop h s) ≡ drop (i + h) s
  swap i = drop-drop i h s ∙ ap (λ (n : ℕ). drop n s) (add_comm h i)

  rest : (i : ℕ) → run (only 1) (drop i all) ≡ raw_run k h m (drop i s)
  rest i =
      ap (run (only 1)) (drop_flags k m i s (drop h s))
      ∙ ap (λ (t : List ℕ). run (only 1) (flags k m (drop i s) t)) (swap i ∙ sym (drop-drop h i s))

  -- it ends in the text
  pub scan_in : (i : ℕ) → raw_run k h m (drop i s) ≤ length s - i
  scan_in i =
      omega (arith, runs.run_le (only 1) (flags k m (drop i s) (drop h (drop i s))), length_flags k m (drop i s) (drop h (drop i s)), length-drop i s)

  -- it goes on by n bytes
  pub scan_past : (i n : ℕ) → n ≤ raw_run k h m (drop i s) → i + raw_run k h m (drop i s) ≡ i + n + raw_run k h m (drop (i + n) s)
  scan_past i n l =
      let p = runs.run_past (only 1) n (drop i all) (omega (arith, rest i)) in
      omega (arith, rest i, rest (i + n), rw drop-drop at p)

  module _ (i : ℕ) (l : i < length s) where
    size : i < length all
    size = omega (arith, length_flags k m s (drop h s))

    seen : only 1 (get_or all i 0) ≡ passes k m (get_or s i 0) (get_or s (i + h) 0)
    seen = get_or_flags k m s (drop h s) i l ∙ rw (get_or-drop, add_comm h i)

    -- by one byte
    pub scan_more : passes k m (get_or s i 0) (get_or s (i + h) 0) ≡ true → i + raw_run k h m (drop i s) ≡ i + 1 + raw_run k h m (drop (i + 1) s)
    scan_more t = omega (arith, rest i, rest (i + 1), runs.run_more (only 1) all i size (seen ∙ t))

    -- or stops
    pub scan_stop : passes k m (get_or s i 0) (get_or s (i + h) 0) ≡ false → i + raw_run k h m (drop i s) ≡ i
    scan_stop t = omega (arith, rest i, runs.run_stop (only 1) all i size (seen ∙ t))

  -- r is the run in the block of n bytes at i, with the n bytes that stand h bytes after it
  module _ (i n r : ℕ) (is : r ≡ run (only 1) (flags k m (take (i + n - i) (drop i s)) (take (i + n + h - (i + h)) (drop (i + h) s)))) where
    block : r ≡ run (only 1) (take (i + n - i) (drop i all))
    block =
        let same : i + n + h - (i + h) ≡ i + n - i = omega arith in
        is
        ∙ ap (λ (x : ℕ). run (only 1) (flags k m (take (i + n - i) (drop i s)) (take x (drop (i + h) s)))) same
        ∙ ap (λ (t : List ℕ). run (only 1) (flags k m (take (i + n - i) (drop i s)) (take (i + n - i) t))) (sym (swap i))
        ∙ ap (run (only 1)) (sym (take_flags k m (i + n - i) (drop i s) (drop i (drop h s))))
        ∙ ap (λ (t : List ℕ). run (only 1) (take (i + n - i) t)) (sym (drop_flags k m i s (drop h s)))

    -- the scan ends in the block
    pub scan_here : r < n → i + r ≡ i + raw_run k h m (drop i s)
    scan_here g = omega (arith, rest i, blocks.block_stop (only 1) all i n r block g)

    -- or goes on after it
    pub scan_after : n ≤ r → i + raw_run k h m (drop i s) ≡ i + n + raw_run k h m (drop (i + n) s)
    scan_after g = omega (arith, rest i, rest (i + n), blocks.block_past (only 1) all i n r block g)
