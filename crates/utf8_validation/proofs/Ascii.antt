-- Whether a text is ASCII, by its two ends and by its highest byte; such a text is UTF-8.
-- Assumes nothing.
use mathlib.Core.Path.{◌≡◌, sym, ◌∙◌}
use mathlib.Core.Bool.{Bool, true, ◌&&◌, and-true, and-false}
use mathlib.Core.List.{List, [], ◌∷◌}
use Prim.Native.Nat.{ℕ, ◌+◌, ◌-◌, ◌≤◌, ◌<◌, max}
use native.Mathlib.Omega.{arith}
use lib.Dec.{ltb, leb, leb-suc-suc}
use lib.ListN.{length, get_or, drop}
use borrow.Author.Tests.{le-leb, lt-leb, lt-ltb, le-ltb, ltb-true}
use Rattle.scan.specs.Run.{run}
use Rattle.scan.specs.Sets.{ascii}
use Rattle.scan.specs.Windows.{all_in}
use Rattle.scan.proofs.Cases.{by_lt}
use Rattle.scan.proofs.Runs.{run_past}
use Rattle.scan.proofs.Windows.{all_each}
use Rattle.utf8.specs.Valid.{is_utf8}
use Rattle.utf8.proofs.Valid.{is_utf8_ascii}
use Rattle.utf8_blocks.specs.HighBytes.{highest_from}
use Rattle.utf8_blocks.proofs.HighBytes.{ascii_low, ascii_high, highest_above}
use Rattle.utf8_validation.specs.Ascii.{is_ascii}

-- what was found at the two ends tells of the whole text
pub ascii_ends : (s : List ℕ) (n : ℕ) {t u : Bool} → n ≤ length s → length s ≤ n + n
    → t ≡ all_in ascii (length s - n) n s → u ≡ all_in ascii 0 n s → (t && u) ≡ is_ascii s
unfolding all_in
ascii_ends s n {t} h l back front = by_lt (run ascii s) n
    (λ g. rw (front, lt-leb n (run ascii s) g, lt-leb (length s) (run ascii s) (omega arith)) (and-false t))
    λ g.
    let m = length s - n in
    let past = run_past ascii m s (omega arith) in
    rw (front, le-leb n (run ascii s) g, back) (and-true (leb n (run ascii (drop m s))) ∙ by_lt (run ascii (drop m s)) n
    (λ o. rw (lt-leb n (run ascii (drop m s)) o, lt-leb (length s) (run ascii s) (omega arith)))
    (λ o. rw (le-leb n (run ascii (drop m s)) o, le-leb (length s) (run ascii s) (omega arith))))

-- by the highest byte
highest_run : (m : ℕ) (s : List ℕ) → m < 128 → ltb (highest_from m s) 128 ≡ leb (length s) (run ascii s)
highest_run m [] h = lt-ltb m 128 h
highest_run m (b ∷ s) h = by_lt b 128
    (λ g. highest_run (max m b) s (omega arith) ∙ rw (ascii_low b (omega arith), leb-suc-suc (length s) (run ascii s)))
    (λ g. rw (ascii_high b (omega arith), le-ltb (highest_from (max m b) s) 128 (omega (arith, highest_above m (b ∷ s) 0 (omega arith)))) (sym (lt-leb (length (b ∷ s)) 0 (omega arith))))

pub ascii_highest : (s : List ℕ) → ltb (highest_from 0 s) 128 ≡ is_ascii s
unfolding all_in
ascii_highest s = highest_run 0 s (omega arith)

-- and UTF-8
pub ascii_utf8 : (t : List ℕ) → is_ascii t ≡ true → true ≡ is_utf8 t
unfolding ascii
ascii_utf8 t e = is_utf8_ascii t λ i h. let z : 0 + i ≡ i = omega arith in rw z at (ltb-true (get_or t (0 + i) 0) 128 (all_each ascii t 0 (length t) i e h))
