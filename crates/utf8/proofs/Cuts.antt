-- Cuts by bytes: in a UTF-8 text they are its characters' boundaries; and what holds of the last character in every byte list.
-- Assumes nothing.
use mathlib.Core.Path.{◌≡◌, refl, ap, sym, ◌∙◌, subst}
use mathlib.Core.Bool.{Bool, true, false, cond, not}
use mathlib.Core.Logic.{◌↔◌}
use mathlib.Core.List.{List, [], ◌∷◌, ◌++◌}
use Prim.Native.Nat.{ℕ, zero, suc, ◌+◌, ◌-◌, ◌/◌, ◌≤◌, ◌<◌}
use native.Mathlib.Omega.{arith}
use lib.Dec.{eqb}
use lib.ListN.{length, get_or, take, drop, length-drop, length-append}
use lib.Seq.{length-take-le, get_or-append_seam, get_or-drop}
use borrow.Author.Tests.{eq-eqb, ne_eqb, eqb-true, eqb-false, le-leb, lt-leb, not-true}
use Rattle.scan.specs.Run.{run}
use Rattle.scan.proofs.Cases.{cond_in, by_lt}
use Rattle.scan.proofs.Runs.{run_short}
use Rattle.utf8.specs.Utf8.{Utf8, Boundary, LastChar}
use Rattle.utf8.specs.Cut.{continuation, is_boundary, last_len, front}
use Rattle.utf8.proofs.Text.{Tails, shape, boundary_le, boundary_end, boundary_byte, boundary_at, last_char}

-- in a UTF-8 text the test holds at the boundaries and nowhere else
pub boundary_right : (t : List ℕ) (n : ℕ) → Utf8 t → (is_boundary t n ≡ true) ↔ Boundary t n
unfolding is_boundary continuation
boundary_right t n u =
    by_lt n (length t)
    (λ h. rw (lt-leb (length t) n h) (
      (λ e. boundary_at t u n (omega arith) (eqb-false _ 2 (not-true _ e))),
      (λ b. ap not (ne_eqb _ 2 (boundary_byte t n b))),
    ))
    (λ h. rw (le-leb (length t) n h) (
      (λ e. subst (λ (m : ℕ). Boundary t m) (eqb-true (length t) n e) (boundary_end t u)),
      (λ b. eq-eqb (length t) n (omega (arith, boundary_le t n b))),
    ))

-- ---- the last character in every byte list

-- after the byte at n there are only continuation bytes, and it is none
pub last_at : (s : List ℕ) (n : ℕ) → n < length s → continuation (get_or s n 0) ≡ false → run continuation (drop (suc n) s) ≡ length (drop (suc n) s) → last_len s ≡ length s - n
last_at [] n h e r = absurd (omega arith)
last_at (b ∷ s) zero h e r = rw (eq-eqb (run continuation s) (length s) r) (omega arith)
last_at (b ∷ s) (suc n) h e r = rw (run_short continuation s n (omega arith) e) (omega (arith, last_at s n (omega arith) e r))

-- no byte but continuation bytes
pub last_none : (s : List ℕ) → run continuation s ≡ length s → last_len s ≡ length s
last_none [] e = refl
last_none (b ∷ s) e = rw (eq-eqb (run continuation s) (length s) (go (continuation b) e))
  where
    go : (t : Bool) → cond t (suc (run continuation s)) 0 ≡ suc (length s) → run continuation s ≡ length s
    go true e = omega arith
    go false e = absurd (omega arith)

pub last_le : (s : List ℕ) → last_len s ≤ length s
last_le [] = omega arith
last_le (b ∷ s) =
    let r = last_le s in
    cond_in (λ (n : ℕ). n ≤ suc (length s)) (eqb (run continuation s) (length s)) (λ e. omega arith) (λ e. omega arith)

pub last_pos : (s : List ℕ) → 0 < length s → 0 < last_len s
last_pos [] h = absurd (omega arith)
last_pos (b ∷ []) h = omega arith
last_pos (b ∷ d ∷ s) h =
    cond_in (λ (n : ℕ). 0 < n) (eqb (run continuation (d ∷ s)) (suc (length s))) (λ e. omega arith) (λ e. last_pos (d ∷ s) (omega arith))

-- what follows a byte that is no continuation byte, and starts with it, has the last character that the whole has
pub last_drop : (s : List ℕ) (i : ℕ) → i < length s → continuation (get_or s i 0) ≡ false → (last_len (drop i s) ≡ last_len s) × (i + last_len s ≤ length s)
last_drop [] i h e = absurd (omega arith)
last_drop (b ∷ s) zero h e = (refl, omega (arith, last_le (b ∷ s)))
last_drop (b ∷ s) (suc i) h e =
    let r = last_drop s i (omega arith) e in
    rw (run_short continuation s i (omega arith) e) (r.0, omega arith)

pub front_length : (s : List ℕ) → length (front s) ≡ length s - last_len s
front_length s = length-take-le (length s - last_len s) s (omega arith)

-- so the rest without its last character is told by the rest alone
pub front_drop : (s : List ℕ) (i : ℕ) → i < length s → continuation (get_or s i 0) ≡ false → front (drop i s) ≡ take (length s - last_len s - i) (drop i s)
front_drop s i h e =
    let n : length (drop i s) - last_len s ≡ length s - last_len s - i = omega (arith, length-drop i s) in rw ((last_drop s i h e).0, n)

-- ---- a search from the end

all_run : (l : List ℕ) → ((k : ℕ) → k < length l → continuation (get_or l k 0) ≡ true) → run continuation l ≡ length l
all_run [] h = refl
all_run (b ∷ l) h = rw (h 0 (omega arith)) (ap suc (all_run l (λ k g. h (suc k) (omega arith))))

pub found_none : (s : List ℕ) → ((k : ℕ) → k < length s → continuation (get_or s k 0) ≡ true) → length s ≡ last_len s
found_none s h = sym (last_none s (all_run s h))

pub found_last : (s : List ℕ) (n : ℕ) → n < length s → continuation (get_or s n 0) ≡ false
    → ((k : ℕ) → n + 1 ≤ k → k < length s → continuation (get_or s k 0) ≡ true) → length s - n ≡ last_len s
found_last s n h e after =
    sym (last_at s n h e (all_run (drop (suc n) s)
    (λ k g. rw (get_or-drop (suc n) s k 0) (after (suc n + k) (omega arith) (omega (arith, g, length-drop (suc n) s))))))

-- ---- the last character of a UTF-8 text

run_tails : (l : List ℕ) → Tails l → run continuation l ≡ length l
unfolding continuation
run_tails [] t = refl
run_tails (b ∷ l) t = rw (eq-eqb (b / 64) 2 t.0) (ap suc (run_tails l t.1))

last_after : (p : List ℕ) (f : ℕ) (l : List ℕ) → continuation f ≡ false → Tails l → last_len (p ++ (f ∷ l)) ≡ suc (length l)
last_after [] f l e t = rw (eq-eqb (run continuation l) (length l) (run_tails l t))
last_after (x ∷ p) f l e t =
    rw (run_short continuation (p ++ (f ∷ l)) (length p) (simp length-append (omega arith)) (rw (get_or-append_seam p f l 0) e)) (last_after p f l e t)

-- the last character has that many bytes and no others
pub last_is : (t : List ℕ) (m : ℕ) → LastChar t m → last_len t ≡ m
unfolding continuation
last_is t m (p, s, v, y, e, l) =
    let z = shape s y in
    let is : p ++ (z.0 ∷ z.1) ≡ t = rw z.2 at e in
    ap last_len (sym is) ∙ last_after p z.0 z.1 (ne_eqb _ 2 z.3) z.4 ∙ sym (ap length z.2) ∙ l

pub last_right : (t : List ℕ) → Utf8 t → 0 < length t → LastChar t (last_len t)
last_right t u h = let c = last_char t u h in subst (λ (n : ℕ). LastChar t n) (sym (last_is t c.0 c.1)) c.1

-- THE LAW: in a UTF-8 text that is not empty, the last character has n bytes exactly where `last_len` says so
pub last_exact : (t : List ℕ) (n : ℕ) → Utf8 t → 0 < length t → (last_len t ≡ n) ↔ LastChar t n
last_exact t n u h = (λ e. subst (λ (m : ℕ). LastChar t m) e (last_right t u h), last_is t n)
