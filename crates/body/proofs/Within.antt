-- A piece, what closes a body and a refusal lie in the text, and a piece stands for no more bytes than it has.
-- Assumes nothing.
use mathlib.Core.Path.{◌≡◌, subst}
use mathlib.Core.Bool.{not, ◌&&◌}
use mathlib.Core.List.{List, [], ◌∷◌}
use Prim.Native.Nat.{ℕ, ◌+◌, ◌≤◌, ◌<◌}
use native.Mathlib.Omega.{arith}
use lib.Dec.{eqb, ltb}
use lib.ListN.{length, get_or, drop, length-drop}
use Rattle.err.specs.Outcome.{none, between, RefusedIn}
use Rattle.scan.specs.Run.{run}
use Rattle.scan.proofs.Cases.{cond_in, cond_eq, by_lt}
use Rattle.scan.proofs.Runs.{run_le}
use Rattle.scan.proofs.Bytes.{byte_inside}
use Rattle.parse.specs.Sets.{blank}
use Rattle.utf8.specs.Cut.{front}
use Rattle.utf8.proofs.Cuts.{front_length}
use Rattle.escape.specs.Allows.{unicode, allow_nul}
use Rattle.escape.specs.Escape.{Escaped, value, bad, bytes_of, Valid, escape_of}
use Rattle.escape.specs.declared.Allowed.{Allowed}
use Rattle.escape.proofs.Within.{EscapeIn, escape_in}
use Rattle.escape.proofs.Escapes.{too_short}
use Rattle.body.specs.Step.{End, close, refuse, Next, piece, stop, of_escape, line_break_of, backslash_of, plain_of, step_of}
use Rattle.body.specs.Body.{EndFits}

-- of a body's end with m bytes left, where q bytes close it: `EndFits`, and the numbers of litrs's refusals
abbrev pub EndIn : ℕ → ℕ → End → Type 0
EndIn q m close = q ≤ m
EndIn q m (refuse num p) = RefusedIn m num p

pub end_fits : (q m : ℕ) (e : End) → EndIn q m e → EndFits q m e
end_fits q m close h = h
end_fits q m (refuse num p) h = h.2

-- of a step
abbrev pub NextIn : ℕ → ℕ → Next → Type 0
NextIn q m (piece n u) = (0 < n) × (n ≤ m) × (length (bytes_of u) ≤ n) × Valid u
NextIn q m (stop e) = EndIn q m e

break_in : (s : List ℕ) (m : ℕ) → length s + 2 ≤ m → NextIn 1 m (line_break_of s)
unfolding line_break_of
break_in s m h =
    cond_in (NextIn 1 m) (eqb (run blank s) (length s)) (λ e. (omega arith, omega arith, tt))
    λ e. (omega arith, omega (arith, run_le blank s), omega arith, tt)

of_escape_in : (m n : ℕ) (e : Escaped) → 0 < m → m ≤ n → EscapeIn m e → NextIn 1 n (of_escape e)
of_escape_in m n (value u l) p h (a, b, c, d) = (a, omega arith, omega arith, d)
of_escape_in m n (bad num none) p h r = r p
of_escape_in m n (bad num (between a e)) p h r = let i = r p in omega (arith, i.0, i.1, i.2.0, i.2.1)

pub backslash_in : (k : Allowed) (s : List ℕ) → 0 < length s → NextIn 1 (length s) (backslash_of k s)
unfolding backslash_of
backslash_in k s h =
    let P : Next → Type 0 = NextIn 1 (length s) in
    cond_eq P (get_or s 1 0) 10 (λ e. break_in (drop 2 s) (length s) (omega (arith, byte_inside s 1 10 e (omega arith), length-drop 2 s))) λ e.
    by_lt 0 (length (front s))
    (λ p. of_escape_in (length (front s)) (length s) (escape_of k (front s)) p (omega (arith, front_length s)) (escape_in k (front s)))
    (λ p. subst (λ (x : Escaped). P (of_escape x)) (too_short k (front s) (omega arith)) (omega arith))

-- of quoted and raw bodies, which q bytes close
pub plain_in : (k : Allowed) (q b m : ℕ) → 0 < m → (b ≡ 34 → q ≤ m) → NextIn q m (plain_of k b)
unfolding plain_of
plain_in k q b m h c =
    let P : Next → Type 0 = NextIn q m in
    cond_eq P b 13 (λ e. omega arith) λ e.
    cond_eq P b 34 c λ e.
    cond_in P (not (allow_nul k) && eqb b 0) (λ e. omega arith) λ e.
    cond_in P (not (unicode k) && ltb 127 b) (λ e. omega arith) λ e. (omega arith, h, omega arith, tt)

-- THE LAW of quoted bodies
pub step_in : (k : Allowed) (s : List ℕ) → NextIn 1 (length s) (step_of k s)
unfolding step_of
step_in k [] = (omega arith, omega arith, tt)
step_in k (b ∷ s) =
    cond_eq (NextIn 1 (length (b ∷ s))) b 92 (λ e. backslash_in k (b ∷ s) (omega arith))
    (λ e. plain_in k 1 b (length (b ∷ s)) (omega arith) (λ x. omega arith))
