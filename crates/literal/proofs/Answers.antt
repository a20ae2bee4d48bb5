-- What reading by a code returns: 42, 43, 44, or the entry's own answer; and what holds of every accepted reading.
-- Assumes nothing.
use mathlib.Core.Path.{◌≡◌}
use mathlib.Core.List.{List}
use Prim.Native.Nat.{ℕ, zero, suc, ◌≤◌, ◌<◌}
use native.Mathlib.Omega.{arith}
use borrow.Author.Tests.{leb-true, le-leb, lt-leb}
use lib.Dec.{leb}
use lib.ListN.{length}
use Rattle.err.specs.Outcome.{Values, Outcome, refused, accepted, none}
use Rattle.scan.proofs.Cases.{cond_in, cond_eq}
use Rattle.utf8.specs.Utf8.{Utf8}
use Rattle.integer.proofs.Suffixed.{never}
use Rattle.text_check.specs.Checks.{text_fault}
use Rattle.text_check.proofs.Checks.{long_fault, utf8_fault, no_fault, fault_passed}
use Rattle.literal.specs.Readings.{any_read, entry_read, read_at}
use Rattle.literal.proofs.Entries.{own_entry, any_entry}

module _ (code : ℕ) (s : List ℕ) where
  pub read_bad : 8 < code → read_at code s ≡ refused 42 none
  unfolding read_at
  read_bad h = rw (lt-leb code 8 h)

  pub read_long : code ≤ 8 → 65536 < length s → read_at code s ≡ refused 43 none
  unfolding read_at
  read_long c h = rw (le-leb code 8 c, long_fault s h)

  pub read_not_utf8 : code ≤ 8 → length s ≤ 65536 → (Utf8 s → ⊥) → read_at code s ≡ refused 44 none
  unfolding read_at
  read_not_utf8 c h n = rw (le-leb code 8 c, utf8_fault s h n)

  pub read_own : code ≤ 8 → length s ≤ 65536 → Utf8 s → read_at code s ≡ entry_read code s
  unfolding read_at
  read_own c h u = rw (le-leb code 8 c, no_fault s h u)

  -- what is accepted passed the checks, and the entry accepted it
  pub read_passed : {k e : ℕ} {vs : Values} → read_at code s ≡ accepted k e vs
      → (code ≤ 8) × (length s ≤ 65536) × Utf8 s × (entry_read code s ≡ accepted k e vs)
  unfolding read_at
  read_passed {k} {e} {vs} =
      cond_in P (leb code 8)
      (λ c. cond_eq P (text_fault s) 0 (λ z h. let f = fault_passed s z in (leb-true code 8 c, f.0, f.1, h)) (λ z. never))
      (λ c. never)
    where
      P : Outcome → Type 0
      P o = o ≡ accepted k e vs → (code ≤ 8) × (length s ≤ 65536) × Utf8 s × (entry_read code s ≡ accepted k e vs)

-- an accepted reading has one of the eight kinds, the entry's own but for entry 0; entry 0 and the kind's entry give it too
pub entry_accepted : (code : ℕ) (s : List ℕ) {k e : ℕ} {vs : Values} → code ≤ 8 → entry_read code s ≡ accepted k e vs
    → (1 ≤ k) × (k ≤ 8) × (1 ≤ code → k ≡ code) × (any_read s ≡ accepted k e vs) × (entry_read k s ≡ accepted k e vs)
unfolding entry_read
entry_accepted zero s c h = let o = own_entry s h in (o.0, o.1, (λ l. absurd (omega arith)), h, o.2)
entry_accepted (suc code) s c h =
    let a = any_entry (suc code) s (omega arith) c h in
    let o = own_entry s a.1 in
    (o.0, o.1, (λ l. a.0), a.1, o.2)

-- what an entry from 1 to 8 reads has the entry's kind
pub read_kind : (code : ℕ) (s : List ℕ) {k e : ℕ} {vs : Values} → 1 ≤ code → read_at code s ≡ accepted k e vs → k ≡ code
read_kind code s l h = let p = read_passed code s h in (entry_accepted code s p.0 p.3).2 l
