-- What stands between the quotes of a raw string. Law `raw_exact` shows that `raw_body` reads exactly this.
-- Assumes nothing.
use Rattle.std.specs.Prelude.{ℕ, suc, ◌≤◌, ◌<◌, ◌≡◌, false, not, ◌&&◌, List, eqb, ltb, get_or, drop}
use Rattle.scan.specs.Run.{run}
use Rattle.scan.specs.Sets.{only}
use Rattle.escape.specs.Allows.{unicode, allow_nul}
use Rattle.escape.specs.declared.Allowed.{Allowed}

-- a byte of a raw body: no CR, and no NUL or byte above 127 where the kind has none
-- 13 is CR
pub record RawChar (k : Allowed) (b : ℕ) : Type 0 where
  pub cr : b ≡ 13 → ⊥
  pub nul : (not (allow_nul k) && eqb b 0) ≡ false
  pub ascii : (not (unicode k) && ltb 127 b) ≡ false

-- a quote that h hashes follow stands at n
-- 34 is `"`, 35 is `#`
abbrev pub ClosesAt : ℕ → List ℕ → ℕ → Type 0
ClosesAt h s n = (get_or s n 0 ≡ 34) × (h ≤ run (only 35) (drop (suc n) s))

-- 01, Quoted kinds: "A raw string closes at its first inner quote followed by its hashes", here at n
pub record RawContent (k : Allowed) (h : ℕ) (s : List ℕ) (n : ℕ) : Type 0 where
  pub closes : ClosesAt h s n
  pub first : (i : ℕ) → i < n → ClosesAt h s i → ⊥
  pub chars : (i : ℕ) → i < n → RawChar k (get_or s i 0)
