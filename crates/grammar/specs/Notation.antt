-- The notation of the Reference's lexer productions: what a production says, as a relation on byte lists.
-- Assumes nothing.
use Rattle.std.specs.Prelude.{◌≡◌, ◌⊎◌, Bool, true, false, ◌&&◌, ◌||◌, List, [], ◌∷◌, ◌++◌, ℕ, zero, suc, ◌≤◌, T, leb, eqb, length}
use Prim.Native.Char.{code}
use Prim.Native.String.{String}
use Rattle.utf8.specs.Utf8.{encode}

infixr 60 ◌·◌
infixr 50 ◌or◌
infixr 70 ◌∪◌
-- a text as it is written here, in UTF-8
abbrev pub bytes : String → List ℕ
bytes Prim.Native.String.[] = []
bytes (Prim.Native.String.◌∷◌ c s) = encode (code c) ++ bytes s

-- the texts of a production
abbrev pub Lang : Type 1
Lang = List ℕ → Type 0

-- a set of bytes
abbrev pub Class : Type 0
Class = ℕ → Bool

-- `[a-b]`, one byte, `|` of sets
abbrev pub range : ℕ → ℕ → Class
range a b c = leb a c && leb c b

abbrev pub byte : ℕ → Class
byte a c = eqb c a

abbrev pub ◌∪◌ : Class → Class → Class
◌∪◌ f g c = f c || g c

abbrev pub all : Class → List ℕ → Bool
all f [] = true
all f (c ∷ s) = f c && all f s

-- the first byte is there and in the set
abbrev pub begins : Class → List ℕ → Bool
begins f [] = false
begins f (c ∷ s) = f c

-- one byte of a set; `SET^*`; `SET^+` is `one f · many f`
abbrev pub one : Class → Lang
one f s = (c : ℕ) × (s ≡ c ∷ []) × T (f c)

abbrev pub many : Class → Lang
many f s = T (all f s)

-- the very bytes
abbrev pub text : List ℕ → Lang
text t s = s ≡ t

-- n times one byte
abbrev pub times : ℕ → ℕ → List ℕ
times zero c = []
times (suc n) c = c ∷ times n c

-- one after the other; `|`; `?`
abbrev pub ◌·◌ : Lang → Lang → Lang
◌·◌ A B s = (u : List ℕ) × (v : List ℕ) × (s ≡ u ++ v) × A u × B v

abbrev pub ◌or◌ : Lang → Lang → Lang
◌or◌ A B s = A s ⊎ B s

abbrev pub opt : Lang → Lang
opt A s = (s ≡ []) ⊎ A s

-- p is the longest beginning of s that is in A, and x is the rest
pub record Longest (A : Lang) (s p x : List ℕ) : Type 0 where
  pub split : s ≡ p ++ x
  pub is : A p
  pub most : (q y : List ℕ) → s ≡ q ++ y → A q → length q ≤ length p

-- s begins with a text of A, the longest, and goes on as f says: `A .. followed by ..`
abbrev pub Followed : Lang → (List ℕ → Bool) → Lang
Followed A f s = (u : List ℕ) × (v : List ℕ) × Longest A s u v × T (f v)
