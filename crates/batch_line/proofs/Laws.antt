-- Laws of the lines' pieces: one after another, and in hexadecimal.
-- Assumes nothing.
use mathlib.Core.Path.{◌≡◌, refl, ap, sym, ◌∙◌}
use mathlib.Core.List.{List, [], ◌∷◌, ◌++◌, append_assoc, append-nil}
use Prim.Native.Nat.{ℕ, ◌+◌, ◌*◌, ◌-◌, ◌≤◌, ◌<◌}
use native.Mathlib.Nat.{zero-add, add_assoc}
use native.Mathlib.Numerals.{add-one}
use native.Mathlib.Omega.{arith}
use lib.ListN.{length, take, drop, get_or, length-append, take-append-drop}
use lib.Seq.{take_at, drop_at, drop-drop, take-suc, length-take-le}
use borrow.Rule.Slice.PartMut.{put_mid}
use Rattle.buffer.specs.Buffer.{over, Wrote}
use Rattle.buffer.specs.Digits.{hex_digits}
use Rattle.buffer.proofs.Laws as laws
use Rattle.batch_line.specs.Lines.{Added, hexes, hex_piece}

-- ---- one piece after another

-- the first of a line
pub first : {p : List ℕ} {n : ℕ} {l out : List ℕ} → Added p 0 n l out → Wrote p n l out
first {p} {n} {l} {out} w = record { count = w.count ∙ zero-add (length p); bytes = w.bytes }

pub also : {p q : List ℕ} {at n : ℕ} {l out end : List ℕ} → Wrote p at l out → Added q at n out end → Wrote (p ++ q) n l end
unfolding over
also {p} {q} {at} {n} {l} {out} {end} w v = record {
  count = simp length-append (omega (arith, w.count, v.count));
  bytes = v.bytes ∙ rw (ahead, back) (simp (append_assoc, drop-drop, length-append));
}
  where
    ahead : take at out ≡ p
    ahead = rw w.bytes (take_at p (drop (length p) l) at (sym w.count))

    back : drop at out ≡ drop (length p) l
    back = rw w.bytes (drop_at p (drop (length p) l) at (sym w.count))

pub added : {p q : List ℕ} {from at n : ℕ} {l out end : List ℕ} → Added p from at l out → Added q at n out end → from ≤ length l → Added (p ++ q) from n l end
unfolding over
added {p} {q} {from} {at} {n} {l} {out} {end} w v h = record {
  count = simp length-append (omega (arith, w.count, v.count));
  bytes = v.bytes ∙ rw (ahead, back) (simp (append_assoc, drop-drop, length-append, add_assoc));
}
  where
    whole : out ≡ (take from l ++ p) ++ drop (length p) (drop from l)
    whole = w.bytes ∙ simp append_assoc

    size : length (take from l ++ p) ≡ at
    size = simp (length-append, length-take-le from l h) (sym w.count)

    ahead : take at out ≡ take from l ++ p
    ahead = rw whole (take_at (take from l ++ p) (drop (length p) (drop from l)) at size)

    back : drop at out ≡ drop (length p) (drop from l)
    back = rw whole (drop_at (take from l ++ p) (drop (length p) (drop from l)) at size)

pub added_none : (at : ℕ) (l : List ℕ) → at ≤ length l → Added [] at at l l
unfolding over
added_none at l h = record { count = omega arith; bytes = sym (take-append-drop at l) }

-- what was written ends inside the line
pub within : {p : List ℕ} {n : ℕ} {l out : List ℕ} → Wrote p n l out → n ≤ length out
unfolding over
within {p} {n} {l} {out} w = omega (arith, w.count, ap length w.bytes, length-append p (drop (length p) l))

-- ---- a piece written into the rest

front : (at : ℕ) (l : List ℕ) → at ≤ length l → Wrote (take at l) at l l
unfolding over
front at l h = record {
  count = sym (length-take-le at l h);
  bytes = rw (length-take-le at l h) (sym (take-append-drop at l));
}

pub rest : {q : List ℕ} {n : ℕ} {ys : List ℕ} (at : ℕ) (l : List ℕ)
    → Wrote q n (take (length l - at) (drop at l)) ys → at + length q ≤ length l → Added q at (at + n) l (put_mid at (length l - at) l ys)
unfolding over
rest {q} {n} {ys} at l v h = record {
  count = omega (arith, v.count);
  bytes = (laws.past (front at l (omega arith)) v (rw size h)).bytes ∙ simp (append_assoc, drop-drop, length-append, size);
}
  where
    size : length (take at l) ≡ at
    size = length-take-le at l (omega arith)

-- the rest has room
pub room : (at n : ℕ) (l : List ℕ) → at + n ≤ length l → n ≤ length (take (length l - at) (drop at l))
room at n l h = laws.room n (front at l (omega arith)) (rw (length-take-le at l (omega arith)) h)

-- ---- hexadecimal

pub hexes_length : (s : List ℕ) → length (hexes s) ≡ 2 * length s
unfolding hex_digits
hexes_length [] = refl
hexes_length (b ∷ s) = omega (arith, hexes_length s)

hexes_append : (s t : List ℕ) → hexes (s ++ t) ≡ hexes s ++ hexes t
unfolding hex_digits
hexes_append [] t = refl
hexes_append (b ∷ s) t = rw (hexes_append s t)

-- one byte more
pub hexes_more : (s : List ℕ) (i : ℕ) → i < length s → hexes (take (i + 1) s) ≡ hexes (take i s) ++ hex_digits (get_or s i 0)
hexes_more s i h = rw (add-one, take-suc s i 0 h, hexes_append (take i s) (get_or s i 0 ∷ [])) (simp append-nil)

pub hex_some : (s : List ℕ) → (length s ≡ 0 → ⊥) → hex_piece s ≡ 32 ∷ hexes s
hex_some [] h = absurd (h refl)
hex_some (b ∷ s) h = refl
