-- Laws of `Wrote`, what a lent buffer holds after a piece was written to its front.
-- Assumes nothing.
use mathlib.Core.Path.{◌≡◌, refl, ap, sym, ◌∙◌}
use mathlib.Core.List.{List, [], ◌∷◌, ◌++◌, append_assoc, append-nil}
use Prim.Native.Nat.{ℕ, suc, ◌+◌, ◌-◌, ◌≤◌, ◌<◌}
use native.Mathlib.Omega.{arith}
use native.Mathlib.Numerals.{add-one}
use lib.ListN.{length, take, drop, set, get_or, length-append, length-drop, drop_of_length-le}
use lib.Seq.{take_at, drop_at, drop-drop, drop-cons, set_at, take_all, take-suc}
use borrow.Rule.Slice.PartMut.{put_mid}
use Rattle.buffer.specs.Buffer.{over, Wrote}

-- ---- pieces one after the other

pub nothing : (l : List ℕ) → Wrote [] 0 l l
unfolding over
nothing l = record { count = refl; bytes = refl }

pub wrote_length : {p : List ℕ} {n : ℕ} {l out : List ℕ} → Wrote p n l out → length p ≤ length l → length out ≡ length l
unfolding over
wrote_length {p} {n} {l} {out} w h = ap length w.bytes ∙ simp (length-append, length-drop) (omega arith)

-- what was written ends inside the buffer
pub within : {p : List ℕ} {at : ℕ} {l out : List ℕ} → Wrote p at l out → length p ≤ length l → at ≤ length out
within w h = omega (arith, wrote_length w h, w.count)

-- the rest after what was written has room for n more bytes
pub room : {p : List ℕ} {at : ℕ} {l out : List ℕ} (n : ℕ) → Wrote p at l out → length p + n ≤ length l → n ≤ length (take (length out - at) (drop at out))
room {p} {at} {l} {out} n w h =
    let e : length out ≡ length l = wrote_length w (omega arith) in
    rw (take_all (length out - at) (drop at out) (simp length-drop (omega arith)))
    (simp length-drop (omega (arith, w.count)))

-- a piece written into the rest stands after what was written before
pub past : {p q : List ℕ} {at n : ℕ} {l out ys : List ℕ}
    → Wrote p at l out → Wrote q n (take (length out - at) (drop at out)) ys → length p + length q ≤ length l
    → Wrote (p ++ q) (at + n) l (put_mid at (length out - at) out ys)
unfolding over
past {p} {q} {at} {n} {l} {out} {ys} w v h = record {
  count = simp length-append (omega (arith, w.count, v.count));
  bytes = rw (front, end, mid) (simp (append_assoc, append-nil, length-append));
}
  where
    all : take (length out - at) (drop at out) ≡ drop at out
    all = take_all (length out - at) (drop at out) (simp length-drop (omega arith))

    end : drop (length out - at) (drop at out) ≡ []
    end = drop_of_length-le (drop at out) {i = length out - at} (simp length-drop (omega arith))

    front : take at out ≡ p
    front = rw w.bytes (take_at p (drop (length p) l) at (sym w.count))

    back : drop at out ≡ drop (length p) l
    back = rw w.bytes (drop_at p (drop (length p) l) at (sym w.count))

    mid : ys ≡ q ++ drop (length p + length q) l
    mid = v.bytes ∙ rw (all, back) (simp drop-drop)

-- one byte more, stored at its place
pub stored : {p : List ℕ} {at : ℕ} {l out : List ℕ} (a : ℕ) → Wrote p at l out → at < length l → Wrote (p ++ (a ∷ [])) (at + 1) l (set out at a)
unfolding over
stored {p} {at} {l} {out} a w h = record {
  count = simp length-append (omega (arith, w.count));
  bytes = rw (w.bytes, drop-cons l (length p) 0 (omega (arith, w.count)))
      (set_at p (get_or l (length p) 0) (drop (suc (length p)) l) a at (sym w.count) ∙ simp (append_assoc, length-append, add-one));
}

-- a list copied byte by byte: one more, and to its end
pub copied : {i : ℕ} {l out : List ℕ} (piece : List ℕ) → Wrote (take i piece) i l out → i < length piece → i < length l
    → Wrote (take (i + 1) piece) (i + 1) l (set out i (get_or piece i 0))
copied {i} piece w h g =
    let e : take (i + 1) piece ≡ take i piece ++ (get_or piece i 0 ∷ []) = rw (add-one, take-suc piece i 0 h) in rw e (stored _ w g)

pub copied_all : {i : ℕ} {l out : List ℕ} (piece : List ℕ) → Wrote (take i piece) i l out → length piece ≤ i → Wrote piece i l out
copied_all {i} piece w h = rw (take_all i piece h) at w
