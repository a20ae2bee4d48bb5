-- `form_value::put_encoded` meets its contract.
-- Assumes nothing.
use mathlib.Core.Path.{◌≡◌, sym}
use mathlib.Core.List.{List}
use Prim.Native.Nat.{ℕ}
use lib.ListN.{length, take, drop}
use lib.Seq.{take_at, length-take-le}
use Rattle.buffer.specs.Buffer.{over, Wrote}
use Rattle.buffer.proofs.Laws as laws
use Rattle.utf8.proofs.Laws.{encode_length}
use Rattle.form_value.proofs.put_encoded.Goals as goal

-- what was written stands in front
front : {p : List ℕ} {n : ℕ} {l out : List ℕ} → Wrote p n l out → take n out ≡ p
unfolding over
front {p} {n} {l} w = rw w.bytes (take_at p (drop (length p) l) n (sym w.count))

pub encode_char-n-requires : goal.encode_char-n-requires
encode_char-n-requires c = (c.requires.0, (encode_length _).1)

pub slice_bounds-bytes-end : goal.slice_bounds-bytes-end
slice_bounds-bytes-end c = laws.within c.encode_char-n.ensures (encode_length _).1

pub slice_bounds-put_forms-end : goal.slice_bounds-put_forms-end
slice_bounds-put_forms-end c = sym (length-take-le _ _ (laws.within c.encode_char-n.ensures (encode_length _).1))

pub put_forms-requires : goal.put_forms-requires
put_forms-requires c = rw (front c.encode_char-n.ensures) c.requires.1

pub returns : goal.returns
returns c = rw (front c.encode_char-n.ensures) at c.put_forms.ensures
