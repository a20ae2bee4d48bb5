-- Demand 2, part one, holds: the calls return what the definitions transcribed from the Rust say.
-- Assumes nothing.
use mathlib.Core.Path.{◌≡◌, ◌∙◌}
use mathlib.Core.List.{List}
use Prim.Native.Nat.{ℕ, ◌≤◌}
use native.Mathlib.Omega.{arith}
use Rattle.err.specs.Outcome.{Values, accepted}
use Rattle.literal.specs.Readings.{entry_read, read_at}
use Rattle.literal.proofs.Inside.{entry_inside}
use Rattle.literal.proofs.Answers.{read_own, read_passed, entry_accepted}
use Rattle.demands.specs.Demand1.{Readable}
use Rattle.demands.specs.Demand2.{AsTranscribed, SoundReading, Demand2Transcribed}
use Rattle.demands.proofs.ValueCall.{fine_value}
use Rattle.demands.proofs.DecodeCall.{fine_decode, fine_buffer}

answers : (s : List ℕ) → Readable s → AsTranscribed s
unfolding entry_read
answers s f =
    record {
      any = entry 0 (omega arith);
      bool = entry 1 (omega arith);
      integer = entry 2 (omega arith);
      float = entry 3 (omega arith);
      char = entry 4 (omega arith);
      string = entry 5 (omega arith);
      byte = entry 6 (omega arith);
      byte_string = entry 7 (omega arith);
      c_string = entry 8 (omega arith);
      value = λ code largest v. fine_value code largest s v f;
      decoded = λ k room. fine_decode k room s f;
      buffer = λ k buf. fine_buffer k s buf f;
    }
  where
    entry : (code : ℕ) → code ≤ 8 → read_at code s ≡ entry_read code s
    entry code c = read_own code s c f.short f.utf8

readings : (s : List ℕ) (code k e : ℕ) (vs : Values) → read_at code s ≡ accepted k e vs → SoundReading s code k e vs
unfolding entry_read
readings s code k e vs h =
    let p = read_passed code s h in
    let a = entry_accepted code s p.0 p.3 in
    let i = entry_inside code s p.2 p.0 p.3 in
    record {
      readable = record { short = p.1; utf8 = p.2 };
      kind = (a.0, a.1);
      entry = a.2;
      any = read_own 0 s (omega arith) p.1 p.2 ∙ a.3;
      own = read_own k s a.1 p.1 p.2 ∙ a.4;
      boundaries = i.0;
      rising = i.1;
    }

pub demand_2_transcribed : Demand2Transcribed
demand_2_transcribed = record { answers = answers; readings = readings }
