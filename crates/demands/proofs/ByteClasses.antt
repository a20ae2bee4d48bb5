-- Request e: every byte has the class that 01 lists, by a test of each.
-- Assumes nothing.
use native.Mathlib.Omega.{arith}
use Rattle.parse.specs.Class.{class_of}
use Rattle.parse.proofs.Classes.{class_from}
use Rattle.demands.specs.ByteClasses.{listed, ByteClasses}

pub byte_classes : ByteClasses
unfolding listed class_of
byte_classes b h = class_from listed 0 256 tt b (omega arith) (omega arith)
