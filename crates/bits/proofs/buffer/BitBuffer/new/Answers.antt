use Rattle.std.proofs.Common.{refl, lit≤}
use Rattle.bits.specs.Bits.{unpack}
use Rattle.bits.proofs.BufferLaws.{zeros-bytes}
use Rattle.bits.proofs.buffer.BitBuffer.new.Goals as goal

pub invariant_of-result : goal.invariant_of-result
unfolding unpack
invariant_of-result c = record { long = refl; each = zeros-bytes 34; room = lit≤ tt; clear = refl }
