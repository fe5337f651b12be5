use Rattle.std.proofs.Common.{[], take}
use Rattle.bits.specs.Buffers.{Adds}
use Rattle.pdu.specs.Bits.{all_bits}
use Rattle.pdu_writing.proofs.spelling.spell.Given as goal

abbrev pub invariant-loop-one : goal.invariant-loop-one
invariant-loop-one l = Adds [] (all_bits (take l.one-index l.told)) l.buffer
