use Rattle.std.proofs.Common.{◌-◌, ◌/◌, ◌^◌}
use Rattle.bits.specs.Bits.{digits}
use Rattle.bits.specs.Buffers.{Adds}
use Rattle.bits.specs.Held.{held, Holds}
use Rattle.bits.proofs.buffer.BitBuffer.push.Given as goal

abbrev pub invariant-loop-place : goal.invariant-loop-place
invariant-loop-place l = record {
  adds : Adds (held l.initial.self-inside) (digits (l.width - l.place) (l.value / 2 ^ l.place)) (held l.self-inside);
  holds : Holds l.self-inside;
}
