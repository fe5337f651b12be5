use Rattle.bits.proofs.BufferLaws.{same_held}
use Rattle.bits.proofs.buffer.BitBufferPartialEq.eq.Goals as goal

pub returns : goal.returns
returns c = search same_held
