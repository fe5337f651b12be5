use Rattle.std.proofs.Common.{arith}
use Rattle.text.proofs.Nibbles.{hex_of-more}
use Rattle.text.proofs.hexadecimal.push_hex.Goals as goal

pub loop-byte-preserved : goal.loop-byte-preserved
loop-byte-preserved c = record {
  written = rw (c.push_digit-in-loop-byte.ensures.bytes, c.push_digit.ensures.bytes, c.loop-byte.invariant.written) (hex_of-more _ c.args.bytes.now c.loop-byte.byte-index c.loop-byte-test.true);
  room = omega arith;
}
