use Rattle.bits.proofs.BitLaws.{bits_of-min}
use Rattle.bits.proofs.reading.Bits.new.Goals as goal

pub returns : goal.returns
returns c = bits_of-min c.args.bytes.now c.args.count c.min.result c.ranges.count.fits c.min.ensures c.saturating_mul.ensures
