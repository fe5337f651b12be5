use Rattle.bits.proofs.BufferLaws.{adds}
use Rattle.pdu.specs.Bits.{bits_told}
use Rattle.pdu_telling.proofs.Turns.{one_more}
use Rattle.pdu_writing.proofs.spelling.spell.Goals as goal

pub loop-one-preserved : goal.loop-one-preserved
loop-one-preserved c =
    rw (one_more bits_told c.args.told.now c.loop-one.one-index c.one-item.result c.loop-one-test.true c.one-item.is)
    (adds c.loop-one.invariant c.push_told.ensures)
