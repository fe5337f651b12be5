use Rattle.std.proofs.Common.{replicate, refl}
use Rattle.pdu_lines.proofs.Images.{fits}
use Rattle.pdu_lines.proofs.writing.write_image.Goals as goal

pub unwrap-bits-requires : goal.unwrap-bits-requires
unwrap-bits-requires c = fits c.args.pdu.now c.write_pdu.result (replicate 34 0) c.write_pdu.new.out refl c.write_pdu.ensures.value
