use Rattle.std.proofs.Common.{arith}
use Rattle.frame.proofs.Slots.{get_or-first_chunks, ok_where_some}
use Rattle.frame.proofs.frames.FramesPlaces.get.Goals as goal

pub unwrap-requires : goal.unwrap-requires
unwrap-requires c = grind (arith, get_or-first_chunks, ok_where_some)

pub returns : goal.returns
returns c = grind (arith, get_or-first_chunks)
