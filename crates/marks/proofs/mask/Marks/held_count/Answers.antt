use Rattle.marks.proofs.Table.{count-is}
use Rattle.marks.proofs.mask.Marks.held_count.Goals as goal

pub returns : goal.returns
returns c = count-is c.args.self
