use Rattle.marks.proofs.Table.{same-marks, hold-is}
use Rattle.marks.proofs.mask.Marks.hold.Goals as goal

pub returns : goal.returns
returns c = same-marks _ _ (hold-is c.args.self c.args.identifier)
