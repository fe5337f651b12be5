use Rattle.marks.proofs.Table.{same-marks, release-is}
use Rattle.marks.proofs.mask.Marks.release.Goals as goal

pub returns : goal.returns
returns c = same-marks _ _ (release-is c.args.self c.args.identifier)
