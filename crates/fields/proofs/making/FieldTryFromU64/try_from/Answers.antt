use Rattle.fields.proofs.Accepted.{accepted}
use Rattle.fields.proofs.making.FieldTryFromU64.try_from.Goals as goal

pub returns-then-bits-WIDTH : goal.returns-then-bits-WIDTH
returns-then-bits-WIDTH g c = accepted _
