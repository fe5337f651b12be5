use Rattle.std.proofs.Common.{rules}
use Rattle.frame.proofs.Round.{framed}
use Rattle.frame.proofs.message.Goals as goal

pub returns-clause-exact : goal.returns-clause-exact
returns-clause-exact c = framed _ c.value.ensures.bytes _ (search rules)
