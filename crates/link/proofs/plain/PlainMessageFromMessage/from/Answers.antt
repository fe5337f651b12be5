use Rattle.std.proofs.Common.{rules}
use Rattle.link.proofs.Spelling.{is_written_as}
use Rattle.link.proofs.plain.PlainMessageFromMessage.from.Goals as goal

pub returns : goal.returns
returns c = is_written_as _ _ (search rules)
