use Rattle.std.proofs.Common.{rules}
use Rattle.link.proofs.Spelling.{is_read_as}
use Rattle.link.proofs.plain.MessageTryFromPlainMessage.try_from.Goals as goal

pub returns-in_err-try_from : goal.returns-in_err-try_from
returns-in_err-try_from c = is_read_as _ _ (search rules)

pub returns-in_err-try_from-2 : goal.returns-in_err-try_from-2
returns-in_err-try_from-2 c = is_read_as _ _ (search rules)

pub returns : goal.returns
returns c = is_read_as _ _ (search rules)
