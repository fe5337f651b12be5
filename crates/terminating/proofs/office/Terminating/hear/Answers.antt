use Rattle.std.proofs.Common.{rules}
use Rattle.terminating.proofs.Calls.{lawful}
use Rattle.terminating.proofs.office.Terminating.hear.Goals as goal

pub returns-in_err-answer-clause-law : goal.returns-in_err-answer-clause-law
returns-in_err-answer-clause-law g c = lawful _ _ _ (search rules)

pub returns-clause-law : goal.returns-clause-law
returns-clause-law g c = lawful _ _ _ (search rules)
