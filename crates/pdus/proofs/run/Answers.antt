use Rattle.std.proofs.Common.{rules}
use Rattle.pdu_lines.specs.Lines.{answer_of}
use Rattle.pdus.proofs.run.Goals as goal

pub returns : goal.returns
returns g c = c.answer_lines.ensures answer_of (λ line r bytes given. search rules)
