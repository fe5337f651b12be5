use Rattle.std.proofs.Common.{rules}
use Rattle.frame_lines.specs.Lines.{answer_of}
use Rattle.frames.proofs.run.Goals as goal

pub returns : goal.returns
returns g c = c.answer_lines.ensures answer_of (λ line r bytes given. search rules)
