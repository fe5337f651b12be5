use Rattle.std.proofs.Common.{sym}
use Rattle.element.specs.Counts.{count-back}
use Rattle.element.proofs.counts.counting.UpToFiveElement.from_code.Goals as goal

pub returns-then-code-le5 : goal.returns-then-code-le5
returns-then-code-le5 c = sym (count-back _)
