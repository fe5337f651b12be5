use Rattle.std.proofs.Common.{rules}
use Rattle.frame.proofs.Round.{reads_back}
use Rattle.frame.proofs.frame.Goals as goal

pub returns-clause-reads_back : goal.returns-clause-reads_back
returns-clause-reads_back c = reads_back _ c.bytes.result (search rules)
