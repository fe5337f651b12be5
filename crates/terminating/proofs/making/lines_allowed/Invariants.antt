use Rattle.std.proofs.Common.{◌≡◌, length}
use Rattle.terminating.specs.Making.{lines_allowed}
use Rattle.terminating.proofs.making.lines_allowed.Given as goal

abbrev pub invariant-loop-line : goal.invariant-loop-line
invariant-loop-line l = lines_allowed l.lines ≡ lines_allowed l.rest

abbrev pub decreases-loop-line : goal.decreases-loop-line
decreases-loop-line l = length l.rest
