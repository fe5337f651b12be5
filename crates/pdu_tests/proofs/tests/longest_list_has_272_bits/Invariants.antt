use Rattle.std.proofs.Common.{◌≡◌, ◌+◌, length}
use Rattle.pdu.specs.Lists.{members}
use Rattle.pdu_tests.proofs.tests.longest_list_has_272_bits.Given as goal

abbrev pub invariant-loop-number : goal.invariant-loop-number
invariant-loop-number g l = length (members l.few) + 1 ≡ l.number
