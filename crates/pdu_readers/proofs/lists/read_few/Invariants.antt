use Rattle.std.proofs.Common.{◌≡◌, ◌-◌, length}
use Rattle.pdu.specs.Lists.{members, items_heard}
use Rattle.pdu_readers.specs.Reading.{Computes}
use Rattle.pdu_readers.proofs.Several.{after}
use Rattle.pdu_readers.proofs.lists.read_few.Given as goal

abbrev pub invariant-loop : goal.invariant-loop
invariant-loop g l = record {
  heard : (heard : _) → Computes g.F.Fn l.fn.read heard → items_heard heard l.fn.count.count l.fn.source ≡ after (members l.few) (items_heard heard (l.fn.count.count - l.counter) l.source);
  many : length (members l.few) ≡ l.counter;
}
