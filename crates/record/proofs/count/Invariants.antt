use Rattle.std.proofs.Common.{◌≡◌, ◌≤◌, Bool, take}
use Rattle.record.specs.Search.{Computes, count_of}
use Rattle.record.proofs.count.Given as goal

abbrev pub invariant-loop-item : goal.invariant-loop-item
invariant-loop-item g l = record {
  few : l.passing ≤ l.item-index;
  counts : (p : g.row.R.Denot → Bool) → Computes g.F.Fn l.fn.counted p → l.passing ≡ count_of g.R.Record.owned p l.party (take l.item-index l.records);
}
