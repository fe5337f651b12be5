use Rattle.std.proofs.Common.{◌≡◌, ◌-◌, length, take}
use Rattle.text.specs.Numbers.{numbers_of}
use Rattle.text.proofs.Lists.{after}
use Rattle.text.proofs.words.Words.numbers.Given as goal

abbrev pub invariant-loop-value : goal.invariant-loop-value
invariant-loop-value g l = record {
  full : length l.value-items ≡ g.row.N;
  read : numbers_of g.row.N l.fn.self ≡ after (take l.value-index l.value-items) (numbers_of (g.row.N - l.value-index) l.self);
}
