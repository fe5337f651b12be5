use Rattle.std.proofs.Common.{◌≡◌, ◌-◌, ◌^◌, ◌<◌, take, drop}
use Rattle.std.specs.Int.Digits.{number_from_digits}
use Rattle.bits.proofs.reading.Bits.read.Given as goal

abbrev pub invariant-loop-place : goal.invariant-loop-place
invariant-loop-place l = record {
  value : l.value ≡ number_from_digits 2 (take (l.place - l.at) (drop l.at l.self));
  small : l.value < 2 ^ (l.place - l.at);
}
