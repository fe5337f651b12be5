use Rattle.std.proofs.Common.{◌≡◌, ◌^◌, ◌<◌, drop}
use Rattle.text.specs.Numbers.{decimal_after}
use Rattle.text.proofs.decimal.number.Given as goal

abbrev pub invariant-loop-digit : goal.invariant-loop-digit
invariant-loop-digit l = (decimal_after 0 l.word ≡ decimal_after l.value (drop l.digit-index l.word)) × (l.value < 10 ^ l.digit-index)
