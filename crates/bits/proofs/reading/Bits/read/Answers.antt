use Rattle.std.proofs.Common.{sym, ◌∙◌, arith}
use Rattle.bits.proofs.BitLaws.{taken-done, taken-err, number_step, power_step}
use Rattle.bits.proofs.reading.Bits.read.Goals as goal

pub returns-in_default : goal.returns-in_default
returns-in_default c = sym (taken-err c.args.width c.args.element c.args.self.now c.args.at (omega (arith, c.in_default.ensures)))

pub loop-place-preserved : goal.loop-place-preserved
loop-place-preserved c =
    let b = c.from.ensures in
    record {
      value = number_step c.args.self.now c.args.at c.loop-place.place c.loop-place.value c.from.result (omega arith) (omega arith) c.loop-place.invariant.value (b ∙ c.bit.ensures.value);
      small = power_step c.loop-place.value c.from.result c.args.at c.loop-place.place (omega arith) c.loop-place.invariant.small (omega (arith, c.bit.ensures.bit));
    }

pub returns : goal.returns
returns c = taken-done c.args.width c.args.element c.args.self.now c.args.at c.loop-place.value c.loop-place.place c.in-Some.end c.in-Some.ensures (omega arith) c.loop-place.invariant.value
