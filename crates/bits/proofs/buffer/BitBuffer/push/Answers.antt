use Rattle.std.proofs.Common.{◌≡◌, ◌-◌, ◌/◌, ◌%◌, ◌^◌, ◌<◌, ◌∙◌, arith}
use Rattle.bits.specs.Bits.{digits}
use Rattle.bits.proofs.BufferLaws.{adds, adds_none-held, digits_more, full-adds, odd, pushed_room, pushed-adds, pushed-holds}
use Rattle.bits.proofs.buffer.BitBuffer.push.Goals as goal

pub overflow_add-self : goal.overflow_add-self
overflow_add-self c =
    let f = c.loop-place.self-inside in
    let h = c.loop-place.invariant.holds in
    record { fits = pushed_room f.bytes f.len c.from-bit.result h.long c.if-self-lt272.true (omega (arith, c.from-bit.ensures ∙ odd _)) h.clear (h.each (f.len / 8)) }

pub loop-place-init : goal.loop-place-init
unfolding digits
loop-place-init c =
    let e : c.args.width - c.args.width ≡ 0 = omega arith in
    record { adds = rw e (adds_none-held c.self.inside c.self.invariant); holds = c.self.invariant }

pub loop-place-preserved-then-self-lt272 : goal.loop-place-preserved-then-self-lt272
loop-place-preserved-then-self-lt272 c =
    let bit : c.from-bit.result ≡ c.args.value / 2 ^ (c.loop-place.place - 1) % 2 = c.from-bit.ensures ∙ odd _ in
    let small : c.from-bit.result < 2 = omega (arith, bit) in
    let old = c.loop-place.invariant in
    record {
      adds = rw (digits_more c.args.width c.loop-place.place c.args.value (omega arith) (omega arith), ← bit) (adds old.adds (pushed-adds c.loop-place.self-inside c.from-bit.result old.holds c.if-self-lt272.true small));
      holds = pushed-holds c.loop-place.self-inside c.from-bit.result old.holds c.if-self-lt272.true small;
    }

pub loop-place-preserved : goal.loop-place-preserved
loop-place-preserved c =
    let old = c.loop-place.invariant in
    record {
      adds = rw (digits_more c.args.width c.loop-place.place c.args.value (omega arith) (omega arith)) (adds old.adds (full-adds c.loop-place.self-inside _ old.holds c.if-self-lt272.false));
      holds = old.holds;
    }
