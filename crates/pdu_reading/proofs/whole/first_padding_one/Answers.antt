use Rattle.std.proofs.Common.{◌/◌, ◌≤◌, sym, ◌∙◌, arith}
use Rattle.pdu.proofs.Rounds.{first_one-none}
use Rattle.pdu_reading.proofs.Padding.{no-padding-one, padding-one, padding-place}
use Rattle.pdu_reading.proofs.whole.first_padding_one.Goals as goal

pub returns-in_err-padding : goal.returns-in_err-padding
returns-in_err-padding c = c.from_residual.ensures ∙ sym (first_one-none c.args.bytes.now c.args.count (omega (arith, c.in_err-padding.ensures.lookup.3)))

pub overflow_add-result : goal.overflow_add-result
overflow_add-result c =
    let got = c.in_ok-padding.ensures.lookup in
    let here : c.args.count / 8 ≤ c.args.count / 8 = omega arith in
    record { fits = padding-place c.args.bytes.now c.args.count c.in_ok-padding.field-0.now got.3.0 (got.4 here 0) c.ranges.count.fits (omega (arith, c.if-padding-eq0.false)) }

pub returns-then-padding-eq0 : goal.returns-then-padding-eq0
returns-then-padding-eq0 c =
    let got = c.in_ok-padding.ensures.lookup in
    let here : c.args.count / 8 ≤ c.args.count / 8 = omega arith in
    no-padding-one c.args.bytes.now c.args.count c.in_ok-padding.field-0.now got.3.0 (got.4 here 0) c.requires c.if-padding-eq0.true

pub returns-else-padding-eq0 : goal.returns-else-padding-eq0
returns-else-padding-eq0 c =
    let got = c.in_ok-padding.ensures.lookup in
    let here : c.args.count / 8 ≤ c.args.count / 8 = omega arith in
    padding-one c.args.bytes.now c.args.count c.in_ok-padding.field-0.now got.3.0 (got.4 here 0) (omega (arith, c.if-padding-eq0.false))
