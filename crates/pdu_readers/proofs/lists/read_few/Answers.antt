use Rattle.std.proofs.Common.{◌≡◌, Err, sym, ap, ◌∙◌, refl, rules}
use Rattle.pdu.specs.Lists.{members, few_of}
use Rattle.source.specs.Hearing.{named}
use Rattle.pdu_readers.proofs.Several.{stopped, one_more, done, pushed-length}
use Rattle.pdu_readers.proofs.lists.read_few.Goals as goal

pub returns-in_err-item : goal.returns-in_err-item
returns-in_err-item g c = λ heard k.
    let fault = c.in_err-item.field-0.0 in
    let told : c.from_residual.result ≡ Err fault = search rules in
    let no = stopped heard c.args.count.count c.loop.counter c.args.source c.loop.source (members c.loop.few) (c.loop.invariant.heard heard k) fault c.loop-test.true (sym (k c.loop.source c.read.result c.read.ensures) ∙ c.in_err-item.was) in
    told ∙ ap (named few_of) (sym no)

pub loop-preserved : goal.loop-preserved
loop-preserved g c =
    let new = members c.push.new.self in
    record {
      heard = λ heard k. one_more heard c.args.count.count c.loop.counter c.args.source c.loop.source (members c.loop.few) (c.loop.invariant.heard heard k) c.in_ok-item.item c.in_ok-item.rest new c.loop-test.true (sym (k c.loop.source c.read.result c.read.ensures) ∙ c.in_ok-item.was) c.push.ensures;
      many = pushed-length (members c.loop.few) new c.in_ok-item.item c.loop.counter c.loop.invariant.many c.push.ensures;
    }

pub returns : goal.returns
returns g c = λ heard k. done heard c.args.count.count c.loop.counter c.args.source c.loop.source (members c.loop.few) (c.loop.invariant.heard heard k) c.loop.few refl c.loop-test.false
